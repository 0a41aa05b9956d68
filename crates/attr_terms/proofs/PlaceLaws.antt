-- Tables of the first places of names.
use Rattle.std.proofs.Common.{arith, ℕ, suc, ◌≡◌, ◌+◌, Bool, true, false, not, cond, nat_lt, if◌then◌else◌, List, [], ◌∷◌, ◌++◌, map, length, Option, Some, None, refl, sym, ◌∙◌, ap, unwrap_or, is_some, ◌||◌}
use Rattle.std.specs.Prelude.{position, find, slice_get, option_map, option_and_then}
use Rattle.std.specs.List.{position_or_len, list_any}
use Rattle.std.specs.Str.{bytes_eq}
use Rattle.std.proofs.lemmas.Bool.Decides.{nat_tests}
use Rattle.indexmap.specs.IndexMap.{insert_entry}
use Rattle.attr_terms.specs.declared.places.Places.{Places}
use Rattle.attr_terms.specs.Kinds.{told}
use Rattle.attr_terms.specs.Places.{TellsPlaces, place_in}
use Rattle.attr_terms.proofs.Tables.{Key, same, told-mark}

module _ {X : Type 0} (p : X → Bool) where
  one : (k : ℕ) → 1 + k ≡ suc k
  one k = omega arith

  lt_zero : (n : ℕ) → nat_lt 0 (suc n) ≡ true
  lt_zero n = grind (arith, nat_tests)

  lt_suc : (m n : ℕ) → nat_lt (suc m) (suc n) ≡ nat_lt m n
  lt_suc m n = grind (arith, nat_tests)

  -- the first place, by what the first item is
  pub position-cons : (x : X) (xs : List X) → position p (x ∷ xs) ≡ (if p x then Some 0 else option_map suc (position p xs))
  position-cons x xs = by (p x)
    where
      k : ℕ
      k = position_or_len p xs

      up : (b : Bool) → cond b (Some (suc k)) None ≡ option_map suc (cond b (Some k) None)
      up true = refl
      up false = refl

      by : (b : Bool) → cond (nat_lt (cond (not b) (1 + k) 0) (suc (length xs))) (Some (cond (not b) (1 + k) 0)) None ≡ (if b then Some 0 else option_map suc (position p xs))
      by true = ap (λ (b : Bool). cond b (Some 0) None) (lt_zero (length xs))
      by false = ap (λ n. cond (nat_lt n (suc (length xs))) (Some n) None) (one k) ∙ ap (λ (b : Bool). cond b (Some (suc k)) None) (lt_suc k (length xs)) ∙ up (nat_lt k (length xs))

  abbrev pushed : Bool → Option ℕ → ℕ → Option ℕ
  pushed b o n = if b then Some (unwrap_or o n) else o

  pub position-push : (xs : List X) (y : X) → position p (xs ++ y ∷ []) ≡ pushed (p y) (position p xs) (length xs)
  position-push [] y = position-cons y []
  position-push (x ∷ xs) y = position-cons x (xs ++ y ∷ []) ∙ ap (λ o. if p x then Some 0 else option_map suc o) (position-push xs y) ∙ by (p x) (p y) (position p xs) ∙ ap (λ o. pushed (p y) o (suc (length xs))) (sym (position-cons x xs))
    where
      by : (a b : Bool) (o : Option ℕ) → (if a then Some 0 else option_map suc (pushed b o (length xs))) ≡ pushed b (if a then Some 0 else option_map suc o) (suc (length xs))
      by true true o = refl
      by true false o = refl
      by false true None = refl
      by false true (Some n) = refl
      by false false o = refl

  -- there is a place where there is an item
  pub is_some-position : (xs : List X) → is_some (position p xs) ≡ list_any p xs
  is_some-position [] = refl
  is_some-position (x ∷ xs) = ap is_some (position-cons x xs) ∙ by (p x) (position p xs) (is_some-position xs)
    where
      by : (b : Bool) (o : Option ℕ) → is_some o ≡ list_any p xs → is_some (if b then Some 0 else option_map suc o) ≡ (b || list_any p xs)
      by true o e = refl
      by false None e = e
      by false (Some n) e = e

  -- the item at the first place
  pub found_at : (xs : List X) → find p xs ≡ option_and_then (λ i. slice_get xs i) (position p xs)
  found_at [] = refl
  found_at (x ∷ xs) = ap (λ o. cond (p x) (Some x) o) (found_at xs) ∙ by (p x) (position p xs) ∙ ap (option_and_then (λ i. slice_get (x ∷ xs) i)) (sym (position-cons x xs))
    where
      by : (b : Bool) (o : Option ℕ) → cond b (Some x) (option_and_then (λ i. slice_get xs i) o) ≡ option_and_then (λ i. slice_get (x ∷ xs) i) (if b then Some 0 else option_map suc o)
      by true o = refl
      by false None = refl
      by false (Some n) = refl

pub position-map : {X Y : Type 0} (f : Y → X) (p : X → Bool) (ys : List Y) → position p (map f ys) ≡ position (λ y. p (f y)) ys
position-map f p [] = refl
position-map f p (y ∷ ys) = position-cons p (f y) (map f ys) ∙ ap (λ o. if p (f y) then Some 0 else option_map suc o) (position-map f p ys) ∙ sym (position-cons (λ y. p (f y)) y ys)

-- one name more
pub add_law : (old new : Places) (k : Key) (place : ℕ) (known : Option ℕ) (v : ℕ) → known ≡ told old.first k.now → v ≡ unwrap_or known place
    → new.first.entries ≡ insert_entry same old.first.entries k v → (names : List (List ℕ)) → place ≡ length names → TellsPlaces old names → TellsPlaces new (names ++ k.now ∷ [])
add_law old new k place known v a b e names l h = record {
  here = λ q.
      told-mark (λ o. unwrap_or o place) old.first.entries new.first.entries k known v a b e q
      ∙ ap (λ o. pushed (λ n. bytes_eq n q) (bytes_eq k.now q) o place) (h.here q)
      ∙ ap (λ n. pushed (λ n. bytes_eq n q) (bytes_eq k.now q) (place_in q names) n) l
      ∙ sym (position-push (λ n. bytes_eq n q) names k.now);
}
