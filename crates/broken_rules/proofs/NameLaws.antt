-- Tables of the earliest tokens of names.
use Rattle.std.proofs.Common.{arith, ℕ, ◌≡◌, ◌+◌, ◌<◌, min, Bool, true, false, ◌&&◌, ◌||◌, nat_lt, if◌then◌else◌, List, [], ◌∷◌, ◌++◌, map, length, take, get_or, Option, Some, None, refl, sym, ◌∙◌, ap, add-one, append_assoc, append-nil, subst}
use Rattle.std.specs.Prelude.{fold}
use Rattle.std.specs.List.{flat_map, list_any}
use Rattle.std.specs.Str.{bytes_eq}
use Rattle.std.proofs.Math.Seq.{take-suc}
use Rattle.std.proofs.lemmas.List.{map-append}
use Rattle.std.proofs.lemmas.List.Sums.{fold-append}
use Rattle.std.proofs.lemmas.Grind.{flat_map-append}
use Rattle.std.proofs.lemmas.Bool.Decides.{nat_tests}
use Rattle.indexmap.specs.IndexMap.{insert_entry}
use Rattle.edl_grammar.specs.declared.NameAt.{NameAt}
use Rattle.broken_rules.specs.declared.names.Names.{Names}
use Rattle.attr_terms.specs.Kinds.{told}
use Rattle.broken_rules.specs.Names.{TellsNames, with_name, earliest, earlier_of, is_before}
use Rattle.attr_terms.specs.Rules.{at, is_second}
use Rattle.attr_terms.proofs.Tables.{Key, same, told-mark}

-- one name more
pub add_law : (old new : Names) (k : Key) (token : ℕ) (known : Option ℕ) (v : ℕ) → known ≡ told old.earliest k.now → v ≡ earlier_of known token
    → new.earliest.entries ≡ insert_entry same old.earliest.entries k v → (list : List NameAt) → TellsNames old list → TellsNames new (list ++ at token k.now ∷ [])
add_law old new k token known v a b e list h = record {
  here = λ q.
      told-mark (λ o. earlier_of o token) old.earliest.entries new.earliest.entries k known v a b e q
      ∙ ap (λ t. with_name q t (at token k.now)) (h.here q)
      ∙ sym (fold-append (with_name q) None list (at token k.now ∷ []));
}

min_before : (m k n : ℕ) → nat_lt (min m k) n ≡ (nat_lt m n || nat_lt k n)
min_before m k n = grind (arith, nat_tests)

or_false : (b : Bool) → b ≡ (b || false)
or_false true = refl
or_false false = refl

or_assoc : (a b c : Bool) → ((a || b) || c) ≡ (a || (b || c))
or_assoc true b c = refl
or_assoc false b c = refl

before_from : (q : List ℕ) (n : ℕ) (t : Option ℕ) (list : List NameAt) → is_before (fold (with_name q) t list) n ≡ (is_before t n || list_any (λ y. bytes_eq y.name q && nat_lt y.token n) list)
before_from q n t [] = or_false (is_before t n)
before_from q n t (y ∷ ys) = before_from q n (with_name q t y) ys ∙ step t (bytes_eq y.name q)
  where
    rest : Bool
    rest = list_any (λ y. bytes_eq y.name q && nat_lt y.token n) ys

    step : (t : Option ℕ) (b : Bool) → (is_before (if b then Some (earlier_of t y.token) else t) n || rest) ≡ (is_before t n || ((b && nat_lt y.token n) || rest))
    step None true = refl
    step (Some m) true = ap (λ (b : Bool). b || rest) (min_before m y.token n) ∙ or_assoc (nat_lt m n) (nat_lt y.token n) rest
    step t false = refl

-- what the table tells is what the list says
pub second_law : (names : Names) (token : ℕ) (name : List ℕ) (list : List NameAt) → TellsNames names list → is_before (told names.earliest name) token ≡ is_second list (at token name)
second_law names token name list h = ap (λ t. is_before t token) (h.here name) ∙ before_from name token None list

-- ---- one turn of a loop

module _ {X : Type 0} where
  pub map_more : {Y : Type 0} (f : X → Y) (xs : List X) (i : ℕ) (d : X) → i < length xs → map f (take (i + 1) xs) ≡ map f (take i xs) ++ f (get_or xs i d) ∷ []
  map_more f xs i d h = ap (map f) (ap (λ n. take n xs) (add-one i) ∙ take-suc xs i d h) ∙ map-append f (take i xs) (get_or xs i d ∷ [])

  pub flat_more : {Y : Type 0} (g : X → List Y) (xs : List X) (i : ℕ) (d : X) → i < length xs → flat_map g (take (i + 1) xs) ≡ flat_map g (take i xs) ++ g (get_or xs i d)
  flat_more g xs i d h =
      ap (flat_map g) (ap (λ n. take n xs) (add-one i) ∙ take-suc xs i d h) ∙ flat_map-append g (take i xs) (get_or xs i d ∷ [])
      ∙ ap (λ ys. flat_map g (take i xs) ++ ys) (append-nil (g (get_or xs i d)))

  -- a name is put behind those of the turns before
  pub names_more : (f : X → NameAt) (xs : List X) (i : ℕ) (d : X) (new : Names) (list : List NameAt) → i < length xs
      → TellsNames new ((list ++ map f (take i xs)) ++ f (get_or xs i d) ∷ []) → TellsNames new (list ++ map f (take (i + 1) xs))
  names_more f xs i d new list h t =
      subst (TellsNames new) (append_assoc list (map f (take i xs)) (f (get_or xs i d) ∷ []) ∙ ap (λ ys. list ++ ys) (sym (map_more f xs i d h))) t

  -- one turn of a loop that puts names in, where this is the name that is put in
  pub names_step : (f : X → NameAt) (xs : List X) (i : ℕ) (d : X) (old new : Names) (list : List NameAt) (x : NameAt) → i < length xs → x ≡ f (get_or xs i d)
      → ((l : List NameAt) → TellsNames old l → TellsNames new (l ++ x ∷ [])) → TellsNames old (list ++ map f (take i xs)) → TellsNames new (list ++ map f (take (i + 1) xs))
  names_step f xs i d old new list x h e add before =
      names_more f xs i d new list h (subst (λ (y : NameAt). TellsNames new ((list ++ map f (take i xs)) ++ y ∷ [])) e (add (list ++ map f (take i xs)) before))
