-- Tables of the first places of names, after one function more.
use Rattle.std.proofs.Common.{arith, ℕ, ◌+◌, ◌<◌, ◌≡◌, Bool, true, false, true≢false, cond, if◌then◌else◌, List, [], ◌∷◌, ◌++◌, length, Option, Some, None, refl, sym, ◌∙◌, ap, Bor}
use Rattle.std.specs.Prelude.{nat_lt, position, unwrap_or, IfSome}
use Rattle.std.specs.List.{position_or_len}
use Rattle.std.specs.Map.{lookup}
use Rattle.std.specs.Str.{bytes_eq}
use Rattle.std.proofs.lemmas.Bool.{ltb-true}
use Rattle.std.proofs.lemmas.Cmp.{nat_list_eq_equiv}
use Rattle.std.proofs.lemmas.Option.{cond_some}
use Rattle.std.proofs.lemmas.Slice.Eq.{bytes_eq-Decides}
use Rattle.indexmap.specs.IndexMap.{IndexMap, insert_entry}
use Rattle.edl_interface.specs.declared.Function.{Function}
use Rattle.call_script.specs.Spelling.{Word}
use Rattle.call_script.specs.Meaning.{ordinal_in}
use Rattle.script_values.specs.Functions.{told, TellsPlaces}
use Rattle.script_values.proofs.NameLaws.{in_first, in_second, in_neither}

-- ---- entries

abbrev Key : Type 0
Key = Bor (List ℕ)

abbrev same : Key → Key → Bool
same x y = bytes_eq x.now y.now

abbrev at_name : Word → List (Key × ℕ) → Option ℕ
at_name w es = lookup (λ name. bytes_eq w name.now) es

replaced : (c : Bool) (e v : ℕ) (r : Option ℕ) → cond c (Some v) r ≡ cond c (Some v) (cond c (Some e) r)
replaced true e v r = refl
replaced false e v r = refl

kept : (c b : Bool) (e v : ℕ) (r : Option ℕ) → (b ≡ true → c ≡ false)
    → cond c (Some e) (cond b (Some v) r) ≡ cond b (Some v) (cond c (Some e) r)
kept true true e v r h = absurd (true≢false (h refl))
kept false true e v r h = refl
kept c false e v r h = refl

inserted : (es : List (Key × ℕ)) (k : Key) (v : ℕ) (w : Word)
    → at_name w (insert_entry same es k v) ≡ cond (bytes_eq k.now w) (Some v) (at_name w es)
inserted [] k v w = ap (λ (b : Bool). cond b (Some v) None) (nat_list_eq_equiv.symm w k.now)
inserted (e ∷ es) k v w = by (same k e.0) refl (inserted es k v w)
  where
    by : (b : Bool) → same k e.0 ≡ b
        → at_name w (insert_entry same es k v) ≡ cond (bytes_eq k.now w) (Some v) (at_name w es)
        → at_name w (if b then (e.0, v) ∷ es else e ∷ insert_entry same es k v)
        ≡ cond (bytes_eq k.now w) (Some v) (cond (bytes_eq w e.0.now) (Some e.1) (at_name w es))
    by true t rest =
        let s : bytes_eq w e.0.now ≡ bytes_eq k.now w =
        nat_list_eq_equiv.symm w e.0.now ∙ sym (nat_list_eq_equiv.congr k.now e.0.now w t) in
        replaced (bytes_eq w e.0.now) e.1 v (at_name w es)
        ∙ ap (λ (b : Bool). cond b (Some v) (cond (bytes_eq w e.0.now) (Some e.1) (at_name w es))) s
    by false f rest =
        ap (λ (r : Option ℕ). cond (bytes_eq w e.0.now) (Some e.1) r) rest
        ∙ kept (bytes_eq w e.0.now) (bytes_eq k.now w) e.1 v (at_name w es)
        (λ t. sym (nat_list_eq_equiv.congr k.now w e.0.now t) ∙ f)

-- ---- places

module _ (fs : List Function) (w : Word) where
  abbrev is : Function → Bool
  is f = bytes_eq f.name w

  pub place_within : (o : Option ℕ) → o ≡ ordinal_in fs w → IfSome o (λ place. place < length fs)
  place_within None e = tt
  place_within (Some k) e =
      let here = cond_some (nat_lt (position_or_len is fs) (length fs)) (position_or_len is fs) k (sym e) in
      let less : position_or_len is fs < length fs = ltb-true _ _ here.0 in
      omega (arith, less, here.1)

  -- the first place of a name, with one function more
  more : (f : Function)
      → ordinal_in (fs ++ f ∷ []) w ≡ cond (is f) (Some (unwrap_or (ordinal_in fs w) (length fs))) (ordinal_in fs w)
  more f = by (is f) (ordinal_in fs w) refl refl
    where
      by : (b : Bool) (o : Option ℕ) → is f ≡ b → ordinal_in fs w ≡ o
          → ordinal_in (fs ++ f ∷ []) w ≡ cond b (Some (unwrap_or o (length fs))) o
      by true (Some k) e h = in_first is fs (f ∷ []) k h
      by false (Some k) e h = in_first is fs (f ∷ []) k h
      by true None e h =
          let here : position is (f ∷ []) ≡ Some 0 = rw e refl in
          let sum : length fs + 0 ≡ length fs = omega arith in
          in_second is fs (f ∷ []) h 0 here ∙ ap Some sum
      by false None e h = let none : position is (f ∷ []) ≡ None = rw e refl in in_neither is fs (f ∷ []) h none

-- no function
pub tells_none : {S : Type 0} (table : IndexMap Key ℕ S) → table.entries ≡ [] → TellsPlaces table []
unfolding TellsPlaces
tells_none table e w = ap (at_name w) e

-- one function more
pub tells_more : {S : Type 0} (old new : IndexMap Key ℕ S) (name : Key) (known : Option ℕ) (place put : ℕ) (f : Function)
    → name.now ≡ f.name → known ≡ told old name.now → put ≡ unwrap_or known place
    → new.entries ≡ insert_entry same old.entries name put → (fs : List Function) → place ≡ length fs
    → TellsPlaces old fs → TellsPlaces new (fs ++ f ∷ [])
unfolding TellsPlaces
tells_more old new name known place put f a b c d fs l h w =
    ap (at_name w) d ∙ inserted old.entries name put w
    ∙ by (bytes_eq name.now w) refl
    ∙ ap (λ n. cond (bytes_eq n w) (Some (unwrap_or (ordinal_in fs w) (length fs))) (ordinal_in fs w)) a
    ∙ sym (more fs w f)
  where
    by : (t : Bool) → bytes_eq name.now w ≡ t
        → cond t (Some put) (at_name w old.entries)
        ≡ cond t (Some (unwrap_or (ordinal_in fs w) (length fs))) (ordinal_in fs w)
    by false e = h w
    by true e =
        let names : name.now ≡ w = (bytes_eq-Decides name.now w).0 e in
        ap Some (c ∙ ap (λ o. unwrap_or o place) (b ∙ h name.now ∙ ap (ordinal_in fs) names)
        ∙ ap (unwrap_or (ordinal_in fs w)) l)
