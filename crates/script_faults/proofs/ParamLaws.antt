-- How many parameters a function has that is found by its name.
use Rattle.std.proofs.Common.{arith, ◌≡◌, ◌≤◌, Bool, true, false, List, [], ◌∷◌, length, Option, Some, None, refl, ap, subst}
use Rattle.std.specs.Prelude.{All, unwrap_or}
use Rattle.std.specs.Str.{bytes_eq}
use Rattle.std.proofs.lemmas.List.Elements.{All-head, All-tail}
use Rattle.edl_interface.specs.declared.Function.{Function}
use Rattle.call_script.specs.Spelling.{Word}
use Rattle.call_script.specs.Standing.{named, params_of}

abbrev HasFew : Function → Type 0
HasFew f = length f.params ≤ 64

found-few : (fs : List Function) (w : Word) (f : Function) → All HasFew fs → named fs w ≡ Some f → HasFew f
found-few [] w f h e = absurd cc
found-few (g ∷ fs) w f h e = go (bytes_eq g.name w) refl e (found-few fs w f (All-tail HasFew g fs h))
  where
    go : (t : Bool) → bytes_eq g.name w ≡ t → named (g ∷ fs) w ≡ Some f → (named fs w ≡ Some f → HasFew f) → HasFew f
    go true k e rest =
        let found = rw k at e in subst HasFew (ap (λ o. unwrap_or o g) found) (All-head HasFew g fs h)
    go false k e rest = rest (rw k at e)

pub few_params : (fs : List Function) (w : Word) → All (λ f. length f.params ≤ 64) fs → length (params_of (named fs w)) ≤ 64
few_params fs w h = go (named fs w) refl
  where
    go : (o : Option Function) → named fs w ≡ o → length (params_of o) ≤ 64
    go None e = omega arith
    go (Some f) e = found-few fs w f h e
