-- The races of the lines that are left.
use Rattle.std.proofs.Common.{arith, ◌≡◌, ℕ, zero, suc, ◌-◌, ◌^◌, length, drop, ◌<◌, List, [], ◌∷◌, ◌++◌, ap, sym, ◌∙◌, append_assoc, append-nil, subst}
use Rattle.std.specs.Prelude.{flat_map}
use Rattle.std.specs.List.{AllByRecursion}
use Rattle.word_port.specs.declared.Race.{Race}
use Rattle.call_script.specs.Line.{Line}
use Rattle.call_script.specs.Meaning.{races_from, races_in}
use Rattle.script_value.specs.Initial.{IsSmallRace}

abbrev pub AreSmall : Line → Type 0
AreSmall line = AllByRecursion IsSmallRace (races_in line)

module _ (lines : List Line) where
  module _ (line : Line) (rest : List Line) (first : lines ≡ line ∷ rest) where
    pub turn : (old new : List Race) → new ≡ old ++ races_in line
        → new ++ flat_map races_in rest ≡ old ++ flat_map races_in lines
    turn old new e =
        ap (λ rs. rs ++ flat_map races_in rest) e ∙ append_assoc old (races_in line) (flat_map races_in rest)
        ∙ ap (λ ls. old ++ flat_map races_in ls) (sym first)

    pub first_small : AllByRecursion AreSmall lines → AllByRecursion IsSmallRace (races_in line)
    first_small h = (subst (AllByRecursion AreSmall) first h).0

    pub rest_small : AllByRecursion AreSmall lines → AllByRecursion AreSmall rest
    rest_small h = (subst (AllByRecursion AreSmall) first h).1

  pub end : lines ≡ [] → (races : List Race) → races ≡ races ++ flat_map races_in lines
  end e races = sym (ap (λ ls. races ++ flat_map races_in ls) e ∙ append-nil races)

-- the race of a byte fits
pub small_here : (k index : ℕ) (bytes : List ℕ) (i : ℕ) → i < length bytes
    → AllByRecursion IsSmallRace (races_from k index (drop i bytes)) → (k < 2 ^ 32) × (index < 2 ^ 32 - 1)
small_here k index [] i l h = absurd (omega arith)
small_here k index (b ∷ bytes) zero l h = h.0
small_here k index (b ∷ bytes) (suc i) l h = small_here k index bytes i (omega arith) h
