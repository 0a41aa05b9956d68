-- The answer to a check, by the first rule that is broken.
use Rattle.std.proofs.Common.{◌≡◌, List, [], ◌∷◌, Some, None, refl, ap}
use Rattle.std.specs.Prelude.{slice_get, Result, Ok, Err}
use Rattle.std.proofs.lemmas.Option.{none-some, same_Some}
use Rattle.edl_grammar.specs.declared.Gathered.{Gathered}
use Rattle.edl_grammar.specs.Files.{fault_in}
use Rattle.edl_layout.specs.declared.NamedShape.{NamedShape}
use Rattle.edl_interface.specs.declared.Interface.{Interface}
use Rattle.attr_rules.specs.declared.RuleFault.{RuleFault}
use Rattle.attr_rules.specs.declared.RuleFault.TheVariants as faults
use Rattle.attr_terms.specs.declared.Broken.{Broken}
use Rattle.attr_terms.specs.Accepted.{interface_of}
use Rattle.attr_rules.specs.Checked.{answer}

module _ (g : Gathered) (table : List NamedShape) where
  pub answer-first : (bs : List Broken) (b : Broken) → slice_get bs 0 ≡ Some b → ◌≡◌ {A = Result Interface RuleFault} (answer g table bs) (Err (faults.Rule (fault_in g b.file b.token b.code)))
  answer-first [] b e = absurd (none-some b e)
  answer-first (c ∷ cs) b e = ap (λ (d : Broken). let r : Result Interface RuleFault = Err (faults.Rule (fault_in g d.file d.token d.code)) in r) (same_Some c b e)

  pub answer-none : (bs : List Broken) → slice_get bs 0 ≡ None → ◌≡◌ {A = Result Interface RuleFault} (answer g table bs) (Ok (interface_of g table))
  answer-none [] e = refl
  answer-none (b ∷ bs) e = cc
