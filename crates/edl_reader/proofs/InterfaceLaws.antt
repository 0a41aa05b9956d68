-- What the layouts and the rules of gathered files tell.
use Rattle.std.proofs.Common.{◌≡◌, Bool, inl, inr, List, Result, Ok, Err, refl, ap, sym, ◌∙◌}
use Rattle.std.specs.Prelude.{IfOk, IfErr}
use Rattle.sgx_base.specs.Outcome.{Gives, OrMemory}
use Rattle.sgx_base.specs.declared.Fault.{Fault}
use Rattle.edl_grammar.specs.declared.Gathered.{Gathered}
use Rattle.edl_layout.specs.declared.ForeignTypes.{ForeignTypes}
use Rattle.edl_layout.specs.declared.NamedShape.{NamedShape}
use Rattle.edl_layout.specs.declared.LayoutFault.{LayoutFault}
use Rattle.edl_layout.specs.declared.LayoutFault.TheVariants as laid
use Rattle.edl_layout.specs.Faults.{HasLayoutFault}
use Rattle.edl_interface.specs.declared.Interface.{Interface}
use Rattle.attr_rules.specs.declared.RuleFault.{RuleFault}
use Rattle.attr_rules.specs.declared.RuleFault.TheVariants.{Rule, Memory}
use Rattle.attr_rules.specs.Checked.{checked}
use Rattle.edl_reader.specs.Accepted.{IsAccepted, IsRefused, no_layout, broken, IsLaidOut}
use Rattle.edl_reader.specs.Told.{Told, of_layouts}

told_by : (Is : Fault → Type 0) (e : RuleFault) → ((f : Fault) → e ≡ Rule f → Is f) → OrMemory Memory (Told Is) e
told_by Is (Rule f) h = inr (h f refl)
told_by Is Memory h = inl refl

free : (f : Fault) (e : RuleFault) → e ≡ Rule f → e ≡ Memory → ⊥
free f e p q = let clash : Rule f ≡ Memory = sym p ∙ q in absurd cc

module _ (g : Gathered) (foreign : ForeignTypes) (runner : Bool) where
  -- the refusal of the layouts
  pub told_by_layouts : (e : LayoutFault) → ((e ≡ laid.Memory → ⊥) → HasLayoutFault g foreign e) → OrMemory Memory (Told (IsRefused g foreign runner)) (of_layouts e)
  told_by_layouts e h = told_by (IsRefused g foreign runner) (of_layouts e) (λ f is. no_layout e (h (λ m. free f (of_layouts e) is (ap of_layouts m))) is)

  -- the first broken rule
  pub told_by_rules : (table : List NamedShape) (result : Result Interface RuleFault) → IsLaidOut g foreign table → Gives (λ e. e ≡ Memory) result (checked g table runner) → IfErr result (OrMemory Memory (Told (IsRefused g foreign runner)))
  told_by_rules table (Ok i) l h = tt
  told_by_rules table (Err (Rule f)) l h = inr (broken table l (h (λ m. absurd cc)))
  told_by_rules table (Err Memory) l h = inl refl

  -- no rule is broken
  pub given_by_rules : (table : List NamedShape) (result : Result Interface RuleFault) → IsLaidOut g foreign table → Gives (λ e. e ≡ Memory) result (checked g table runner) → IfOk result (IsAccepted g foreign runner)
  given_by_rules table (Ok i) l h = record { table = table; laid_out = l; accepted = h }
  given_by_rules table (Err e) l h = tt
