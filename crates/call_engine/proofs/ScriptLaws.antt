-- What the readings of a script give, and how their faults are told.
use Rattle.std.proofs.Common.{◌≡◌, inl, inr, true, false, Result, Ok, Err, refl, ap, ◌∙◌}
use Rattle.std.specs.Prelude.{Bool, if◌then◌else◌}
use Rattle.sgx_base.specs.Outcome.{OrMemory}
use Rattle.call_script.specs.declared.Script.{Script}
use Rattle.call_script.specs.declared.ScriptFault.{ScriptFault}
use Rattle.call_script.specs.declared.ScriptFault.TheVariants as rule
use Rattle.call_script.specs.Faults.{Fault}
use Rattle.call_script.specs.Reading.{Reads}
use Rattle.call_engine.specs.declared.faults.PrepareFault.TheVariants.{Memory}
use Rattle.call_engine.specs.Plain.{is_plain, if_plain, not_plain}
use Rattle.call_engine.specs.Told.{of_script, IsFaultOf}

-- a fault of a reading is told of the script
pub told_of : {A : Type 0} (stated : Result A Fault) (e : ScriptFault) → Reads stated (Err e)
    → OrMemory Memory (IsFaultOf stated) (of_script e)
told_of stated (rule.Rule line code) h = inr h
told_of stated rule.Memory h = inl refl

-- ---- whether the engine runs it

abbrev chosen : Bool → Script → Result Script Fault
chosen b s = if b then Ok s else Err not_plain

module _ (stated : Result Script Fault) where
  pub plain_ok : (s : Script) → stated ≡ Ok s → is_plain s ≡ true → if_plain stated ≡ Ok s
  plain_ok s is e = ap if_plain is ∙ ap (λ b. chosen b s) e

  pub plain_err : (s : Script) → stated ≡ Ok s → is_plain s ≡ false → if_plain stated ≡ Err not_plain
  plain_err s is e = ap if_plain is ∙ ap (λ b. chosen b s) e

  pub plain_fault : (e : ScriptFault) → Reads stated (Err e) → Reads (if_plain stated) (Err e)
  plain_fault (rule.Rule line code) h = ap if_plain h
  plain_fault rule.Memory h = tt
