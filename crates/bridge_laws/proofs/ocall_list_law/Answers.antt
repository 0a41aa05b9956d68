use Rattle.std.proofs.Common.{ℕ, suc, ◌≡◌, Bool, true, false, if◌then◌else◌, List, [], ◌∷◌, length, Some, refl, ap, ◌∙◌}
use Rattle.edl_interface.specs.declared.Param.{Param}
use Rattle.edl_interface.specs.declared.Function.{Function}
use Rattle.edl_interface.specs.Order.{AreInOrder}
use Rattle.edl_interface.specs.Parameters.{has_frame}
use Rattle.edl_interface.specs.Runnable.{IsRunnableFunction}
use Rattle.enclave_memory.specs.Arguments.{Argument, number, bytes}
use Rattle.call_machine.specs.declared.Machine.{Machine}
use Rattle.call_machine.specs.Context.{Context}
use Rattle.call_machine.specs.Ocall.{Handlers, ocall_or_refusal}
use Rattle.bridge_program.specs.declared.Instr.TheVariants.{OBegin, OEnter, OEnd}
use Rattle.bridge_program.specs.Lists.{frame_list, ocall_list}
use Rattle.bridge_laws.specs.Proxy.{ocall_by_list, AreFit}
use Rattle.bridge_laws.proofs.Bare.{bare_is_ocall}
use Rattle.bridge_laws.proofs.Fields.{fields_apart}
use Rattle.bridge_laws.proofs.ProxyWhole.{frame_list_is_ocall}
use Rattle.bridge_laws.proofs.ocall_list_law.Goals as goal

as_many : (ps : List Param) (args : List Argument) → AreFit ps args → length ps ≡ length args
as_many [] [] t = refl
as_many [] (a ∷ args) t = absurd t
as_many (p ∷ ps) [] t = absurd t
as_many (p ∷ ps) (number n ∷ args) t = ap (λ k. suc k) (as_many ps args t.1)
as_many (p ∷ ps) (bytes b ∷ args) t = ap (λ k. suc k) (as_many ps args t.1)

by_frame : (m : Machine) (handlers : Handlers) (cx : Context) (ordinal : ℕ) (arguments : List Argument) (f : Function) (b : Bool) → has_frame f ≡ b
    → IsRunnableFunction false f → AreFit f.params arguments → AreInOrder 0 f.frame_size f.params
    → ocall_by_list m handlers cx ordinal arguments f (ocall_list f) ≡ ocall_or_refusal m handlers cx ordinal arguments (Some f)
by_frame m handlers cx ordinal arguments f true h runnable t o =
    ap (λ (b : Bool). ocall_by_list m handlers cx ordinal arguments f (if b then frame_list f else OBegin ∷ OEnter ∷ OEnd ∷ [])) h
    ∙ frame_list_is_ocall m handlers cx ordinal arguments f (as_many f.params arguments t) (fields_apart arguments f t o) h
by_frame m handlers cx ordinal arguments f false h runnable t o = bare_is_ocall m handlers cx ordinal arguments f h (runnable.no_frame h)

pub returns : goal.returns
returns c = λ m handlers cx ordinal arguments f runnable t o. by_frame m handlers cx ordinal arguments f (has_frame f) refl runnable t o
