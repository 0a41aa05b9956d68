-- Every run is protected, by the number of entries that still fit the call stack.
use Rattle.std.proofs.Common.{ℕ, zero, suc, ◌+◌, ◌≡◌, ◌<◌, ◌≤◌, ◌⊎◌, inl, inr, nat_le, Bool, true, false, if◌then◌else◌, List, [], ◌∷◌, length, Some, None, slice_get, refl, ap, sym, subst, arith, zero-add}
use Rattle.std.specs.List.{AllByRecursion}
use Rattle.std.proofs.lemmas.Bool.{leb-false}
use Rattle.std.proofs.lemmas.List.Elements.{recursion_from_All}
use Rattle.sgx_base.specs.Rows.{first_row}
use Rattle.edl_interface.specs.declared.Function.{Function}
use Rattle.edl_interface.specs.Parameters.{has_frame, return_size}
use Rattle.edl_interface.specs.Runnable.{IsRunnableFunction}
use Rattle.word_port.specs.declared.Step.{Step}
use Rattle.word_port.specs.declared.Side.TheVariants.{Enclave}
use Rattle.word_port.specs.Events.{steps_of}
use Rattle.word_port.specs.Limits.{Progress}
use Rattle.word_port.specs.Runs.{Runs}
use Rattle.enclave_memory.specs.Arguments.{Argument}
use Rattle.bridge_program.specs.Entry.{entry_rows}
use Rattle.call_machine.specs.declared.Machine.{Machine}
use Rattle.call_machine.specs.Context.{Context, context_in_ecall, first_context}
use Rattle.call_machine.specs.Result.{Outcome}
use Rattle.call_machine.specs.Ecall.{OcallOutcome}
use Rattle.call_machine.specs.Ocall.{Handlers, handler_context, ocall_by}
use Rattle.call_machine.specs.Served.{handler_acts}
use Rattle.call_machine.specs.Sound.{IsSoundMachine}
use Rattle.call_machine.specs.Thread.{host_actor, handlers_by, no_ocalls, ecalls_to, thread}
use Rattle.call_machine.specs.Reported.{IsReportOf, step_limit, beginning, acts_at, first_thread}
use Rattle.call_laws.proofs.OcallLaws.{ocalls_keep}
use Rattle.run_laws.specs.Calls.{IsMadeIn}
use Rattle.run_laws.specs.Protected.{IsAccountedFor, IsProtectedRun}
use Rattle.run_laws.specs.Reports.{IsProtectedReport}
use Rattle.run_laws.proofs.Triples.{Ensures}
use Rattle.run_laws.proofs.HostStack.{IsOnHost}
use Rattle.run_laws.proofs.InHost.{rows_fail}
use Rattle.run_laws.proofs.Protects.{NoStep, Protects, each_at}
use Rattle.run_laws.proofs.ActLaws.{ProtectsOutcome, acts_protected}
use Rattle.run_laws.proofs.CallLaws.{EcallsProtect, calls_protected, raw_protected}
use Rattle.run_laws.proofs.CallerLaws.{host_other}
use Rattle.run_laws.proofs.FitLaws.{FitOcall}
use Rattle.run_laws.proofs.BodyLaws.{OcallRan}
use Rattle.run_laws.proofs.EcallLaws.{ecall_protected}
use Rattle.run_laws.proofs.OcallLaws.{ocall_ran}

-- an entry that the rows allow finds room on the call stack
has_place : (m : Machine) (cx : Context) (ordinal : ℕ) → first_row (entry_rows m.interface cx.stack ordinal) ≡ None → length cx.stack < 16
has_place m cx ordinal e =
    let last : nat_le 16 (length cx.stack) ≡ false = (rows_fail (entry_rows m.interface cx.stack ordinal) e).1.1.1.0 in
    leb-false 16 (length cx.stack) last

function_at : (P : Function → Type 0) (fs : List Function) → AllByRecursion P fs → (k : ℕ) (f : Function) → slice_get fs k ≡ Some f → P f
function_at P [] h k f e = cc
function_at P (g ∷ fs) h zero f e = let same : g ≡ f = cc in subst P same h.0
function_at P (g ∷ fs) h (suc k) f e = function_at P fs h.1 k f e

-- the handler's stack has the entry that made the OCALL
handler_depth : (b : Bool) (cx : Context) (frame : ℕ) → length (if b then record cx { top = frame } else cx).stack ≡ length cx.stack
handler_depth true cx frame = refl
handler_depth false cx frame = refl

module _ (m : Machine) (sound : IsSoundMachine m) where
  -- handlers, where entries are protected
  handler_protected : (depth : ℕ) → EcallsProtect m depth (ecalls_to m depth) → (cx : Context) → 16 ≤ length cx.stack + depth → IsOnHost m.script.settings.host cx → (ordinal : ℕ) (f : Function) (frame : ℕ) (before : List Step)
      → ProtectsOutcome m cx before (handlers_by m (ecalls_to m depth) cx ordinal f frame)
  handler_protected depth entries cx deep on ordinal f frame before =
      acts_protected m cx (host_actor m (ecalls_to m depth) cx frame (return_size f)) host_other refl
      (calls_protected m (ecalls_to m depth) depth entries cx deep on frame) (raw_protected m (ecalls_to m depth) depth entries cx deep on) (handler_acts m ordinal) before

  runnable_ecall : (ordinal : ℕ) (f : Function) → slice_get m.interface.ecalls ordinal ≡ Some f → IsRunnableFunction true f
  runnable_ecall ordinal f found = function_at (IsRunnableFunction true) m.interface.ecalls (recursion_from_All (IsRunnableFunction true) m.interface.ecalls sound.runnable.ecalls) ordinal f found

  -- entries, by how many more fit
  pub entries_protected : (depth : ℕ) → EcallsProtect m depth (ecalls_to m depth)
  entries_protected zero before cx ordinal address way ordinary deep on =
      let full : first_row (entry_rows m.interface cx.stack ordinal) ≡ None → ⊥ = λ may. let place : length cx.stack < 16 = has_place m cx ordinal may in omega (arith, place, deep) in
      ecall_protected m no_ocalls cx ordinal address way ordinary (λ may log room o arguments fit. absurd (full may)) (sound.bodies ordinal) (runnable_ecall ordinal) (λ may. absurd (full may)) before
  entries_protected (suc depth) before cx ordinal address way ordinary deep on =
      let handlers : Handlers = handlers_by m (ecalls_to m depth) in
      let answers : (log : List Step) (room o : ℕ) (arguments : List Argument) → FitOcall m.interface o arguments
      → Ensures log (λ steps (out : OcallOutcome). OcallRan m (context_in_ecall cx ordinal room) o arguments log steps out) (ocall_by m handlers (context_in_ecall cx ordinal room) o arguments) =
      λ log room o arguments fit.
      let inside : Context = context_in_ecall cx ordinal room in
      ocall_ran m handlers inside o arguments on
      (λ f found. function_at (IsRunnableFunction false) m.interface.ocalls (recursion_from_All (IsRunnableFunction false) m.interface.ocalls sound.runnable.ocalls) o f found)
      fit
      (λ f found frame handler_on more.
      let stack : length (handler_context inside o f frame).stack ≡ suc (length cx.stack) = handler_depth (has_frame f) _ frame in
      handler_protected depth (entries_protected depth) (handler_context inside o f frame) (omega (arith, stack, deep)) handler_on o f frame more) log in
      ecall_protected m (ocall_by m handlers) cx ordinal address way ordinary (λ may log room o arguments fit. answers log room o arguments fit) (sound.bodies ordinal) (runnable_ecall ordinal) (λ may. ocalls_keep m handlers) before

  thread_protected : (before : List Step) → ProtectsOutcome m (first_context m.script.settings 0) before (first_thread m)
  unfolding thread
  thread_protected before =
      let cx : Context = first_context m.script.settings 0 in
      let deep : 16 ≤ length cx.stack + 16 = omega arith in
      let few : m.script.settings.stack ≤ m.script.settings.host = sound.stack in
      let on : IsOnHost m.script.settings.host cx = (omega (arith, few), omega (arith, few)) in
      acts_protected m cx (host_actor m (ecalls_to m 16) cx 0 0) host_other refl
      (calls_protected m (ecalls_to m 16) 16 (entries_protected 16) cx deep on 0) (raw_protected m (ecalls_to m 16) 16 (entries_protected 16) cx deep on) (acts_at m 0) before

  -- a whole run
  pub run_protected : (limit : ℕ) (after : Progress) (outcome : Outcome) → Runs (first_thread m) (beginning m limit) after outcome → IsProtectedRun m outcome.records after.port.log
  run_protected limit after outcome run =
      let steps : List Step = steps_of run.events in
      let h : Protects m (IsMadeIn (first_context m.script.settings 0)) [] steps outcome.records = thread_protected [] run.events outcome run.begun run.places in
      let log_is : after.port.log ≡ steps = ap (λ p. p.log) run.grown in
      let told : IsProtectedRun m outcome.records steps = record {
        calls = h.calls;
        records_are = h.records_are;
        contexts = h.are.contexts;
        protected = h.are.protected;
        steps = λ place s e by_enclave.
            elim (subst (λ k. s.side ≡ Enclave → NoStep s ⊎ IsAccountedFor m h.calls steps k s) (zero-add place)
            (each_at (λ k t. t.side ≡ Enclave → NoStep t ⊎ IsAccountedFor m h.calls steps k t) 0 steps h.are.accesses place s e) by_enclave) [ inl free ↦ absurd free | inr a ↦ a ];
      } in
      subst (λ l. IsProtectedRun m outcome.records l) (sym log_is) told

-- the report of a machine
pub report_protected : (m : Machine) (text : List ℕ) → IsSoundMachine m → IsReportOf m text → IsProtectedReport m text
unfolding IsProtectedReport
report_protected m text sound r = record {
  records = r.outcome.records;
  log = r.after.port.log;
  text_is = r.text_is;
  legal = r.legal;
  protected = run_protected m sound step_limit r.after r.outcome r.run;
}
