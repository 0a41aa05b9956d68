-- The example's run, and why the other logs and records are no protected run of it.
use Rattle.std.proofs.Common.{ℕ, zero, suc, ◌≡◌, ◌≢◌, ◌<◌, ◌≤◌, ◌⊎◌, inl, inr, true, false, List, [], ◌∷◌, ◌++◌, map, Some, None, refl, ap, sym, ◌∙◌, subst, arith}
use Rattle.std.specs.List.{All, Contains}
use Rattle.std.proofs.lemmas.List.Elements.{All-nil, All-cons}
use Rattle.sgx_base.specs.Rows.{first_row}
use Rattle.sgx_base.specs.declared.Status.{Status}
use Rattle.sgx_base.specs.declared.TheConstants.Status.{SUCCESS, UNEXPECTED, INVALID_PARAMETER, INVALID_FUNCTION}
use Rattle.edl_interface.specs.declared.Param.{Param}
use Rattle.edl_interface.specs.Runnable.{IsPassed, field_end, IsRunnableFunction}
use Rattle.word_port.specs.declared.Step.{Step}
use Rattle.word_port.specs.Events.{Event, ticked, placed, new_record}
use Rattle.word_port.specs.Runs.{Runs}
use Rattle.bridge_program.specs.Entry.{Entered, entry_rows}
use Rattle.call_copy.specs.Copies.{copy_in, copy_out}
use Rattle.body_vm.specs.Execution.{execution}
use Rattle.call_report.specs.declared.CallRecord.{CallRecord}
use Rattle.call_report.specs.declared.CallKind.TheVariants.{Ecall, Ocall}
use Rattle.call_report.specs.declared.Way.TheVariants.{Taken}
use Rattle.call_machine.specs.Acts.{acts_of}
use Rattle.call_machine.specs.Ecall.{ecall_by}
use Rattle.call_machine.specs.Sound.{IsSoundBody, IsSoundMachine}
use Rattle.call_machine.specs.Thread.{thread}
use Rattle.call_machine.specs.Reported.{beginning, first_thread}
use Rattle.call_laws.specs.Examples.{small_function, small_events}
use Rattle.call_laws.specs.Refusing.{IsRefusedRun}
use Rattle.run_laws.specs.Calls.{Call}
use Rattle.run_laws.specs.Ecalls.{IsEcall}
use Rattle.run_laws.specs.Protected.{IsArgumentLoad, IsAnswerStore, IsFrameStore, IsReplyLoad, IsCellStep, IsAccountedFor, IsProtectedCall, IsProtectedRun}
use Rattle.run_laws.specs.Examples.{one_call_machine, record_of, one_call_log, one_call_outcome, one_call_end, second_load, stray_store, wrong_refusal}
use Rattle.run_laws.proofs.CallLaws.{not_taken_first}
use Rattle.run_laws.proofs.Runs.{run_protected}

-- the run's events
abbrev one_call_events : List Event
one_call_events = ticked new_record ∷ placed 0 ∷ (small_events ++ placed 24 ∷ [])

pub one_call_run : Runs (first_thread one_call_machine) (beginning one_call_machine 64) one_call_end one_call_outcome
unfolding thread acts_of ecall_by copy_in copy_out execution
one_call_run = record {
  events = one_call_events;
  begun = (refl, (refl, (refl, (refl, (refl, (refl, (refl, (refl, (refl, (refl, (refl, (refl, (refl, (refl, (refl, (refl, (refl, (refl, (refl, (refl, (refl, (refl, (refl, (refl, (refl, refl)))))))))))))))))))))))));
  grown = refl;
  places = (refl, (refl, (refl, tt)));
  records = refl;
  waits = refl;
}

sound_body : (ordinal : ℕ) → IsSoundBody one_call_machine ordinal
sound_body zero f e = (tt, (tt, (tt, tt)))
sound_body (suc n) f e = cc

small_runnable : IsRunnableFunction true small_function
small_runnable = record {
  classes = All-cons (λ (p : Param). IsPassed p.class) _ [] tt (All-nil (λ (p : Param). IsPassed p.class));
  fields = All-cons (λ (p : Param). field_end true p ≤ 16) _ [] (omega arith) (All-nil (λ (p : Param). field_end true p ≤ 16));
  returns = omega arith;
  return_fits = omega arith;
  no_frame = λ e. cc;
}

one_call_sound : IsSoundMachine one_call_machine
one_call_sound = record {
  runnable = record { ecalls = All-cons (IsRunnableFunction true) small_function [] small_runnable (All-nil (IsRunnableFunction true)); ocalls = All-nil (IsRunnableFunction false) };
  stack = omega arith;
  bodies = sound_body;
}

pub one_call_protected : IsProtectedRun one_call_machine (record_of 0 ∷ []) one_call_log
one_call_protected = run_protected one_call_machine one_call_sound 64 one_call_end one_call_outcome one_call_run

-- the one call of one record
single : (calls : List Call) (r : CallRecord) → r ∷ [] ≡ map (λ c. c.made) calls → (x : Call) → Contains calls x → x.made ≡ r
single [] r e x h = cc
single (c ∷ []) r e x (zero, below, at) =
    let same : r ≡ c.made = cc in
    ap (λ (d : Call). d.made) (sym at) ∙ sym same
single (c ∷ []) r e x (suc k, below, at) = absurd (omega (arith, below))
single (c ∷ d ∷ calls) r e x h = cc

nothing : (calls : List Call) → [] ≡ map (λ (c : Call). c.made) calls → (x : Call) → Contains calls x → ⊥
nothing [] e x (k, below, at) = omega (arith, below)
nothing (c ∷ calls) e x h = cc

an_ecall : (c : Call) → c.made ≡ record_of 0 → c.made.kind ≡ Ocall → ⊥
an_ecall c e kind = let no : Ecall ≡ Ocall = ap (λ (r : CallRecord). r.kind) (sym e) ∙ kind in cc

too_late : (c : Call) → c.made ≡ record_of 0 → 24 < c.made.last → ⊥
too_late c e h = let last : c.made.last ≡ 24 = ap (λ (r : CallRecord). r.last) e in omega (arith, last, h)

abbrev longer : List Step
longer = one_call_log ++ second_load ∷ []

pub loaded_again : ¬ IsProtectedRun one_call_machine (record_of 0 ∷ []) (one_call_log ++ second_load ∷ [])
loaded_again h = by_kind a.how
  where
    a : IsAccountedFor one_call_machine h.calls (one_call_log ++ second_load ∷ []) 24 second_load
    a = h.steps 24 second_load refl refl

    made_is : a.call.made ≡ record_of 0
    made_is = single h.calls (record_of 0) h.records_are a.call a.is_call

    by_kind : IsArgumentLoad one_call_machine h.calls longer 24 second_load a.call ⊎ IsAnswerStore one_call_machine h.calls longer 24 second_load a.call ⊎ IsFrameStore one_call_machine longer 24 second_load a.call ⊎ IsReplyLoad one_call_machine longer 24 second_load a.call
        ⊎ IsCellStep one_call_machine h.calls longer 24 second_load a.call → ⊥
    by_kind (inl l) = elim l.before_body [
      | inl r ↦ too_late a.call made_is r.1
      | inr r ↦
          let turn : a.call.made.turn ≡ 18 = ap (λ (v : CallRecord). v.turn) made_is in
          let parts = r.0.turn_is in
          let below = r.1 in
          omega (arith, turn, parts, below)
    ]
    by_kind (inr (inl s)) = too_late a.call made_is s.to_last
    by_kind (inr (inr (inl f))) = an_ecall a.call made_is f.is_ocall
    by_kind (inr (inr (inr (inl f)))) = an_ecall a.call made_is f.is_ocall
    by_kind (inr (inr (inr (inr s)))) =
        let turn : a.call.made.turn ≡ 18 = ap (λ (v : CallRecord). v.turn) made_is in
        let below = s.to_turn in
        omega (arith, turn, below)

pub stored_elsewhere : ¬ IsProtectedRun one_call_machine [] (stray_store ∷ [])
stored_elsewhere h =
    let a : IsAccountedFor one_call_machine h.calls (stray_store ∷ []) 0 stray_store = h.steps 0 stray_store refl refl in
    nothing h.calls h.records_are a.call a.is_call

one_call : (calls : List Call) (r : CallRecord) → r ∷ [] ≡ map (λ c. c.made) calls → (P : Call → Type 0) → All P calls → (c : Call) × (c.made ≡ r) × P c
one_call [] r e P h = cc
one_call (c ∷ calls) r e P h = let same : c.made ≡ r = cc in (c, same, h zero c (omega arith))

other_status : (a b : Status) → ¬ (a.0 ≡ b.0) → a ≡ b → ⊥
other_status a b h e = h (ap (λ (s : Status). s.0) e)

some_injective : (a b : Status) → Some a ≡ Some b → a ≡ b
some_injective a b e = cc

unknown : (stack : List Entered) → first_row (entry_rows one_call_machine.interface stack 1) ≡ Some INVALID_FUNCTION
unknown stack = refl

pub refused_wrongly : ¬ IsProtectedRun one_call_machine (wrong_refusal ∷ []) []
refused_wrongly h =
    let (c, made_is, p) = one_call h.calls wrong_refusal h.records_are (IsProtectedCall one_call_machine h.calls []) h.protected in
    let kind : c.made.kind ≡ Ecall = ap (λ (r : CallRecord). r.kind) made_is in
    let way : c.made.way ≢ Taken = λ e. not_taken_first (ap (λ (r : CallRecord). r.way) (sym made_is) ∙ e) in
    by_end c made_is (p.ecall kind way)
  where
    by_rows : (c : Call) (events : List Event) → IsRefusedRun one_call_machine c.context 1 0x10000 events INVALID_PARAMETER → ⊥
    by_rows c events (inl r) = other_status INVALID_FUNCTION INVALID_PARAMETER (λ e. omega (arith, e)) (some_injective INVALID_FUNCTION INVALID_PARAMETER r.0)
    by_rows c events (inr r) = let none : Some INVALID_FUNCTION ≡ None = r.may_enter in cc

    by_end : (c : Call) → c.made ≡ wrong_refusal → IsEcall one_call_machine h.calls [] c → ⊥
    by_end c e (inl n) = other_status INVALID_PARAMETER UNEXPECTED (λ k. omega (arith, k)) (ap (λ (r : CallRecord). r.status) (sym e) ∙ n.status_is)
    by_end c e (inr (inl r)) = by_rows c r.1.loading (subst (λ (v : CallRecord). IsRefusedRun one_call_machine c.context v.ordinal v.frame r.1.loading v.status) e r.1.refused)
    by_end c e (inr (inr a)) = other_status INVALID_PARAMETER SUCCESS (λ k. omega (arith, k)) (ap (λ (r : CallRecord). r.status) (sym e) ∙ a.0)
