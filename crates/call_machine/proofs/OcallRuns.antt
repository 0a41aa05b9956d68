-- An OCALL's behaviour in its parts: refused, up to where the host runs, and from there on.
use Rattle.std.proofs.Common.{ℕ, ◌+◌, ◌≡◌, Bool, true, false, ◌&&◌, nat_lt, if◌then◌else◌, List, [], ◌∷◌, ◌++◌, length, Option, Some, None, unwrap_or, Result, Ok, Err, slice_get, refl, ap, sym, ◌∙◌, subst, arith}
use std.Path.{fun_ext}
use Rattle.sgx_base.specs.Rows.{first_row, unless_refused}
use Rattle.sgx_base.specs.declared.Status.{Status}
use Rattle.edl_interface.specs.declared.Function.{Function}
use Rattle.edl_interface.specs.Parameters.{has_frame}
use Rattle.word_port.specs.declared.RunFull.{RunFull}
use Rattle.word_port.specs.declared.RunFull.TheVariants.{Steps, Records}
use Rattle.word_port.specs.declared.Side.TheVariants.{Enclave}
use Rattle.word_port.specs.Port.{PortState}
use Rattle.word_port.specs.Events.{new_record}
use Rattle.word_port.specs.Interaction.{Interaction, ret, here, tick, and_then, map_value}
use Rattle.word_port.specs.Limits.{Progress, progress}
use Rattle.word_port.specs.Accesses.{stores}
use Rattle.word_port.specs.Runs.{Makes, Reaches, Runs, StopsFull, StopsAt}
use Rattle.word_port.proofs.Laws.{and_then-assoc, reaches_nothing, reaches_on, reaches_first, runs_ret, runs_then, reaches_then, stops_on, stops_first, stops_second}
use Rattle.word_port.proofs.EventLaws.{record_then, place_then, steps_then, record_stop, place_stop, steps_full_then, no_record}
use Rattle.enclave_memory.specs.Arguments.{Argument}
use Rattle.ocall_frames.specs.Frames.{frame_bytes}
use Rattle.call_report.specs.declared.Way.TheVariants.{Ordinary}
use Rattle.call_machine.specs.declared.Machine.{Machine}
use Rattle.call_machine.specs.Context.{Context}
use Rattle.call_machine.specs.Ecall.{OcallOutcome}
use Rattle.call_machine.specs.Result.{Outcome}
use Rattle.call_machine.specs.Ocall.{Handlers, HostSide, OcallDone, host_side, host_run, ocall_rows, ocall_frame, handler_context, answer_loads, unrefused_ocall, ocall_or_refusal, ocall_outcome, ocall_by}
use Rattle.call_machine.specs.OcallPhases.{asked_ocall, answered_ocall, handled}
use Rattle.call_machine.specs.Thread.{ecalls, handlers_by, ocall}

-- how an OCALL's record ends
abbrev ends : Context → ℕ → ℕ → Result OcallDone Status → Interaction OcallOutcome
ends cx ordinal first result = here (λ last. ret (ocall_outcome cx ordinal first last result))

-- the steps of an OCALL that is not refused, and its end
unrefused_is : (m : Machine) (handlers : Handlers) (cx : Context) (ordinal : ℕ) (arguments : List Argument) (f : Function) (first : ℕ)
    → and_then (map_value (λ (done : OcallDone). Ok done) (unrefused_ocall m handlers cx ordinal arguments f)) (ends cx ordinal first)
    ≡ and_then (stores Enclave (ocall_frame cx f arguments) (frame_bytes f arguments (ocall_frame cx f arguments))) (λ stored.
    and_then (host_run m handlers (handler_context cx ordinal f (ocall_frame cx f arguments)) ordinal f (ocall_frame cx f arguments))
    (answered_ocall cx ordinal arguments f (ocall_frame cx f arguments) first))
unrefused_is m handlers cx ordinal arguments f first =
    let at : ℕ = ocall_frame cx f arguments in
    let put : Interaction (Unit {0}) = stores Enclave at (frame_bytes f arguments at) in
    let host : Interaction HostSide = host_run m handlers (handler_context cx ordinal f at) ordinal f at in
    and_then-assoc (unrefused_ocall m handlers cx ordinal arguments f) (λ done. ret (Ok done)) (ends cx ordinal first)
    ∙ and_then-assoc put (λ stored. and_then host (answer_loads f arguments at)) (λ done. ends cx ordinal first (Ok done))
    ∙ ap (λ next. and_then put next) (fun_ext (λ stored. and_then-assoc host (answer_loads f arguments at) (λ done. ends cx ordinal first (Ok done))))

module _ (m : Machine) (cx : Context) (ordinal : ℕ) (arguments : List Argument) where
  -- no record is left
  pub unrecorded : (records waits : ℕ) (port : PortState) → records ≡ 0 → StopsAt Records (ocall m cx ordinal arguments) (progress port records waits) port
  unfolding ocall ocall_by
  unrecorded records waits port none = no_record _ port records waits none

  module _ (f : Function) (found : slice_get m.interface.ocalls ordinal ≡ Some f) where
    ocall_is : ocall m cx ordinal arguments
        ≡ tick new_record (here (λ first. and_then (ocall_or_refusal m (handlers_by m (ecalls m cx)) cx ordinal arguments (Some f)) (ends cx ordinal first)))
    unfolding ocall ocall_by
    ocall_is = rw found refl

    -- it is refused
    refused_is : (status : Status) → first_row (ocall_rows cx f arguments) ≡ Some status
        → ocall m cx ordinal arguments ≡ tick new_record (here (λ first. ends cx ordinal first (Err status)))
    refused_is status e =
        let refused : ocall_or_refusal m (handlers_by m (ecalls m cx)) cx ordinal arguments (Some f) ≡ ret (Err status) = rw e refl in
        ocall_is ∙ ap (λ t. tick new_record (here (λ first. and_then t (ends cx ordinal first)))) refused

    pub refused_runs : (status : Status) (before after waits : ℕ) (port : PortState) → first_row (ocall_rows cx f arguments) ≡ Some status → before ≡ after + 1
        → Runs (ocall m cx ordinal arguments) (progress port before waits) (progress port after waits) (ocall_outcome cx ordinal (length port.log) (length port.log) (Err status))
    refused_runs status before after waits port e left =
        let out : OcallOutcome = ocall_outcome cx ordinal (length port.log) (length port.log) (Err status) in
        subst (λ t. Runs t (progress port before waits) (progress port after waits) out) (sym (refused_is status e))
        (record_then (here (λ first. ends cx ordinal first (Err status))) (ret out) port before after waits (progress port after waits) left
        (place_then (λ first. ends cx ordinal first (Err status)) (length port.log) (ret out) (progress port after waits) (progress port after waits) refl
        (place_then (λ last. ret (ocall_outcome cx ordinal (length port.log) last (Err status))) (length port.log) (ret out) (progress port after waits) (progress port after waits) refl (runs_ret _ _))))

    module _ (frame : ℕ) (frame_is : frame ≡ ocall_frame cx f arguments) (allowed : first_row (ocall_rows cx f arguments) ≡ None) where
      asked_is : ocall m cx ordinal arguments
          ≡ tick new_record (here (λ first. and_then (stores Enclave frame (frame_bytes f arguments frame)) (λ stored. asked_ocall m cx ordinal arguments f frame first)))
      asked_is =
          let passes : ocall_or_refusal m (handlers_by m (ecalls m cx)) cx ordinal arguments (Some f)
          ≡ map_value (λ (done : OcallDone). Ok done) (unrefused_ocall m (handlers_by m (ecalls m cx)) cx ordinal arguments f) = rw allowed refl in
          ocall_is
          ∙ ap (λ t. tick new_record (here (λ first. and_then t (ends cx ordinal first)))) passes
          ∙ ap (λ next. tick new_record (here next)) (fun_ext (λ first. unrefused_is m (handlers_by m (ecalls m cx)) cx ordinal arguments f first))
          ∙ ap (λ at. tick new_record (here (λ first. and_then (stores Enclave at (frame_bytes f arguments at)) (λ stored. asked_ocall m cx ordinal arguments f at first)))) (sym frame_is)

      -- its frame is written, and the host is to run
      pub asked_reaches : (before after waits : ℕ) (old new : PortState) → before ≡ after + 1
          → Makes (stores Enclave frame (frame_bytes f arguments frame)) old new tt
          → Reaches (ocall m cx ordinal arguments) (progress old before waits) (progress new after waits) (asked_ocall m cx ordinal arguments f frame (length old.log))
      asked_reaches before after waits old new left put =
          let rest : Interaction OcallOutcome = asked_ocall m cx ordinal arguments f frame (length old.log) in
          let next : ℕ → Interaction OcallOutcome = λ first. and_then (stores Enclave frame (frame_bytes f arguments frame)) (λ stored. asked_ocall m cx ordinal arguments f frame first) in
          subst (λ t. Reaches t (progress old before waits) (progress new after waits) rest) (sym asked_is)
          (record_then (here next) rest old before after waits (progress new after waits) left
          (place_then next (length old.log) rest (progress old after waits) (progress new after waits) refl
          (steps_then (stores Enclave frame (frame_bytes f arguments frame)) (λ stored. rest) rest old new after waits (progress new after waits) tt put (reaches_nothing rest (progress new after waits)))))

      -- the log becomes full in the frame
      pub put_stops : (before after waits : ℕ) (old new : PortState) → before ≡ after + 1
          → StopsFull (stores Enclave frame (frame_bytes f arguments frame)) old new → StopsAt Steps (ocall m cx ordinal arguments) (progress old before waits) new
      put_stops before after waits old new left stopped =
          let next : ℕ → Interaction OcallOutcome = λ first. and_then (stores Enclave frame (frame_bytes f arguments frame)) (λ stored. asked_ocall m cx ordinal arguments f frame first) in
          subst (λ t. StopsAt Steps t (progress old before waits) new) (sym asked_is)
          (record_stop Steps (here next) old new before after waits left
          (place_stop Steps next (length old.log) (progress old after waits) new refl
          (steps_full_then (stores Enclave frame (frame_bytes f arguments frame)) (λ stored. asked_ocall m cx ordinal arguments f frame (length old.log)) old new after waits stopped)))

  module _ (f : Function) (frame first : ℕ) (none : m.script.settings.uworkers ≡ 0) where
    -- what the handler does
    abbrev handler : Interaction Outcome
    handler = handlers_by m (ecalls m cx) (handler_context cx ordinal f frame) ordinal f frame

    never : (marked : Bool) → (marked && nat_lt 0 0) ≡ false
    never true = refl
    never false = refl

    host_is : host_run m (handlers_by m (ecalls m cx)) (handler_context cx ordinal f frame) ordinal f frame ≡ map_value (host_side Ordinary) handler
    host_is = rw (none, never f.switchless) refl

    rest_is : asked_ocall m cx ordinal arguments f frame first ≡ and_then handler (λ out. answered_ocall cx ordinal arguments f frame first (host_side Ordinary out))
    rest_is =
        ap (λ t. and_then t (answered_ocall cx ordinal arguments f frame first)) host_is
        ∙ and_then-assoc handler (λ out. ret (host_side Ordinary out)) (answered_ocall cx ordinal arguments f frame first)

    -- the limit is reached by the handler
    pub handler_stops : (full : RunFull) (now : Progress) (new : PortState) → StopsAt full handler now new → StopsAt full (asked_ocall m cx ordinal arguments f frame first) now new
    handler_stops full now new stopped =
        subst (λ t. StopsAt full t now new) (sym rest_is)
        (stops_first full handler (λ out. answered_ocall cx ordinal arguments f frame first (host_side Ordinary out)) now new stopped)

    -- the limit is reached by the loads of the answer
    pub answer_stops : (full : RunFull) (now mid : Progress) (new : PortState) (out : Outcome) → Runs handler now mid out
        → StopsAt full (answer_loads f arguments frame (host_side Ordinary out)) mid new → StopsAt full (asked_ocall m cx ordinal arguments f frame first) now new
    answer_stops full now mid new out runs stopped =
        subst (λ t. StopsAt full t now new) (sym rest_is)
        (stops_second full handler (λ o. answered_ocall cx ordinal arguments f frame first (host_side Ordinary o)) now mid new out runs
        (stops_first full (answer_loads f arguments frame (host_side Ordinary out)) (λ done. ends cx ordinal first (Ok done)) mid new stopped))

    -- the host runs, the answer is loaded, and the record ends
    pub rest_runs : (now mid : Progress) (new : PortState) (records waits : ℕ) (out : Outcome) (done : OcallDone) → Runs handler now mid out
        → Runs (answer_loads f arguments frame (host_side Ordinary out)) mid (progress new records waits) done
        → Runs (asked_ocall m cx ordinal arguments f frame first) now (progress new records waits) (ocall_outcome cx ordinal first (length new.log) (Ok done))
    rest_runs now mid new records waits out done runs loaded =
        let end : Progress = progress new records waits in
        let whole : OcallOutcome = ocall_outcome cx ordinal first (length new.log) (Ok done) in
        subst (λ t. Runs t now end whole) (sym rest_is)
        (runs_then handler (λ o. answered_ocall cx ordinal arguments f frame first (host_side Ordinary o)) now mid end out whole runs
        (runs_then (answer_loads f arguments frame (host_side Ordinary out)) (λ d. ends cx ordinal first (Ok d)) mid end end done whole loaded
        (place_then (λ last. ret (ocall_outcome cx ordinal first last (Ok done))) (length new.log) (ret whole) end end refl (runs_ret _ _))))
