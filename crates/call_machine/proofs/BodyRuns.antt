-- What a body is that is carried out on words of the port, from one OCALL to the next.
use Rattle.std.proofs.Common.{ℕ, ◌≡◌, List, [], ◌∷◌, ◌++◌, map, Option, refl, ap, sym, ◌∙◌, subst, append_assoc}
use Rattle.word_port.specs.declared.Step.{Step}
use Rattle.word_port.specs.declared.RunFull.{RunFull}
use Rattle.word_port.specs.declared.RunFull.TheVariants.{Steps}
use Rattle.word_port.specs.Events.{made as step_made}
use Rattle.word_port.specs.Interaction.{Interaction, ret, ask, and_then, map_value, IsAfter}
use Rattle.word_port.specs.Limits.{Progress, progress}
use Rattle.word_port.specs.Port.{PortState}
use Rattle.word_port.specs.Runs.{Leads, Makes, Reaches, Runs, StopsFull, StopsAt}
use Rattle.word_port.proofs.Laws.{leads_first, full_first, and_then-assoc, and_then-ret, reaches_nothing, reaches_first, reaches_then, stops_first}
use Rattle.word_port.proofs.EventLaws.{steps_reach, steps_stop}
use Rattle.word_port.proofs.OneRun.{not_ended}
use Rattle.enclave_memory.specs.Arguments.{argument_of}
use Rattle.edl_interface.specs.declared.Interface.{Interface}
use Rattle.body_vm.specs.Execution.{Execution, OcallRequest, OcallAnswer, returned, on_cell, on_ocall}
use Rattle.body_run.specs.Cells.{cell_step, over_cells}
use Rattle.call_report.specs.declared.CallRecord.{CallRecord}
use Rattle.call_machine.specs.declared.Machine.{Machine}
use Rattle.call_machine.specs.Context.{Context}
use Rattle.call_machine.specs.Ecall.{Finished, after_records, answer_of, OcallOutcome, Ocalls, interpret}
use Rattle.call_machine.proofs.BodyRange.{EndsWith}
use std.Path.{fun_ext}

left_is : (e left : Execution) → ◌≡◌ {A = Interaction Execution} (ret e) (ret left) → e ≡ left
left_is e left is = cc

ends_after : (i : Interface) (kept : List (Option (List ℕ))) (first : ℕ) (e left : Execution) (steps : List Step) → EndsWith i kept e → IsAfter (over_cells first e) (map step_made steps) (ret left) → EndsWith i kept left
ends_after i kept first (returned value blocks) left [] h after = subst (λ x. EndsWith i kept x) (left_is (returned value blocks) left after) h
ends_after i kept first (returned value blocks) left (s ∷ steps) h after = absurd after
ends_after i kept first (on_cell q next) left [] h after = absurd (not_ended (ask (cell_step first q) (λ old. over_cells first (next old))) left after)
ends_after i kept first (on_cell q next) left (s ∷ steps) h after = ends_after i kept first (next s.answer) left steps (h s.answer) after.1
ends_after i kept first (on_ocall q next) left [] h after = subst (λ x. EndsWith i kept x) (left_is (on_ocall q next) left after) h
ends_after i kept first (on_ocall q next) left (s ∷ steps) h after = absurd after

-- what holds of a body's execution holds of what it has come to, once its steps on cells are made
pub ends_made : (i : Interface) (kept : List (Option (List ℕ))) (first : ℕ) (e left : Execution) (old new : PortState) → EndsWith i kept e → Makes (over_cells first e) old new left → EndsWith i kept left
ends_made i kept first e left old new h all = ends_after i kept first e left all.steps h all.after

after_twice : (made more : List CallRecord) (done : Finished) → after_records made (after_records more done) ≡ after_records (made ++ more) done
after_twice made more done = ap (λ (l : List CallRecord). record done { records = l }) (sym (append_assoc made more done.records))

-- a rest after records, and more records
rest_after : (made more : List CallRecord) (t : Interaction Finished) → map_value (after_records made) (map_value (after_records more) t) ≡ map_value (after_records (made ++ more)) t
rest_after made more t =
    and_then-assoc t (λ done. ret (after_records more done)) (λ done. ret (after_records made done))
    ∙ ap (λ (k : Finished → Interaction Finished). and_then t k) (fun_ext (λ done. ap (λ x. ret x) (after_twice made more done)))

pub rest_first : (t : Interaction Finished) → map_value (after_records []) t ≡ t
rest_first t = and_then-ret t

module _ (m : Machine) (ocalls : Ocalls) (cx : Context) where
  -- a body is carried out up to its next OCALL or its end, and then on
  on_cells : (e : Execution) → interpret m ocalls cx e ≡ and_then (over_cells m.script.settings.host e) (interpret m ocalls cx)
  on_cells (returned value blocks) = refl
  on_cells (on_cell q next) = ap (λ k. ask (cell_step m.script.settings.host q) k) (fun_ext (λ old. on_cells (next old)))
  on_cells (on_ocall q next) = refl

  -- what a body does from here, after these records
  abbrev pub rest_of : List CallRecord → Execution → Interaction Finished
  rest_of made e = map_value (after_records made) (interpret m ocalls cx e)

  pub cells_reach : (made : List CallRecord) (e left : Execution) (old new : PortState) (records waits : ℕ) → Makes (over_cells m.script.settings.host e) old new left
      → Reaches (rest_of made e) (progress old records waits) (progress new records waits) (rest_of made left)
  cells_reach made e left old new records waits steps =
      let one : Leads (interpret m ocalls cx e) old new (interpret m ocalls cx left) =
      subst (λ t. Leads t old new (interpret m ocalls cx left)) (sym (on_cells e)) (leads_first (over_cells m.script.settings.host e) (ret left) (interpret m ocalls cx) old new steps) in
      steps_reach (rest_of made e) (rest_of made left) old new records waits
      (leads_first (interpret m ocalls cx e) (interpret m ocalls cx left) (λ done. ret (after_records made done)) old new one)

  pub cells_stop : (made : List CallRecord) (e : Execution) (old new : PortState) (records waits : ℕ) → StopsFull (over_cells m.script.settings.host e) old new
      → StopsAt Steps (rest_of made e) (progress old records waits) new
  cells_stop made e old new records waits stopped =
      let one : StopsFull (interpret m ocalls cx e) old new =
      subst (λ t. StopsFull t old new) (sym (on_cells e)) (full_first (over_cells m.script.settings.host e) (interpret m ocalls cx) old new stopped) in
      steps_stop (rest_of made e) old new records waits (full_first (interpret m ocalls cx e) (λ done. ret (after_records made done)) old new one)

  module _ (made : List CallRecord) (q : OcallRequest) (next : OcallAnswer → Execution) (before : Progress) where
    -- the OCALL that a body makes
    abbrev pub its_ocall : Interaction OcallOutcome
    its_ocall = ocalls (record cx { room = q.room }) q.ordinal (map (argument_of q.blocks) q.arguments)

    abbrev goes_on : OcallOutcome → Interaction Finished
    goes_on out = map_value (after_records out.records) (interpret m ocalls cx (next (answer_of m.interface q out)))

    pub ocall_reach : (after : Progress) (out : OcallOutcome) → Runs its_ocall before after out
        → Reaches (rest_of made (on_ocall q next)) before after (rest_of (made ++ out.records) (next (answer_of m.interface q out)))
    ocall_reach after out runs =
        let one : Reaches (interpret m ocalls cx (on_ocall q next)) before after (goes_on out) =
        reaches_then its_ocall goes_on (goes_on out) before after after out runs (reaches_nothing (goes_on out) after) in
        subst (λ t. Reaches (rest_of made (on_ocall q next)) before after t) (rest_after made out.records (interpret m ocalls cx (next (answer_of m.interface q out))))
        (reaches_first (interpret m ocalls cx (on_ocall q next)) (goes_on out) (λ done. ret (after_records made done)) before after one)

    pub ocall_stop : (full : RunFull) (new : PortState) → StopsAt full its_ocall before new → StopsAt full (rest_of made (on_ocall q next)) before new
    ocall_stop full new stopped =
        stops_first full (interpret m ocalls cx (on_ocall q next)) (λ done. ret (after_records made done)) before new (stops_first full its_ocall goes_on before new stopped)
