-- A body leaves the copies of its parameters as long as they were.
use Rattle.std.proofs.Common.{ℕ, zero, suc, ◌+◌, ◌-◌, ◌*◌, ◌%◌, ◌^◌, ◌≡◌, ◌==◌, if◌then◌else◌, List, [], ◌∷◌, length, map, replicate, Option, Some, None, option_map, slice_get, slice_index, slice_set, bit_and, bit_or, bit_xor, sum, refl, ap, subst, length-set}
use Rattle.std.specs.Prelude.{unwrap_or}
use Rattle.std.proofs.lemmas.List.{length-replicate}
use Rattle.sgx_base.specs.Bytes.{rounded_size}
use Rattle.edl_interface.specs.declared.Param.{Param}
use Rattle.edl_interface.specs.declared.Function.{Function}
use Rattle.edl_interface.specs.Parameters.{marshalled}
use Rattle.word_port.specs.declared.Kind.{Kind}
use Rattle.word_port.specs.declared.Kind.TheVariants.{Load, Swap, Add as to_add, Cas}
use Rattle.word_port.specs.Events.{Event, made, ticked, placed}
use Rattle.word_port.specs.Interaction.{Interaction, map_value, IsRun}
use Rattle.word_port.proofs.OneRun.{not_ended}
use Rattle.enclave_memory.specs.Arguments.{Passed, argument_of, places_in}
use Rattle.body_vm.specs.declared.Action.{Action}
use Rattle.body_vm.specs.declared.Action.TheVariants.{Set, Add, Sub, Mul, And, Or, Xor, Len, Sum, Get, Put, Fill, Copy, Temp, Cload, Cswap, Cadd, Ccas, Ocall, Skipz, Skipnz, Return}
use Rattle.body_vm.specs.declared.Pass.{Pass}
use Rattle.body_vm.specs.declared.Pass.TheVariants.{Value, Bytes}
use Rattle.body_vm.specs.State.{State, operand, register, with_register, block, with_block, with_new_block, overlay, passed_argument}
use Rattle.body_vm.specs.Execution.{OcallRequest, on_cell_into, with_answer, execution_from, execution}
use Rattle.ocall_frames.specs.Frames.{blocks_after}
use Rattle.call_machine.specs.declared.Machine.{Machine}
use Rattle.call_machine.specs.Context.{Context, context_in_ecall}
use Rattle.call_machine.specs.Ecall.{Ocalls, OcallOutcome, answer_of, Finished, Answered, after_records, interpret, actions_of}
use Rattle.call_laws.specs.Copying.{AreCopiedIn}
use Rattle.call_laws.specs.Answering.{IsAnsweredRun}
use Rattle.call_machine.specs.Bodies.{KeepLengths}
use Rattle.call_machine.proofs.BlockLengths.{keep_same, keep_then, keep_more, changed_keeps, new_keeps, overlay_length}
use Rattle.call_machine.specs.Sound.{FitPasses, AreSoundActions, IsSoundBody}
use Rattle.call_laws.proofs.Lengths.{FitArguments, OcallsKeepLengths}
use Rattle.call_laws.proofs.RunParts.{IsTwoRuns, two_runs, ret_run, IsMappedRun, mapped_run}

fit_passed : (s : State) (params : List Param) (args : List Pass) → FitPasses params args → FitArguments params (map (passed_argument s) args)
fit_passed s [] [] h = tt
fit_passed s [] (arg ∷ args) h = absurd h
fit_passed s (p ∷ params) [] h = absurd h
fit_passed s (p ∷ params) (Value v ∷ args) h = (h.0, fit_passed s params args h.1)
fit_passed s (p ∷ params) (Bytes place ∷ args) h = (h.0, fit_passed s params args h.1)

module _ (m : Machine) (ocalls : Ocalls) (cx : Context) (first : List (Option (List ℕ))) (keeping : OcallsKeepLengths m ocalls) where
  -- a step on a cell
  cell_run : (s : State) (r : ℕ) (kind : Kind) (cell x y : ℕ) (rest : List Action) (events : List Event) (done : Finished)
      → IsRun (interpret m ocalls cx (on_cell_into s r kind cell x y (λ t. execution_from t zero rest))) events done
      → (old : ℕ) × (es : List Event) × IsRun (interpret m ocalls cx (execution_from (with_register s r old) zero rest)) es done
  cell_run s r kind cell x y rest [] done h = absurd (not_ended (interpret m ocalls cx (on_cell_into s r kind cell x y (λ t. execution_from t zero rest))) done h)
  cell_run s r kind cell x y rest (made u ∷ es) done h = (u.answer, es, h.1)
  cell_run s r kind cell x y rest (ticked k ∷ es) done h = absurd h
  cell_run s r kind cell x y rest (placed k ∷ es) done h = absurd h

  -- an OCALL of an ordinal in the table, or past it
  ocall_keeps : (o : Option Function) (room : ℕ) (ordinal : ℕ) (blocks : List (Option (List ℕ))) (passed : List Passed) (events : List Event) (out : OcallOutcome)
      → slice_get m.interface.ocalls ordinal ≡ o → ((f : Function) → slice_get m.interface.ocalls ordinal ≡ Some f → FitArguments f.params passed)
      → IsRun (ocalls (record cx { room = room }) ordinal (map (argument_of blocks) passed)) events out
      → KeepLengths blocks (blocks_after (unwrap_or (option_map marshalled o) []) (places_in passed) out.loaded blocks)
  ocall_keeps None room ordinal blocks passed events out e fit h = keep_same blocks
  ocall_keeps (Some f) room ordinal blocks passed events out e fit h = keeping f (record cx { room = room }) ordinal blocks passed events out e (fit f e) h

  body_keeps : (s : State) (skip : ℕ) (actions : List Action) (events : List Event) (done : Finished) → AreSoundActions m.interface (length first) actions → KeepLengths first s.blocks
      → IsRun (interpret m ocalls cx (execution_from s skip actions)) events done → KeepLengths first done.blocks
  body_keeps s skip [] events done a k h =
      let end : (events ≡ []) × (record { value = 0; blocks = s.blocks; records = [] } ≡ done) = ret_run (record { value = 0; blocks = s.blocks; records = [] }) events done h in
      subst (λ (d : Finished). KeepLengths first d.blocks) end.1 k
  body_keeps s (suc skip) (action ∷ rest) events done a k h = body_keeps s skip rest events done a.1 k h
  body_keeps s zero (Set r v ∷ rest) events done a k h = body_keeps (with_register s r (operand s v)) zero rest events done a.1 k h
  body_keeps s zero (Add r v ∷ rest) events done a k h = body_keeps (with_register s r ((register s r + operand s v) % 2 ^ 64)) zero rest events done a.1 k h
  body_keeps s zero (Sub r v ∷ rest) events done a k h = body_keeps (with_register s r ((register s r + 2 ^ 64 - operand s v) % 2 ^ 64)) zero rest events done a.1 k h
  body_keeps s zero (Mul r v ∷ rest) events done a k h = body_keeps (with_register s r ((register s r * operand s v) % 2 ^ 64)) zero rest events done a.1 k h
  body_keeps s zero (And r v ∷ rest) events done a k h = body_keeps (with_register s r (bit_and (register s r) (operand s v))) zero rest events done a.1 k h
  body_keeps s zero (Or r v ∷ rest) events done a k h = body_keeps (with_register s r (bit_or (register s r) (operand s v))) zero rest events done a.1 k h
  body_keeps s zero (Xor r v ∷ rest) events done a k h = body_keeps (with_register s r (bit_xor (register s r) (operand s v))) zero rest events done a.1 k h
  body_keeps s zero (Len r b ∷ rest) events done a k h = body_keeps (with_register s r (length (block s b))) zero rest events done a.1 k h
  body_keeps s zero (Sum r b ∷ rest) events done a k h = body_keeps (with_register s r (sum (block s b))) zero rest events done a.1 k h
  body_keeps s zero (Get r b v ∷ rest) events done a k h = body_keeps (with_register s r (slice_index (block s b) (operand s v))) zero rest events done a.1 k h
  body_keeps s zero (Put b v w ∷ rest) events done a k h =
      let change : List ℕ → List ℕ = λ bytes. slice_set bytes (operand s v) (operand s w % 256) in
      body_keeps (with_block s b change) zero rest events done a.1 (changed_keeps first s k b change (λ bytes. length-set bytes (operand s v) (operand s w % 256))) h
  body_keeps s zero (Fill b v ∷ rest) events done a k h =
      let change : List ℕ → List ℕ = λ bytes. replicate (length bytes) (operand s v % 256) in
      body_keeps (with_block s b change) zero rest events done a.1 (changed_keeps first s k b change (λ bytes. length-replicate (length bytes) (operand s v % 256))) h
  body_keeps s zero (Copy b c ∷ rest) events done a k h =
      let change : List ℕ → List ℕ = λ bytes. overlay bytes (block s c) in
      body_keeps (with_block s b change) zero rest events done a.1 (changed_keeps first s k b change (λ bytes. overlay_length bytes (block s c))) h
  body_keeps s zero (Temp b n ∷ rest) events done a k h = body_keeps (with_new_block s b n) zero rest events done a.1 (new_keeps first s k b n a.0) h
  body_keeps s zero (Cload r cell ∷ rest) events done a k h =
      let (old, es, g) = cell_run s r Load cell 0 0 rest events done h in
      body_keeps (with_register s r old) zero rest es done a.1 k g
  body_keeps s zero (Cswap r cell v ∷ rest) events done a k h =
      let (old, es, g) = cell_run s r Swap cell (operand s v) 0 rest events done h in
      body_keeps (with_register s r old) zero rest es done a.1 k g
  body_keeps s zero (Cadd r cell v ∷ rest) events done a k h =
      let (old, es, g) = cell_run s r to_add cell (operand s v) 0 rest events done h in
      body_keeps (with_register s r old) zero rest es done a.1 k g
  body_keeps s zero (Ccas r cell v w ∷ rest) events done a k h =
      let (old, es, g) = cell_run s r Cas cell (operand s v) (operand s w) rest events done h in
      body_keeps (with_register s r old) zero rest es done a.1 k g
  body_keeps s zero (Ocall ret status ordinal args ∷ rest) events done a k h =
      let passed : List Passed = map (passed_argument s) args in
      let q : OcallRequest = record {
        ordinal = ordinal;
        arguments = passed;
        blocks = s.blocks;
        room = s.room;
      } in
      let after : OcallOutcome → State = λ out. with_answer s ret status (answer_of m.interface q out) in
      let made_by : Interaction OcallOutcome = ocalls (record cx { room = s.room }) ordinal (map (argument_of s.blocks) passed) in
      let goes_on : OcallOutcome → Interaction Finished = λ out. map_value (after_records out.records) (interpret m ocalls cx (execution_from (after out) zero rest)) in
      let r : IsTwoRuns made_by goes_on events done = two_runs made_by goes_on events done h in
      let g : IsMappedRun (after_records r.middle.records) (interpret m ocalls cx (execution_from (after r.middle) zero rest)) r.rest done =
      mapped_run (after_records r.middle.records) (interpret m ocalls cx (execution_from (after r.middle) zero rest)) r.rest done r.rest_run in
      let back : KeepLengths s.blocks (after r.middle).blocks =
      ocall_keeps (slice_get m.interface.ocalls ordinal) s.room ordinal s.blocks passed r.first r.middle refl (λ f e. fit_passed s f.params args (a.0 f e)) r.first_run in
      let later : KeepLengths first g.value.blocks =
      body_keeps (after r.middle) zero rest r.rest g.value a.1 (keep_then first s.blocks (after r.middle).blocks k back) g.run in
      subst (λ (d : Finished). KeepLengths first d.blocks) g.value_is later
  body_keeps s zero (Skipz r n ∷ rest) events done a k h = body_keeps s (if register s r == 0 then n else 0) rest events done a.1 k h
  body_keeps s zero (Skipnz r n ∷ rest) events done a k h = body_keeps s (if register s r == 0 then 0 else n) rest events done a.1 k h
  body_keeps s zero (Return v ∷ rest) events done a k h =
      let end : (events ≡ []) × (record { value = operand s v; blocks = s.blocks; records = [] } ≡ done) = ret_run (record { value = operand s v; blocks = s.blocks; records = [] }) events done h in
      subst (λ (d : Finished). KeepLengths first d.blocks) end.1 k

-- there is a copy, or null, for each marshalled parameter
copied_count : (f : Function) (frame : List ℕ) (room : ℕ) (params : List Param) (events : List Event) (blocks : List (Option (List ℕ))) → AreCopiedIn f frame room params events blocks
    → length params ≡ length blocks
copied_count f frame room [] events [] h = refl
copied_count f frame room [] events (b ∷ blocks) h = absurd h
copied_count f frame room (p ∷ params) events [] h = absurd h
copied_count f frame room (p ∷ params) events (None ∷ blocks) h = ap (λ n. suc n) (copied_count f frame room params events blocks h.1)
copied_count f frame room (p ∷ params) events (Some block ∷ blocks) h =
    let (first, rest, events_are, copied, others) = h in
    ap (λ n. suc n) (copied_count f frame (room - rounded_size (length block)) params rest blocks others)

-- a sound body of an answered entry
pub copies_kept : (m : Machine) (ocalls : Ocalls) (cx : Context) (ordinal address : ℕ) (events : List Event) (done : Answered) (run : IsAnsweredRun m ocalls cx ordinal address events done)
    → IsSoundBody m ordinal → OcallsKeepLengths m ocalls → KeepLengths run.copies.blocks run.finished.blocks
unfolding execution
copies_kept m ocalls cx ordinal address events done run sound keeping =
    let f : Function = run.function in
    let actions : List Action = actions_of m ordinal in
    let count : length (marshalled f) ≡ length run.copies.blocks = copied_count f run.frame cx.room (marshalled f) run.copying run.copies.blocks run.copied in
    let sound_actions : AreSoundActions m.interface (length run.copies.blocks) actions = subst (λ n. AreSoundActions m.interface n actions) count (sound f run.found) in
    body_keeps m ocalls (context_in_ecall cx ordinal run.copies.room) run.copies.blocks keeping _ zero actions run.running run.finished sound_actions (keep_more run.copies.blocks _) run.body_runs
