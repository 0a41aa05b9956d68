-- Bodies that make no OCALL leave host memory as it is.
use Rattle.std.proofs.Common.{ℕ, zero, suc, ◌+◌, ◌-◌, ◌*◌, ◌%◌, ◌^◌, ◌≡◌, ◌≢◌, ◌<◌, ◌==◌, if◌then◌else◌, Bool, true, false, List, [], ◌∷◌, length, replicate, zip, unwrap_or, option_map, Option, Some, None, slice_get, slice_index, slice_set, bit_and, bit_or, bit_xor, sum, refl, ap, ◌∙◌, arith}
use Rattle.std.specs.List.{AllZip}
use Rattle.sgx_base.specs.Bytes.{low_bytes}
use Rattle.edl_interface.specs.declared.Function.{Function}
use Rattle.edl_interface.specs.declared.Interface.{Interface}
use Rattle.edl_interface.specs.declared.Param.{Param}
use Rattle.edl_interface.specs.Parameters.{marshalled, is_out, address_in, return_size}
use Rattle.word_port.specs.Events.{Event, made, ticked, placed}
use Rattle.word_port.specs.Interaction.{IsRun}
use Rattle.word_port.specs.Accesses.{word_at}
use Rattle.word_port.specs.History.{words_after, word_after}
use Rattle.word_port.proofs.OneRun.{not_ended}
use Rattle.body_vm.specs.declared.Action.{Action}
use Rattle.body_vm.specs.declared.Action.TheVariants.{Set, Add, Sub, Mul, And, Or, Xor, Len, Sum, Get, Put, Fill, Copy, Temp, Cload, Cswap, Cadd, Ccas, Ocall, Skipz, Skipnz, Return}
use Rattle.body_vm.specs.declared.Body.{Body}
use Rattle.body_vm.specs.State.{State, operand, register, with_register, block, with_block, with_new_block, overlay}
use Rattle.body_vm.specs.Execution.{Execution, returned, on_cell, on_ocall, execution_from, execution}
use Rattle.body_vm.proofs.PlaceLaws.{get_set_other}
use Rattle.call_copy.specs.Copies.{bytes_back}
use Rattle.call_script.specs.Sound.{IsSoundAction, AreSoundActions, IsSoundBody, temporary_count}
use Rattle.call_machine.specs.declared.Machine.{Machine}
use Rattle.call_machine.specs.Context.{Context, context_in_ecall}
use Rattle.call_machine.specs.Ecall.{Ocalls, Finished, finished, shape_of, actions_of, interpret, body_of}
use Rattle.call_machine.specs.Plain.{IsPlainMachine}
use Rattle.call_laws.specs.Undisturbed.{words_at_end, written, written_if, with_blocks, with_answer, IsUndisturbedRun}
use Rattle.call_laws.specs.Local.{MakesNoOcall, IsLocal, IsLocalCall}
use Rattle.call_laws.proofs.RunParts.{ret_run}

-- ---- words that are alike in one place

alike_set : (xs ys : List ℕ) (k b n : ℕ) → slice_get xs n ≡ slice_get ys n → slice_get (slice_set xs k b) n ≡ slice_get (slice_set ys k b) n
alike_set [] [] k b n e = refl
alike_set [] (y ∷ ys) k b zero e = absurd cc
alike_set [] (y ∷ ys) zero b (suc n) e = e
alike_set [] (y ∷ ys) (suc k) b (suc n) e = alike_set [] ys k b n e
alike_set (x ∷ xs) [] k b zero e = absurd cc
alike_set (x ∷ xs) [] zero b (suc n) e = e
alike_set (x ∷ xs) [] (suc k) b (suc n) e = alike_set xs [] k b n e
alike_set (x ∷ xs) (y ∷ ys) zero b zero e = refl
alike_set (x ∷ xs) (y ∷ ys) zero b (suc n) e = e
alike_set (x ∷ xs) (y ∷ ys) (suc k) b zero e = e
alike_set (x ∷ xs) (y ∷ ys) (suc k) b (suc n) e = alike_set xs ys k b n e

alike_written : (n : ℕ) (xs ys : List ℕ) (address : ℕ) (bytes : List ℕ) → slice_get xs n ≡ slice_get ys n → slice_get (written xs address bytes) n ≡ slice_get (written ys address bytes) n
alike_written n xs ys address [] e = e
alike_written n xs ys address (b ∷ bytes) e =
    alike_written n (slice_set xs (word_at address) b) (slice_set ys (word_at address) b) (address + 1) bytes (alike_set xs ys (word_at address) b n e)

alike_if : (n : ℕ) (out : Bool) (xs ys : List ℕ) (address : ℕ) (bytes : List ℕ) → slice_get xs n ≡ slice_get ys n
    → slice_get (written_if out xs address bytes) n ≡ slice_get (written_if out ys address bytes) n
alike_if n true xs ys address bytes e = alike_written n xs ys address bytes e
alike_if n false xs ys address bytes e = e

alike_blocks : (n : ℕ) (frame : List ℕ) (blocks : List (Param × Option (List ℕ))) (xs ys : List ℕ) → slice_get xs n ≡ slice_get ys n
    → slice_get (with_blocks frame blocks xs) n ≡ slice_get (with_blocks frame blocks ys) n
alike_blocks n frame [] xs ys e = e
alike_blocks n frame ((p, None) ∷ rest) xs ys e = alike_blocks n frame rest xs ys e
alike_blocks n frame ((p, Some bytes) ∷ rest) xs ys e =
    let back : List ℕ = bytes_back (shape_of p.class) bytes in
    alike_blocks n frame rest (written_if (is_out p.class) xs (address_in frame p) back) (written_if (is_out p.class) ys (address_in frame p) back)
    (alike_if n (is_out p.class) xs ys (address_in frame p) back e)

-- an answer changes words that are alike in the same way
alike_answer : (n : ℕ) (f : Function) (address : ℕ) (frame : List ℕ) (value : ℕ) (blocks : List (Option (List ℕ))) (xs ys : List ℕ) → slice_get xs n ≡ slice_get ys n
    → slice_get (with_answer f address frame value blocks xs) n ≡ slice_get (with_answer f address frame value blocks ys) n
alike_answer n f address frame value blocks xs ys e =
    let bytes : List ℕ = low_bytes (return_size f) value in
    alike_blocks n frame (zip (marshalled f) blocks) (written xs address bytes) (written ys address bytes) (alike_written n xs ys address bytes e)

-- ---- a body's own steps

module _ (m : Machine) (ocalls : Ocalls) (cx : Context) where
  -- they are on cells, which lie behind host memory
  steps_on_cells : (e : Execution) (events : List Event) (done : Finished) (words : List ℕ) (n : ℕ) → n < m.script.settings.host → MakesNoOcall e
      → IsRun (interpret m ocalls cx e) events done → slice_get (words_at_end words events) n ≡ slice_get words n
  steps_on_cells (returned value blocks) events done words n lt h run =
      let end : (events ≡ []) × (finished value blocks ≡ done) = ret_run (finished value blocks) events done run in
      ap (λ es. slice_get (words_at_end words es) n) end.0
  steps_on_cells (on_cell q next) [] done words n lt h run = absurd (not_ended (interpret m ocalls cx (on_cell q next)) done run)
  steps_on_cells (on_cell q next) (made s ∷ es) done words n lt h run =
      let at : s.index ≡ m.script.settings.host + q.cell = ap (λ v. v.index) run.0 in
      let other : n ≢ s.index = (λ e. omega (arith, at, lt, e)) in
      steps_on_cells (next s.answer) es done (words_after words s) n lt (h s.answer) run.1
      ∙ get_set_other words s.index n (word_after s.kind s.first s.second s.answer) other
  steps_on_cells (on_cell q next) (ticked k ∷ es) done words n lt h run = absurd run
  steps_on_cells (on_cell q next) (placed k ∷ es) done words n lt h run = absurd run
  steps_on_cells (on_ocall q next) events done words n lt h run = absurd h

pub local_call : (m : Machine) (ocalls : Ocalls) (cx : Context) (ordinal address : ℕ) (words : List ℕ) (events : List Event) → IsLocal m ordinal
    → IsUndisturbedRun m ocalls cx ordinal address words events → IsLocalCall m ocalls cx ordinal address words events
local_call m ocalls cx ordinal address words events alone run = record {
  run = run;
  host_is = λ n lt.
      ap (λ w. slice_get w n) run.words_are
      ∙ alike_answer n run.function address run.frame run.finished.value run.finished.blocks (words_at_end words run.running) words
      (steps_on_cells m ocalls (context_in_ecall cx ordinal run.copies.room) (body_of m ordinal run.function run.frame run.copies) run.running run.finished words n lt
      (alone run.function run.frame run.copies) run.body_runs);
}

-- ---- the bodies of a machine that the engine runs

abbrev IsLocalAction : Action → Type 0
IsLocalAction (Ocall ret status ordinal args) = ⊥
IsLocalAction _ = Unit {0}

abbrev AreLocalActions : List Action → Type 0
AreLocalActions [] = Unit {0}
AreLocalActions (action ∷ actions) = IsLocalAction action × AreLocalActions actions

makes_none : (s : State) (skip : ℕ) (actions : List Action) → AreLocalActions actions → MakesNoOcall (execution_from s skip actions)
makes_none s skip [] a = tt
makes_none s (suc skip) (action ∷ rest) a = makes_none s skip rest a.1
makes_none s zero (Set r v ∷ rest) a = makes_none (with_register s r (operand s v)) zero rest a.1
makes_none s zero (Add r v ∷ rest) a = makes_none (with_register s r ((register s r + operand s v) % 2 ^ 64)) zero rest a.1
makes_none s zero (Sub r v ∷ rest) a = makes_none (with_register s r ((register s r + 2 ^ 64 - operand s v) % 2 ^ 64)) zero rest a.1
makes_none s zero (Mul r v ∷ rest) a = makes_none (with_register s r ((register s r * operand s v) % 2 ^ 64)) zero rest a.1
makes_none s zero (And r v ∷ rest) a = makes_none (with_register s r (bit_and (register s r) (operand s v))) zero rest a.1
makes_none s zero (Or r v ∷ rest) a = makes_none (with_register s r (bit_or (register s r) (operand s v))) zero rest a.1
makes_none s zero (Xor r v ∷ rest) a = makes_none (with_register s r (bit_xor (register s r) (operand s v))) zero rest a.1
makes_none s zero (Len r b ∷ rest) a = makes_none (with_register s r (length (block s b))) zero rest a.1
makes_none s zero (Sum r b ∷ rest) a = makes_none (with_register s r (sum (block s b))) zero rest a.1
makes_none s zero (Get r b v ∷ rest) a = makes_none (with_register s r (slice_index (block s b) (operand s v))) zero rest a.1
makes_none s zero (Put b v w ∷ rest) a = makes_none (with_block s b (λ bytes. slice_set bytes (operand s v) (operand s w % 256))) zero rest a.1
makes_none s zero (Fill b v ∷ rest) a = makes_none (with_block s b (λ bytes. replicate (length bytes) (operand s v % 256))) zero rest a.1
makes_none s zero (Copy b c ∷ rest) a = makes_none (with_block s b (λ bytes. overlay bytes (block s c))) zero rest a.1
makes_none s zero (Temp b n ∷ rest) a = makes_none (with_new_block s b n) zero rest a.1
makes_none s zero (Cload r cell ∷ rest) a = λ old. makes_none (with_register s r old) zero rest a.1
makes_none s zero (Cswap r cell v ∷ rest) a = λ old. makes_none (with_register s r old) zero rest a.1
makes_none s zero (Cadd r cell v ∷ rest) a = λ old. makes_none (with_register s r old) zero rest a.1
makes_none s zero (Ccas r cell v w ∷ rest) a = λ old. makes_none (with_register s r old) zero rest a.1
makes_none s zero (Ocall ret status ordinal args ∷ rest) a = absurd a.0
makes_none s zero (Skipz r n ∷ rest) a = makes_none s (if register s r == 0 then n else 0) rest a.1
makes_none s zero (Skipnz r n ∷ rest) a = makes_none s (if register s r == 0 then 0 else n) rest a.1
makes_none s zero (Return v ∷ rest) a = tt

no_function : (fs : List Function) (ordinal : ℕ) (g : Function) → fs ≡ [] → slice_get fs ordinal ≡ Some g → ⊥
no_function [] ordinal g e found = cc
no_function (x ∷ fs) ordinal g e found = cc

module _ (i : Interface) (count : ℕ) (none : i.ocalls ≡ []) where
  local_action : (f : Function) (temporaries left : ℕ) (a : Action) → IsSoundAction i count f temporaries left a → IsLocalAction a
  local_action f temporaries left (Ocall ret status ordinal args) h = no_function i.ocalls ordinal h.2.function none h.2.found
  local_action f temporaries left a h = tt

  local_actions : (f : Function) (temporaries : ℕ) (actions : List Action) → AreSoundActions i count f temporaries actions → AreLocalActions actions
  local_actions f temporaries [] h = tt
  local_actions f temporaries (a ∷ actions) h = (local_action f temporaries (length actions) a h.0, local_actions f temporaries actions h.1)

  -- the body of an ordinal, or none
  local_body : (fs : List Function) (bodies : List Body) (ordinal : ℕ) → AllZip (IsSoundBody i count) fs bodies
      → AreLocalActions (unwrap_or (option_map (λ (b : Body). b.actions) (slice_get bodies ordinal)) [])
  local_body [] [] ordinal are = tt
  local_body [] (b ∷ bodies) ordinal are = absurd are
  local_body (f ∷ fs) [] ordinal are = absurd are
  local_body (f ∷ fs) (b ∷ bodies) zero are = local_actions f (temporary_count b) b.actions are.0.actions
  local_body (f ∷ fs) (b ∷ bodies) (suc n) are = local_body fs bodies n are.1

pub local_bodies : (m : Machine) (ordinal : ℕ) → IsPlainMachine m → m.interface.ocalls ≡ [] → IsLocal m ordinal
unfolding execution
local_bodies m ordinal plain none = λ f frame copies.
    makes_none _ zero (actions_of m ordinal) (local_body m.interface m.script.settings.cells none m.interface.ecalls m.script.bodies ordinal plain.script.bodies)
