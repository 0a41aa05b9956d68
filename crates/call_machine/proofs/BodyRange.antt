-- A sound body can be carried out: its registers and places are in range, its cells are there, its OCALLs are those of the interface, and
-- the blocks of the parameters stay as long as they are.
use Rattle.std.proofs.Common.{ℕ, zero, suc, ◌+◌, ◌-◌, ◌*◌, ◌%◌, ◌^◌, ◌≡◌, ◌≤◌, ◌==◌, Bool, true, false, if◌then◌else◌, List, [], ◌∷◌, length, map, filter, count_by, replicate, Option, Some, None, slice_get, slice_set, slice_index, bit_and, bit_or, bit_xor, sum, refl, ap, sym, ◌∙◌, subst, arith, length-set}
use Rattle.std.specs.List.{AllZip}
use Rattle.std.proofs.lemmas.List.{length-replicate}
use Rattle.std.proofs.lemmas.List.Sums.{length-filter}
use Rattle.std.proofs.lemmas.Option.{slice_get_within}
use Rattle.edl_interface.specs.declared.Function.{Function}
use Rattle.edl_interface.specs.declared.Interface.{Interface}
use Rattle.edl_interface.specs.declared.Param.{Param}
use Rattle.edl_interface.specs.Parameters.{is_marshalled, marshalled}
use Rattle.enclave_memory.specs.declared.Block.{Block}
use Rattle.enclave_memory.specs.Arguments.{Passed, by_number, by_place}
use Rattle.ocall_frames.specs.Arguments.{AreOfKinds}
use Rattle.body_vm.specs.declared.Operand.{Operand}
use Rattle.body_vm.specs.declared.Operand.TheVariants.{Number, Reg, Value}
use Rattle.body_vm.specs.declared.Action.{Action}
use Rattle.body_vm.specs.declared.Action.TheVariants.{Set, Add, Sub, Mul, And, Or, Xor, Len, Sum, Get, Put, Fill, Copy, Temp, Cload, Cswap, Cadd, Ccas, Ocall, Skipz, Skipnz, Return}
use Rattle.body_vm.specs.declared.Pass.{Pass}
use Rattle.body_vm.specs.declared.Pass.TheVariants.{Value as pass_value, Bytes as pass_block}
use Rattle.body_vm.specs.declared.Body.{Body}
use Rattle.body_vm.specs.Range.{IsOperand as IsInRangeOperand, ArePassable, IsInRange, skip_of, AreInRange}
use Rattle.body_vm.specs.State.{State, operand, register, with_register, block, with_block, with_new_block, overlay, passed_argument}
use Rattle.body_vm.specs.Execution.{Execution, OcallRequest, OcallAnswer, returned, on_cell, on_ocall, with_answer, execution_from}
use Rattle.body_vm.specs.Moments.{handed}
use Rattle.body_run.specs.Cells.{HasCell, HaveCells}
use Rattle.call_script.specs.Sound.{IsOperand, IsPassAt, IsSoundOcall, IsSoundAction, AreSoundActions, IsSoundBody, is_temporary_action}
use Rattle.call_machine.specs.Bodies.{KeepLengths}
use Rattle.call_machine.specs.Ecall.{is_temp}
use Rattle.call_machine.proofs.BlockLengths.{keep_then, changed_keeps, new_keeps, overlay_length}
use std.Path.{fun_ext}

-- whether an argument is a block or null, and no number
abbrev is_place : Passed → Bool
is_place (by_number n) = false
is_place (by_place place) = true

-- one argument for each parameter: a block or null exactly where it is marshalled
abbrev pub AreFor : List Param → List Passed → Type 0
AreFor [] [] = Unit {0}
AreFor (p ∷ params) (a ∷ passed) = (is_place a ≡ is_marshalled p.class) × AreFor params passed
AreFor _ _ = ⊥

-- an OCALL of the interface, with arguments of its parameters' kinds
pub record IsAsked (i : Interface) (q : OcallRequest) : Type 0 where
  pub function : Function
  pub found : slice_get i.ocalls q.ordinal ≡ Some function
  pub kinds : AreFor function.params q.arguments

-- whatever its cells and OCALLs answer, each OCALL is one of the interface; and where OCALLs keep the lengths of blocks, the execution
-- ends with blocks whose first ones are as long as these
abbrev pub EndsWith : Interface → List (Option (List ℕ)) → Execution → Type 0
EndsWith i first (returned value blocks) = KeepLengths first blocks
EndsWith i first (on_cell q next) = (old : ℕ) → EndsWith i first (next old)
EndsWith i first (on_ocall q next) = IsAsked i q × ((answer : OcallAnswer) → KeepLengths q.blocks answer.blocks → EndsWith i first (next answer))

-- the arguments of an OCALL that is made are of the kinds that it wants
pub are_of_kinds : (params : List Param) (passed : List Passed) (blocks : List (Option Block)) → AreFor params passed → AreOfKinds params (map (handed blocks) passed)
are_of_kinds [] [] blocks h = tt
are_of_kinds [] (a ∷ passed) blocks h = absurd h
are_of_kinds (p ∷ params) [] blocks h = absurd h
are_of_kinds (p ∷ params) (by_number n ∷ passed) blocks h = (h.0, are_of_kinds params passed blocks h.1)
are_of_kinds (p ∷ params) (by_place place ∷ passed) blocks h = (h.0, are_of_kinds params passed blocks h.1)

module _ (i : Interface) (count : ℕ) (f : Function) (temporaries : ℕ) where
  operand_in : (v : Operand) → IsOperand i count f temporaries v → IsInRangeOperand (length f.params) v
  operand_in (Number n) h = tt
  operand_in (Reg r) h = h
  operand_in (Value place) h = slice_get_within f.params place h.0 h.1

  passes_in : (params : List Param) (args : List Pass) → AllZip (IsPassAt i count f temporaries) params args → ArePassable (length f.params) (length (marshalled f) + temporaries) args
  passes_in [] [] h = tt
  passes_in [] (a ∷ args) h = absurd h
  passes_in (p ∷ params) [] h = absurd h
  passes_in (p ∷ params) (pass_value v ∷ args) h = (operand_in v h.0.1, passes_in params args h.1)
  passes_in (p ∷ params) (pass_block None ∷ args) h = (tt, passes_in params args h.1)
  passes_in (p ∷ params) (pass_block (Some place) ∷ args) h = (h.0.1, passes_in params args h.1)

  passes_count : (params : List Param) (args : List Pass) → AllZip (IsPassAt i count f temporaries) params args → length args ≡ length params
  passes_count [] [] h = refl
  passes_count [] (a ∷ args) h = absurd h
  passes_count (p ∷ params) [] h = absurd h
  passes_count (p ∷ params) (a ∷ args) h = ap (λ n. suc n) (passes_count params args h.1)

  kinds_of : (s : State) (params : List Param) (args : List Pass) → AllZip (IsPassAt i count f temporaries) params args → AreFor params (map (passed_argument s) args)
  kinds_of s [] [] h = tt
  kinds_of s [] (a ∷ args) h = absurd h
  kinds_of s (p ∷ params) [] h = absurd h
  kinds_of s (p ∷ params) (pass_value v ∷ args) h = (sym h.0.0, kinds_of s params args h.1)
  kinds_of s (p ∷ params) (pass_block None ∷ args) h = (sym h.0, kinds_of s params args h.1)
  kinds_of s (p ∷ params) (pass_block (Some place) ∷ args) h = (sym h.0.0, kinds_of s params args h.1)

  module _ (few : (ordinal : ℕ) (g : Function) → slice_get i.ocalls ordinal ≡ Some g → length g.params ≤ 64) where
    action_in : (left : ℕ) (a : Action) → IsSoundAction i count f temporaries left a → IsInRange (length f.params) (length (marshalled f) + temporaries) a × (skip_of a ≤ left)
    action_in left (Set r v) h = ((h.0, operand_in v h.1), omega arith)
    action_in left (Add r v) h = ((h.0, operand_in v h.1), omega arith)
    action_in left (Sub r v) h = ((h.0, operand_in v h.1), omega arith)
    action_in left (Mul r v) h = ((h.0, operand_in v h.1), omega arith)
    action_in left (And r v) h = ((h.0, operand_in v h.1), omega arith)
    action_in left (Or r v) h = ((h.0, operand_in v h.1), omega arith)
    action_in left (Xor r v) h = ((h.0, operand_in v h.1), omega arith)
    action_in left (Len r b) h = (h, omega arith)
    action_in left (Sum r b) h = (h, omega arith)
    action_in left (Get r b v) h = ((h.1, (h.0, operand_in v h.2)), omega arith)
    action_in left (Put b v w) h = ((h.0, operand_in v h.1, operand_in w h.2), omega arith)
    action_in left (Fill b v) h = ((h.0, operand_in v h.1), omega arith)
    action_in left (Copy b c) h = (h, omega arith)
    action_in left (Temp b n) h = ((h.0.1, h.1), omega arith)
    action_in left (Cload r cell) h = (h.0, omega arith)
    action_in left (Cswap r cell v) h = ((h.0, operand_in v h.2), omega arith)
    action_in left (Cadd r cell v) h = ((h.0, operand_in v h.2), omega arith)
    action_in left (Ccas r cell v w) h = ((h.0, operand_in v h.2, operand_in w h.3), omega arith)
    action_in left (Ocall r q ordinal args) h =
        let sound : IsSoundOcall i count f temporaries ordinal args = h.2 in
        let upto : length sound.function.params ≤ 64 = few ordinal sound.function sound.found in
        let same : length args ≡ length sound.function.params = passes_count sound.function.params args sound.fits in
        ((h.0, h.1, omega (arith, upto, same), passes_in sound.function.params args sound.fits), omega arith)
    action_in left (Skipz r n) h = (h.0, h.1)
    action_in left (Skipnz r n) h = (h.0, h.1)
    action_in left (Return v) h = (operand_in v h, omega arith)

    pub in_range : (actions : List Action) → AreSoundActions i count f temporaries actions → AreInRange (length f.params) (length (marshalled f) + temporaries) actions
    in_range [] h = tt
    in_range (a ∷ actions) h = let one = action_in (length actions) a h.0 in (one.0, one.1, in_range actions h.1)

  module _ (more : ℕ) (enough : count ≤ more) where
    cell_in : (left : ℕ) (a : Action) → IsSoundAction i count f temporaries left a → HasCell more a
    cell_in left (Cload r cell) h = let within = h.1 in omega (arith, within, enough)
    cell_in left (Cswap r cell v) h = let within = h.1 in omega (arith, within, enough)
    cell_in left (Cadd r cell v) h = let within = h.1 in omega (arith, within, enough)
    cell_in left (Ccas r cell v w) h = let within = h.1 in omega (arith, within, enough)
    cell_in left a h = tt

    pub cells_in : (actions : List Action) → AreSoundActions i count f temporaries actions → HaveCells more actions
    cells_in [] h = tt
    cells_in (a ∷ actions) h = (cell_in (length actions) a h.0, cells_in actions h.1)

  module _ (first : List (Option (List ℕ))) (first_are : length first ≡ length (marshalled f)) where
    abbrev Keeps : Execution → Type 0
    Keeps e = EndsWith i first e

    pub ends_with : (s : State) (skip : ℕ) (actions : List Action) → AreSoundActions i count f temporaries actions → KeepLengths first s.blocks → Keeps (execution_from s skip actions)
    ends_with s skip [] a k = k
    ends_with s (suc skip) (action ∷ rest) a k = ends_with s skip rest a.1 k
    ends_with s zero (Set r v ∷ rest) a k = ends_with (with_register s r (operand s v)) zero rest a.1 k
    ends_with s zero (Add r v ∷ rest) a k = ends_with (with_register s r ((register s r + operand s v) % 2 ^ 64)) zero rest a.1 k
    ends_with s zero (Sub r v ∷ rest) a k = ends_with (with_register s r ((register s r + 2 ^ 64 - operand s v) % 2 ^ 64)) zero rest a.1 k
    ends_with s zero (Mul r v ∷ rest) a k = ends_with (with_register s r ((register s r * operand s v) % 2 ^ 64)) zero rest a.1 k
    ends_with s zero (And r v ∷ rest) a k = ends_with (with_register s r (bit_and (register s r) (operand s v))) zero rest a.1 k
    ends_with s zero (Or r v ∷ rest) a k = ends_with (with_register s r (bit_or (register s r) (operand s v))) zero rest a.1 k
    ends_with s zero (Xor r v ∷ rest) a k = ends_with (with_register s r (bit_xor (register s r) (operand s v))) zero rest a.1 k
    ends_with s zero (Len r b ∷ rest) a k = ends_with (with_register s r (length (block s b))) zero rest a.1 k
    ends_with s zero (Sum r b ∷ rest) a k = ends_with (with_register s r (sum (block s b))) zero rest a.1 k
    ends_with s zero (Get r b v ∷ rest) a k = ends_with (with_register s r (slice_index (block s b) (operand s v))) zero rest a.1 k
    ends_with s zero (Put b v w ∷ rest) a k =
        ends_with (with_block s b (λ bytes. slice_set bytes (operand s v) (operand s w % 256))) zero rest a.1
        (changed_keeps first s k b (λ bytes. slice_set bytes (operand s v) (operand s w % 256)) (λ bytes. length-set bytes (operand s v) (operand s w % 256)))
    ends_with s zero (Fill b v ∷ rest) a k =
        ends_with (with_block s b (λ bytes. replicate (length bytes) (operand s v % 256))) zero rest a.1
        (changed_keeps first s k b (λ bytes. replicate (length bytes) (operand s v % 256)) (λ bytes. length-replicate (length bytes) (operand s v % 256)))
    ends_with s zero (Copy b c ∷ rest) a k =
        ends_with (with_block s b (λ bytes. overlay bytes (block s c))) zero rest a.1
        (changed_keeps first s k b (λ bytes. overlay bytes (block s c)) (λ bytes. overlay_length bytes (block s c)))
    ends_with s zero (Temp b n ∷ rest) a k =
        ends_with (with_new_block s b n) zero rest a.1 (new_keeps first s k b n (let from = a.0.0.0 in omega (arith, from, first_are)))
    ends_with s zero (Cload r cell ∷ rest) a k = λ old. ends_with (with_register s r old) zero rest a.1 k
    ends_with s zero (Cswap r cell v ∷ rest) a k = λ old. ends_with (with_register s r old) zero rest a.1 k
    ends_with s zero (Cadd r cell v ∷ rest) a k = λ old. ends_with (with_register s r old) zero rest a.1 k
    ends_with s zero (Ccas r cell v w ∷ rest) a k = λ old. ends_with (with_register s r old) zero rest a.1 k
    ends_with s zero (Ocall r q ordinal args ∷ rest) a k = (
      record { function = a.0.2.function; found = a.0.2.found; kinds = kinds_of s a.0.2.function.params args a.0.2.fits },
      λ answer kept. ends_with (with_answer s r q answer) zero rest a.1 (keep_then first s.blocks answer.blocks k kept),
    )
    ends_with s zero (Skipz r n ∷ rest) a k = ends_with s (if register s r == 0 then n else 0) rest a.1 k
    ends_with s zero (Skipnz r n ∷ rest) a k = ends_with s (if register s r == 0 then 0 else n) rest a.1 k
    ends_with s zero (Return v ∷ rest) a k = k

-- ---- temporary blocks

same_test : (a : Action) → is_temporary_action a ≡ is_temp a
same_test (Temp b n) = refl
same_test a = refl

-- the temporary blocks of a body, counted in two ways
pub temps_are : (actions : List Action) → length (filter is_temporary_action actions) ≡ count_by is_temp actions
temps_are actions = length-filter is_temporary_action actions ∙ ap (λ (test : Action → Bool). count_by test actions) (fun_ext same_test)

-- ---- the body of a function

pub record HasBody (i : Interface) (count : ℕ) (f : Function) (bodies : List Body) (ordinal : ℕ) : Type 0 where
  pub body : Body
  pub there : slice_get bodies ordinal ≡ Some body
  pub sound : IsSoundBody i count f body

pub body_at : (i : Interface) (count : ℕ) (fs : List Function) (bodies : List Body) (ordinal : ℕ) (f : Function) → AllZip (IsSoundBody i count) fs bodies → slice_get fs ordinal ≡ Some f
    → HasBody i count f bodies ordinal
body_at i count [] [] ordinal f are e = absurd cc
body_at i count [] (b ∷ bodies) ordinal f are e = absurd are
body_at i count (g ∷ fs) [] ordinal f are e = absurd are
body_at i count (g ∷ fs) (b ∷ bodies) zero f are e = let same : g ≡ f = cc in record { body = b; there = refl; sound = subst (λ h. IsSoundBody i count h b) same are.0 }
body_at i count (g ∷ fs) (b ∷ bodies) (suc n) f are e =
    let h : HasBody i count f bodies n = body_at i count fs bodies n f are.1 e in record { body = h.body; there = h.there; sound = h.sound }

-- and it is the one that was found
pub found_body : (i : Interface) (count : ℕ) (f : Function) (bodies : List Body) (ordinal : ℕ) (body : Body) → HasBody i count f bodies ordinal → slice_get bodies ordinal ≡ Some body
    → IsSoundBody i count f body
found_body i count f bodies ordinal body h e =
    let some : Some h.body ≡ Some body = sym h.there ∙ e in
    let same : h.body ≡ body = cc in
    subst (λ b. IsSoundBody i count f b) same h.sound
