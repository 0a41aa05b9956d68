-- Which OCALLs leave the copies of parameters as long as they were.
use Rattle.std.proofs.Common.{ℕ, ◌≡◌, true, false, List, [], ◌∷◌, map, Option, Some, slice_get}
use Rattle.edl_interface.specs.declared.Param.{Param}
use Rattle.edl_interface.specs.declared.Function.{Function}
use Rattle.edl_interface.specs.Parameters.{marshalled, is_marshalled}
use Rattle.word_port.specs.Events.{Event}
use Rattle.word_port.specs.Interaction.{IsRun}
use Rattle.enclave_memory.specs.Arguments.{Passed, by_number, by_place, argument_of, places_in}
use Rattle.ocall_frames.specs.Frames.{blocks_after}
use Rattle.call_machine.specs.declared.Machine.{Machine}
use Rattle.call_machine.specs.Bodies.{KeepLengths}
use Rattle.call_machine.specs.Context.{Context}
use Rattle.call_machine.specs.Ecall.{Ocalls, OcallOutcome}

-- a block is handed over exactly where the parameter is marshalled
abbrev pub FitArguments : List Param → List Passed → Type 0
FitArguments [] [] = Unit {0}
FitArguments (p ∷ params) (by_number n ∷ passed) = (is_marshalled p.class ≡ false) × FitArguments params passed
FitArguments (p ∷ params) (by_place place ∷ passed) = (is_marshalled p.class ≡ true) × FitArguments params passed
FitArguments _ _ = ⊥

-- whatever comes back of an OCALL whose arguments fit, each block is as long after it as before it
abbrev pub OcallsKeepLengths : Machine → Ocalls → Type 0
OcallsKeepLengths m ocalls = (f : Function) (cx : Context) (ordinal : ℕ) (blocks : List (Option (List ℕ))) (passed : List Passed) (events : List Event) (out : OcallOutcome)
    → slice_get m.interface.ocalls ordinal ≡ Some f → FitArguments f.params passed
    → IsRun (ocalls cx ordinal (map (argument_of blocks) passed)) events out
    → KeepLengths blocks (blocks_after (marshalled f) (places_in passed) out.loaded blocks)
