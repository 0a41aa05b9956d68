-- What the property of whole runs rests on in a machine: its interface is one that a run takes, its host stack lies in host memory, and its bodies are sound.
use Rattle.std.specs.Prelude.{ℕ, ◌≡◌, ◌≤◌, true, false, List, [], ◌∷◌, length, Some, slice_get}
use Rattle.edl_interface.specs.declared.Param.{Param}
use Rattle.edl_interface.specs.declared.Function.{Function}
use Rattle.edl_interface.specs.declared.Interface.{Interface}
use Rattle.edl_interface.specs.Parameters.{marshalled, is_marshalled}
use Rattle.edl_interface.specs.Runnable.{IsRunnable}
use Rattle.body_vm.specs.declared.Action.{Action}
use Rattle.body_vm.specs.declared.Action.TheVariants.{Temp, Ocall}
use Rattle.body_vm.specs.declared.Pass.{Pass}
use Rattle.body_vm.specs.declared.Pass.TheVariants.{Value, Bytes}
use Rattle.call_machine.specs.declared.Machine.{Machine}
use Rattle.call_machine.specs.Ecall.{actions_of}

-- an action hands over a block exactly where the parameter is marshalled
abbrev pub FitPasses : List Param → List Pass → Type 0
FitPasses [] [] = Unit {0}
FitPasses (p ∷ params) (Value v ∷ args) = (is_marshalled p.class ≡ false) × FitPasses params args
FitPasses (p ∷ params) (Bytes place ∷ args) = (is_marshalled p.class ≡ true) × FitPasses params args
FitPasses _ _ = ⊥

-- a temporary block is not made in one of the first places, so many, and the arguments of an OCALL fit its function
abbrev pub IsSoundAction : Interface → ℕ → Action → Type 0
IsSoundAction interface count (Temp place n) = count ≤ place
IsSoundAction interface count (Ocall ret status ordinal args) = (f : Function) → slice_get interface.ocalls ordinal ≡ Some f → FitPasses f.params args
IsSoundAction interface count _ = Unit {0}

-- each action is so
abbrev pub AreSoundActions : Interface → ℕ → List Action → Type 0
AreSoundActions interface count [] = Unit {0}
AreSoundActions interface count (action ∷ actions) = IsSoundAction interface count action × AreSoundActions interface count actions

-- the body of an ECALL makes its temporary blocks behind those of its parameters, and its OCALLs have arguments that fit
abbrev pub IsSoundBody : Machine → ℕ → Type 0
IsSoundBody m ordinal = (f : Function) → slice_get m.interface.ecalls ordinal ≡ Some f → AreSoundActions m.interface (length (marshalled f)) (actions_of m ordinal)

-- all this
pub record IsSoundMachine (m : Machine) : Type 0 where
  pub runnable : IsRunnable m.interface
  pub stack : m.script.settings.stack ≤ m.script.settings.host
  pub bodies : (ordinal : ℕ) → IsSoundBody m ordinal
