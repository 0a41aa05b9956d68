-- What the laws of a machine's participants rest on: it is sound, its interface and its host memory are within their
-- limits, its bodies step on its own cells alone, and bytes that are given for a parameter fill its field.
use Rattle.std.specs.Prelude.{ℕ, ◌≡◌, ◌≤◌, ◌<◌, ◌+◌, ◌*◌, List, [], ◌∷◌, length, Some, slice_get}
use Rattle.edl_interface.specs.declared.Param.{Param}
use Rattle.edl_interface.specs.declared.Function.{Function}
use Rattle.edl_interface.specs.declared.Interface.{Interface}
use Rattle.edl_interface.specs.Parameters.{field_size}
use Rattle.body_vm.specs.declared.Action.{Action}
use Rattle.body_vm.specs.declared.Action.TheVariants.{Cload, Cswap, Cadd, Ccas}
use Rattle.call_script.specs.declared.CallArg.{CallArg}
use Rattle.call_script.specs.declared.CallArg.TheVariants.{Bytes}
use Rattle.call_script.specs.declared.HostAct.{HostAct, Call, Repeat', Row_of-HostAct, end_of-HostAct, more_of-HostAct}
use Rattle.call_script.specs.declared.Settings.{Settings}
use Rattle.call_machine.specs.declared.Machine.{Machine}
use Rattle.call_machine.specs.Sound.{IsSoundMachine}
use Rattle.call_machine.specs.Ecall.{actions_of}
use Rattle.call_machine.specs.Served.{handler_acts}

-- a step on a cell is on one of so many
abbrev pub IsOnCells : ℕ → Action → Type 0
IsOnCells cells (Cload r cell) = cell < cells
IsOnCells cells (Cswap r cell v) = cell < cells
IsOnCells cells (Cadd r cell v) = cell < cells
IsOnCells cells (Ccas r cell v w) = cell < cells
IsOnCells cells _ = Unit {0}

-- each action is so
abbrev pub AreOnCells : ℕ → List Action → Type 0
AreOnCells cells [] = Unit {0}
AreOnCells cells (action ∷ actions) = IsOnCells cells action × AreOnCells cells actions

-- bytes that are given for a parameter are as many as its field has
abbrev pub FillsField : Param → CallArg → Type 0
FillsField p (Bytes bytes) = length bytes ≡ field_size p.class
FillsField p _ = Unit {0}

-- those of each parameter are
abbrev pub FillFields : List Param → List CallArg → Type 0
FillFields (p ∷ params) (arg ∷ args) = FillsField p arg × FillFields params args
FillFields _ _ = Unit {0}

-- the arguments of an act that calls fill their fields, and so do those of the acts in a repeat
abbrev mutual
  pub IsFittingAct : Interface → HostAct → Type 0
  IsFittingAct interface (Call ordinal args) = (f : Function) → slice_get interface.ecalls ordinal ≡ Some f
      → FillFields f.params args
  IsFittingAct interface (Repeat' times shape acts) = AreFittingRow interface acts
  IsFittingAct interface _ = Unit {0}

  pub AreFittingRow : {n : _} → Interface → Row_of-HostAct n → Type 0
  AreFittingRow interface end_of-HostAct = Unit {0}
  AreFittingRow interface (more_of-HostAct act rest) = IsFittingAct interface act × AreFittingRow interface rest

-- each act is so
abbrev pub AreFitting : Interface → List HostAct → Type 0
AreFitting interface [] = Unit {0}
AreFitting interface (act ∷ acts) = IsFittingAct interface act × AreFitting interface acts

-- all this
pub record IsBoundedMachine (m : Machine) : Type 0 where
  pub sound : IsSoundMachine m
  pub host : m.script.settings.host ≤ 65536
  pub ecalls : length m.interface.ecalls ≤ 65536
  pub ocalls : length m.interface.ocalls ≤ 65536
  pub cells : (ordinal : ℕ) → AreOnCells m.script.settings.cells (actions_of m ordinal)
  pub handlers : (ordinal : ℕ) (f : Function) → slice_get m.interface.ocalls ordinal ≡ Some f
      → AreFitting m.interface (handler_acts m ordinal)

-- host memory has a host stack for this participant and for those before it
abbrev pub HasStackFor : Settings → ℕ → Type 0
HasStackFor settings participant = participant * settings.stack + settings.stack ≤ settings.host
