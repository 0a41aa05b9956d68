-- A machine that the engine runs is sound.
use Rattle.std.proofs.Common.{IfOk, Result, Ok, Err}
use Rattle.call_machine.specs.declared.Machine.{Machine}
use Rattle.call_machine.specs.Plain.{IsPlainMachine}
use Rattle.call_machine.specs.Sound.{IsSoundMachine}
use Rattle.call_machine.proofs.SoundMachines.{plain_sound}
use Rattle.call_engine.specs.declared.faults.PrepareFault.{PrepareFault}

pub sound_if_plain : (result : Result Machine PrepareFault) → IfOk result (λ m. IsPlainMachine m) → IfOk result (λ m. IsSoundMachine m)
sound_if_plain (Ok m) plain = plain_sound m plain
sound_if_plain (Err fault) plain = tt
