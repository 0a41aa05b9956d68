-- The machines that the engine runs: what the rules and the script reader give, where no pool has workers.
use Rattle.std.specs.Prelude.{◌≡◌, ◌≤◌, length, All, Bool}
use Rattle.edl_interface.specs.declared.Function.{Function}
use Rattle.edl_interface.specs.Parameters.{IsWordSized}
use Rattle.edl_interface.specs.Sound.{IsSound}
use Rattle.edl_interface.specs.Runnable.{IsRunnable, IsRunnableFunction}
use Rattle.call_script.specs.Sound.{IsSoundScript}
use Rattle.bridge_program.specs.Tables.{bridges_of}
use Rattle.call_machine.specs.declared.Machine.{Machine}

-- a function whose parameters and frame the engine can hold
pub record IsPlainFunction (is_ecall : Bool) (f : Function) : Type 0 where
  pub words : All (λ p. IsWordSized p.class) f.params
  pub few : length f.params ≤ 64
  pub frame : f.frame_size ≤ 1024
  pub runnable : IsRunnableFunction is_ecall f

-- a machine that the engine runs
pub record IsPlainMachine (m : Machine) : Type 0 where
  pub sound : IsSound m.interface
  pub runnable : IsRunnable m.interface
  pub bridges : m.bridges ≡ bridges_of m.interface
  pub racing : Bool
  pub script : IsSoundScript m.interface racing m.script
  pub no_trusted_workers : m.script.settings.tworkers ≡ 0
  pub no_untrusted_workers : m.script.settings.uworkers ≡ 0
