-- The value of a script without a fault.
use Rattle.std.specs.Prelude.{ℕ, ◌≡◌, Bool, List, None}
use Rattle.edl_interface.specs.declared.Interface.{Interface}
use Rattle.call_script.specs.Block.{placed_lines}
use Rattle.call_script.specs.Faults.{script_fault}

-- no line of the script has a fault, and its stacks fit
abbrev pub IsFaultless : Interface → Bool → List ℕ → Type 0
IsFaultless i racing bytes = script_fault i racing (placed_lines bytes) ≡ None
