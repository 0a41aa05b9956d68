-- What the reading of a script gives: its value, or its fault.
use Rattle.std.specs.Prelude.{ℕ, ◌≡◌, Bool, List, Option, Some, None, Result, Ok, Err}
use Rattle.edl_interface.specs.declared.Interface.{Interface}
use Rattle.call_script.specs.declared.Script.{Script}
use Rattle.call_script.specs.declared.ScriptFault.{ScriptFault}
use Rattle.call_script.specs.declared.ScriptFault.TheVariants.{Rule, Memory}
use Rattle.call_script.specs.Block.{placed_lines}
use Rattle.call_script.specs.Faults.{Fault, script_fault}
use Rattle.call_script.specs.Meaning.{script_value}

-- the value, where there is no fault
abbrev pub unless_fault : {A : Type 0} → Option Fault → A → Result A Fault
unless_fault None a = Ok a
unless_fault (Some fault) a = Err fault

-- the script that these bytes spell for an interface, or its fault
unfoldable pub script_of : Interface → Bool → List ℕ → Result Script Fault
script_of i racing bytes =
    unless_fault (script_fault i racing (placed_lines bytes)) (script_value i racing (placed_lines bytes))

-- the answer of a reader is what is stated, unless memory runs out
abbrev pub Reads : {A : Type 0} → Result A Fault → Result A ScriptFault → Type 0
Reads stated (Ok a) = stated ≡ Ok a
Reads stated (Err (Rule line code)) = stated ≡ Err (record { line = line; code = code })
Reads stated (Err Memory) = Unit {0}
