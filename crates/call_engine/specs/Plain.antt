-- Which scripts the engine runs so far: those of one thread.
use Rattle.std.specs.Prelude.{ℕ, Bool, true, false, ◌&&◌, ◌==◌, if◌then◌else◌, List, length, Result, Ok, Err}
use Rattle.edl_interface.specs.declared.Interface.{Interface}
use Rattle.call_script.specs.declared.Settings.{Settings}
use Rattle.call_script.specs.declared.Script.{Script}
use Rattle.call_script.specs.Faults.{Fault}
use Rattle.call_script.specs.Reading.{script_of}

abbrev pub has_no_workers : Settings → Bool
has_no_workers s = s.tworkers == 0 && s.uworkers == 0

abbrev pub is_plain : Script → Bool
is_plain s =
    has_no_workers s.settings && length s.racers == 0 && length s.threads == 1

-- a script that the engine does not run is told at no line
abbrev pub not_plain : Fault
not_plain = record { line = 0; code = 1 }

abbrev pub if_plain : Result Script Fault → Result Script Fault
if_plain (Ok s) = if is_plain s then Ok s else Err not_plain
if_plain (Err fault) = Err fault

-- the script that a text spells for an interface: for the program without threads whatever the reader gives, for the one
-- with threads where the engine runs it
abbrev pub plain_script : Interface → Bool → List ℕ → Result Script Fault
plain_script i false text = script_of i false text
plain_script i true text = if_plain (script_of i true text)
