-- A script that was taken is sound, for any interface.
use Rattle.std.proofs.Common.{ℕ, ◌≡◌, Bool, List, subst}
use Rattle.std.specs.Prelude.{Ok}
use Rattle.edl_interface.specs.declared.Interface.{Interface}
use Rattle.call_script.specs.declared.Script.{Script}
use Rattle.call_script.specs.Block.{placed_lines}
use Rattle.call_script.specs.Meaning.{script_value}
use Rattle.call_script.specs.Reading.{script_of}
use Rattle.call_script.specs.Sound.{IsSoundScript}
use Rattle.script_laws.proofs.FineLines.{IsTaken, script-taken, fine-lines}
use Rattle.script_laws.proofs.SettingLaws.{sound-settings, sound-stacks, sound-stack}
use Rattle.script_laws.proofs.WordLaws.{sound-words}
use Rattle.script_laws.proofs.RaceLaws.{sound-races}
use Rattle.script_laws.proofs.BlockLaws.{lines-nested}
use Rattle.script_laws.proofs.ThreadLaws.{sound-handlers, sound-threads}
use Rattle.script_laws.proofs.BodyLaws.{sound-bodies}

-- what the lines of a script spell is sound, where no line has a fault and the stacks fit
value-sound : (i : Interface) (racing : Bool) (bytes : List ℕ) (s : Script) → IsTaken i racing (placed_lines bytes) s
    → IsSoundScript i racing (script_value i racing (placed_lines bytes))
value-sound i racing bytes s taken =
    let fine = fine-lines i racing bytes taken.lines in
    let nested = lines-nested bytes in
    record {
      settings = sound-settings i racing (placed_lines bytes) fine;
      stacks = sound-stacks i racing (placed_lines bytes) taken.stacks;
      stack_in_host = sound-stack i racing (placed_lines bytes) taken.stacks;
      words = sound-words i racing (placed_lines bytes) fine;
      races = sound-races i racing (placed_lines bytes) fine;
      bodies = sound-bodies i racing (placed_lines bytes) nested fine;
      handlers = sound-handlers i racing (placed_lines bytes) nested fine;
      threads = sound-threads i racing (placed_lines bytes) nested fine;
    }

-- the theorem: a script that was taken is sound
pub script-sound : (i : Interface) (racing : Bool) (bytes : List ℕ) (s : Script) → script_of i racing bytes ≡ Ok s
    → IsSoundScript i racing s
script-sound i racing bytes s e =
    let taken = script-taken i racing bytes s e in
    subst (IsSoundScript i racing) taken.value (value-sound i racing bytes s taken)
