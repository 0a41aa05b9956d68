use Rattle.std.proofs.Common.{◌≡◌, ◌++◌, length}
use Rattle.std.specs.Prelude.{flat_map}
use Rattle.std.specs.List.{AllByRecursion}
use Rattle.call_script.specs.Meaning.{races_in}
use Rattle.script_value.specs.Left.{left, formed_lines}
use Rattle.script_value.proofs.RaceLaws.{AreSmall}
use Rattle.script_value.proofs.races.races.Given as goal

abbrev pub invariant-loop-line : goal.invariant-loop-line
invariant-loop-line l = record {
  rest : l.races ++ flat_map races_in (left l.lines) ≡ flat_map races_in (formed_lines l.bytes);
  small : AllByRecursion AreSmall (left l.lines);
}

abbrev pub decreases-loop-line : goal.decreases-loop-line
decreases-loop-line l = length (left l.lines)
