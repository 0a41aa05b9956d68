use Rattle.std.proofs.Common.{◌≡◌, ◌++◌, drop}
use Rattle.std.specs.List.{AllByRecursion}
use Rattle.call_script.specs.Meaning.{races_from}
use Rattle.script_value.specs.Initial.{IsSmallRace}
use Rattle.script_value.proofs.races.add_bytes.Given as goal

abbrev pub invariant-loop-value : goal.invariant-loop-value
invariant-loop-value l = record {
  rest :
      l.races ++ races_from l.access l.place (drop l.value-index l.bytes)
      ≡ l.initial.races ++ races_from l.access l.index l.bytes;
  small : AllByRecursion IsSmallRace (races_from l.access l.place (drop l.value-index l.bytes));
}
