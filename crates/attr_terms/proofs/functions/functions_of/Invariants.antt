use Rattle.std.proofs.Common.{◌≡◌, take, map}
use Rattle.std.specs.Prelude.{filter_map}
use Rattle.attr_terms.specs.Taken.{function_in, picked}
use Rattle.attr_terms.proofs.functions.functions_of.Given as goal

abbrev pub invariant-loop-pick : goal.invariant-loop-pick
invariant-loop-pick l = map function_in l.functions.items ≡ filter_map (picked l.is_trusted l.gathered) (take l.pick-index l.picks)
