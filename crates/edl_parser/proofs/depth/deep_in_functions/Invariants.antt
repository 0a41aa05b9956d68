use Rattle.std.proofs.Common.{◌≡◌, take}
use Rattle.std.specs.List.{flat_map}
use Rattle.edl_grammar.specs.Sentence as sentence
use Rattle.edl_parser.proofs.depth.deep_in_functions.Given as goal

abbrev pub invariant-loop-f : goal.invariant-loop-f
invariant-loop-f l = l.first ≡ sentence.least (flat_map sentence.deep_in_function (take l.f-index l.functions))
