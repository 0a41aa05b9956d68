use Rattle.std.proofs.Common.{◌≡◌, take}
use Rattle.std.specs.List.{flat_map}
use Rattle.edl_grammar.specs.Sentence as sentence
use Rattle.edl_parser.proofs.depth.deep_in_types.Given as goal

abbrev pub invariant-loop-d : goal.invariant-loop-d
invariant-loop-d l = l.first ≡ sentence.least (flat_map sentence.deep_in_type (take l.d-index l.decls))
