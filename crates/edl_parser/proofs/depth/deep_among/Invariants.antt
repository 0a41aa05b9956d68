use Rattle.std.proofs.Common.{◌≡◌, take}
use Rattle.edl_grammar.specs.Sentence as sentence
use Rattle.edl_parser.proofs.depth.deep_among.Given as goal

abbrev pub invariant-loop-d : goal.invariant-loop-d
invariant-loop-d l = l.first ≡ sentence.least (sentence.deep_among (take l.d-index l.declared))
