use Rattle.std.proofs.Common.{List, ◌++◌, map, take}
use Rattle.edl_grammar.specs.declared.NameAt.{NameAt}
use Rattle.broken_rules.specs.Names.{TellsNames}
use Rattle.attr_terms.specs.Rules as rules
use Rattle.broken_rules.proofs.names.Names.add_declared.Given as goal

abbrev pub invariant-loop-d : goal.invariant-loop-d
invariant-loop-d l = (list : List NameAt) → TellsNames l.initial.self list → TellsNames l.self (list ++ map rules.declared_name (take l.d-index l.declared))
