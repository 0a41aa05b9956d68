use Rattle.std.proofs.Common.{List, ◌++◌, map, take}
use Rattle.edl_grammar.specs.declared.NameAt.{NameAt}
use Rattle.broken_rules.specs.Names.{TellsNames}
use Rattle.attr_terms.specs.Rules as rules
use Rattle.broken_rules.proofs.names.Names.add_values.Given as goal

abbrev pub invariant-loop-v : goal.invariant-loop-v
invariant-loop-v l = (list : List NameAt) → TellsNames l.initial.self list → TellsNames l.self (list ++ map rules.value_name (take l.v-index l.values))
