use Rattle.std.proofs.Common.{List, ◌++◌, map, take}
use Rattle.edl_grammar.specs.declared.NameAt.{NameAt}
use Rattle.broken_rules.specs.Names.{TellsNames}
use Rattle.attr_terms.specs.Rules as rules
use Rattle.broken_rules.proofs.names.Names.add_functions.Given as goal

abbrev pub invariant-loop-f : goal.invariant-loop-f
invariant-loop-f l = (list : List NameAt) → TellsNames l.initial.self list → TellsNames l.self (list ++ map rules.function_name (take l.f-index l.functions))
