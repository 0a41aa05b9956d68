use Rattle.std.proofs.Common.{take, map}
use Rattle.std.specs.List.{flat_map}
use Rattle.broken_rules.specs.Names.{TellsNames}
use Rattle.attr_terms.specs.Rules as rules
use Rattle.broken_rules.proofs.names.enumerator_names.Given as goal

abbrev pub invariant-loop-decl : goal.invariant-loop-decl
invariant-loop-decl l = TellsNames l.names (flat_map (λ t. map rules.value_name (rules.values_of t)) (take l.decl-index l.decl-items))
