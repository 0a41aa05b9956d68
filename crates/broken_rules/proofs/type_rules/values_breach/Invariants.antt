use Rattle.std.proofs.Common.{◌≡◌, List, None, take}
use Rattle.edl_grammar.specs.declared.NameAt.{NameAt}
use Rattle.broken_rules.specs.Names.{TellsNames}
use Rattle.broken_rules.specs.Breaches.{first_breach}
use Rattle.attr_terms.specs.Rules as rules
use Rattle.broken_rules.proofs.Firsts.{first_in}
use Rattle.broken_rules.proofs.type_rules.values_breach.Given as goal

abbrev pub invariant-loop-v : goal.invariant-loop-v
invariant-loop-v l = (list : List NameAt) → TellsNames l.names list → first_in (λ v. first_breach (rules.value_rows list v)) (take l.v-index l.values) ≡ None
