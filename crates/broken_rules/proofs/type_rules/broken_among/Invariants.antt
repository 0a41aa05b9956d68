use Rattle.std.proofs.Common.{◌≡◌, List, None, take}
use Rattle.edl_grammar.specs.declared.NameAt.{NameAt}
use Rattle.attr_terms.specs.Rules as rules
use Rattle.broken_rules.specs.Names.{TellsNames}
use Rattle.broken_rules.proofs.Firsts.{first_in, head}
use Rattle.broken_rules.proofs.type_rules.broken_among.Given as goal

abbrev pub invariant-loop-decl : goal.invariant-loop-decl
invariant-loop-decl l = (ts vs : List NameAt) → TellsNames l.types ts → TellsNames l.values vs → first_in (λ t. head (rules.broken_in l.file (rules.type_rows_in ts vs t))) (take l.decl-index l.decls) ≡ None
