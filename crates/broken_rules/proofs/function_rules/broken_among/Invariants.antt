use Rattle.std.proofs.Common.{◌≡◌, None, take}
use Rattle.attr_terms.specs.Accepted.{size_of}
use Rattle.attr_terms.specs.Rules as rules
use Rattle.attr_terms.specs.Taken.{function_in}
use Rattle.broken_rules.specs.Names.{TellEach}
use Rattle.broken_rules.proofs.Firsts.{first_in, head}
use Rattle.broken_rules.proofs.function_rules.broken_among.Given as goal

abbrev pub invariant-loop-f : goal.invariant-loop-f
invariant-loop-f l = TellEach l.names l.functions.meanings.gathered.now.files
    → first_in (λ t. head (rules.broken_in t.file (rules.function_rows l.functions.meanings.gathered.now l.runner (size_of l.functions.meanings.gathered.now l.layouts) (function_in t)))) (take l.f-index l.list) ≡ None
