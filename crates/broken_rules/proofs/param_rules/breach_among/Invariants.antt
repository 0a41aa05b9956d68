use Rattle.std.proofs.Common.{◌≡◌, None, take}
use Rattle.broken_rules.specs.Breaches.{first_breach}
use Rattle.attr_terms.specs.Rules as rules
use Rattle.broken_rules.proofs.Firsts.{first_in}
use Rattle.broken_rules.proofs.param_rules.breach_among.Given as goal

abbrev pub invariant-loop-p : goal.invariant-loop-p
invariant-loop-p l = first_in (λ p. first_breach (rules.param_rows l.meanings.gathered.now l.runner l.list p)) (take l.p-index l.list) ≡ None
