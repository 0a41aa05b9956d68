use Rattle.std.proofs.Common.{◌≡◌, None, take}
use Rattle.broken_rules.specs.Breaches.{first_breach}
use Rattle.attr_terms.specs.Rules as rules
use Rattle.broken_rules.proofs.Firsts.{first_in}
use Rattle.broken_rules.proofs.type_rules.members_breach.Given as goal

abbrev pub invariant-loop-m : goal.invariant-loop-m
invariant-loop-m l = first_in (λ m. first_breach (rules.member_rows l.members m)) (take l.m-index l.members) ≡ None
