use Rattle.std.proofs.Common.{◌≡◌, [], sym, subst, ◌∙◌}
use Rattle.edl_interface.specs.Order.{IsInOrder}
use Rattle.edl_interface.specs.Runnable.{IsRunnable}
use Rattle.edl_interface.specs.Sound.{IsSound}
use Rattle.attr_terms.specs.Accepted.{size_of, interface_of}
use Rattle.attr_terms.specs.Rules.{broken}
use Rattle.accepted_interface.proofs.Unbroken.{nil-first}
use Rattle.attr_rules.proofs.FieldOrder.{interface-order}
use Rattle.attr_rules.proofs.RunnableLaws.{interface-runnable}
use Rattle.attr_rules.proofs.check.Goals as goal

pub whole_interface-requires-clause-clean : goal.whole_interface-requires-clause-clean
whole_interface-requires-clause-clean c = (c.args.runner, nil-first (broken c.args.gathered.now c.args.runner (size_of c.args.gathered.now c.args.layouts.now)) (sym c.in_ok-first.ensures ∙ c.in-None.is))

pub returns-in_ok-interface-in-None-clause-runnable : goal.returns-in_ok-interface-in-None-clause-runnable
returns-in_ok-interface-in-None-clause-runnable c = λ foreign layouts made run on.
    let g = c.args.gathered.now in
    let table = c.args.layouts.now in
    let none : broken g c.args.runner (size_of g table) ≡ [] = nil-first (broken g c.args.runner (size_of g table)) (sym c.in_ok-first.ensures ∙ c.in-None.is) in
    subst IsRunnable (sym c.in_ok-interface-in-None.ensures.interface) (interface-runnable g table foreign made layouts run (subst (λ b. broken g b (size_of g table) ≡ []) on none))

pub returns-in_ok-interface-in-None-clause-in_order : goal.returns-in_ok-interface-in-None-clause-in_order
returns-in_ok-interface-in-None-clause-in_order c = λ foreign layouts made run on.
    let g = c.args.gathered.now in
    let table = c.args.layouts.now in
    let none : broken g c.args.runner (size_of g table) ≡ [] = nil-first (broken g c.args.runner (size_of g table)) (sym c.in_ok-first.ensures ∙ c.in-None.is) in
    let sound : IsSound (interface_of g table) = subst IsSound c.in_ok-interface-in-None.ensures.interface c.in_ok-interface-in-None.ensures.sound in
    subst IsInOrder (sym c.in_ok-interface-in-None.ensures.interface) (interface-order g table foreign made layouts run (subst (λ b. broken g b (size_of g table) ≡ []) on none) sound)
