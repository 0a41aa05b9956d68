use Rattle.std.proofs.Common.{ap, sym, ◌∙◌, subst}
use Rattle.call_machine.specs.Admitted.{LiesOn}
use Rattle.call_machine.specs.Tcs.{TcsState}
use Rattle.call_machine.proofs.Leaving.{arena_marked, frames_marked, left, still_small}
use Rattle.call_machine.proofs.admission.leave_stack.Goals as goal

pub pop_to-requires : goal.pop_to-requires
pop_to-requires c =
    let (before, ordinal, lies) = c.requires in
    arena_marked before _ ordinal c.args.marks (subst (λ (t : TcsState). LiesOn before t ordinal c.args.marks) (sym c.tcs.view_is) lies)

pub pop_to-requires-2 : goal.pop_to-requires-2
pop_to-requires-2 c =
    let (before, ordinal, lies) = c.requires in
    frames_marked before _ ordinal c.args.marks (subst (λ (t : TcsState). LiesOn before t ordinal c.args.marks) (sym c.tcs.view_is) lies)

pub invariant_of-tcs : goal.invariant_of-tcs
invariant_of-tcs c =
    let (before, ordinal, lies) = c.requires in
    still_small before _ ordinal c.args.marks (subst (λ (t : TcsState). LiesOn before t ordinal c.args.marks) (sym c.tcs.view_is) lies)
    c.leave.new.self c.pop_to-2.new.self c.pop_to.new.self c.leave.ensures c.pop_to-2.ensures c.pop_to.ensures c.tcs.invariant.0

pub returns : goal.returns
returns c = λ before ordinal lies.
    left before _ ordinal c.args.marks (subst (λ (t : TcsState). LiesOn before t ordinal c.args.marks) (sym c.tcs.view_is) lies)
    c.leave.new.self c.pop_to-2.new.self c.pop_to.new.self c.leave.ensures c.pop_to-2.ensures c.pop_to.ensures
    ∙ ap (λ (t : TcsState). record before { waits = t.waits }) c.tcs.view_is
