use Rattle.std.proofs.Common.{sym, subst}
use Rattle.script_lines.specs.Nesting.{numbered}
use Rattle.script_faults.specs.Walk.{IsSoFar}
use Rattle.script_faults.proofs.WalkLaws.{IsReached, reached-first, reached-next}
use Rattle.script_faults.proofs.first.first_fault.Goals as goal

pub loop-line-init : goal.loop-line-init
loop-line-init c =
    subst (IsReached c.args.interface.now c.args.racing c.in_ok-left.left c.args.bytes.now c.new-so_far.result)
    (sym c.new-lines.ensures)
    (reached-first c.args.interface.now c.args.racing c.in_ok-left.left c.args.bytes.now c.new-so_far.result
    c.in_ok-left.ensures c.new-so_far.ensures.none_open
    (c.new-so_far.ensures.so_far c.args.interface.now c.args.bytes.now))

pub loop-line-preserved : goal.loop-line-preserved
loop-line-preserved c =
    reached-next c.args.interface.now c.args.racing c.in_ok-left.left c.args.bytes.now (numbered c.in-Some.line)
    c.next.new.self c.loop-line.lines c.loop-line.so_far c.turn.new.self c.in_ok-code.field-0 c.in-Some.ensures
    c.loop-line.invariant
    (c.in_ok-code.ensures c.loop-line.invariant.before c.in_ok-left.left c.is_left-is_left.ensures
    (subst (λ ls. IsSoFar c.args.interface.now c.loop-line.invariant.before ls c.loop-line.so_far) c.in-Some.ensures
    c.loop-line.invariant.so_far))
    c.in_default-2.is
