use Rattle.std.proofs.Common.{◌+◌, ◌-◌, refl, sym, subst, arith}
use Rattle.std.proofs.lemmas.Result.{err_from_is_err_and}
use Rattle.word_port.specs.Runs.{Makes}
use Rattle.call_machine.specs.Calls.{string_loads}
use Rattle.call_machine.proofs.StringLaws.{IsSearched, searched_none, string_goes_on, string_ends, string_cut, string_within}
use Rattle.call_machine.proofs.strings.string_length.Goals as goal

pub loop-next-init : goal.loop-next-init
loop-next-init g c = searched_none (g.P.WordPort.state c.args.port.now).host c.args.unit c.args.at (g.P.WordPort.state c.args.port.now)

pub returns-in_err-goes_on-clause-full : goal.returns-in_err-goes_on-clause-full
returns-in_err-goes_on-clause-full g c =
    let p = err_from_is_err_and c.from_residual.result c.from_residual.ensures.1 in
    rw (p.1, p.2, c.in_err-goes_on.ensures.full.0)
    (refl, string_cut c.args.unit c.args.at c.loop-next.next _ _ _ c.loop-next.invariant c.requires.some c.in_err-goes_on.ensures.full.1 c.in_err-goes_on.ensures.full.2)

pub overflow_add-next : goal.overflow_add-next
overflow_add-next g c =
    let within = string_within c.args.unit c.args.at c.loop-next.next _ _ _ c.loop-next.invariant c.requires.some _ c.in_ok-goes_on.ensures.ok c.if-branch.true in
    let host = c.host-host.ensures.count in
    omega (arith, within.1, host)

pub loop-next-smaller : goal.loop-next-smaller
loop-next-smaller g c =
    let within = string_within c.args.unit c.args.at c.loop-next.next _ _ _ c.loop-next.invariant c.requires.some _ c.in_ok-goes_on.ensures.ok c.if-branch.true in
    omega (arith, within.1, c.requires.some)

pub loop-next-preserved : goal.loop-next-preserved
loop-next-preserved g c =
    subst (λ u. IsSearched (g.P.WordPort.state c.args.port.now).host c.args.unit c.args.at (c.loop-next.next + u) (g.P.WordPort.state c.args.port.now) (g.P.WordPort.state c.goes_on.new.port)) (sym c.from-next.ensures)
    (string_goes_on c.args.unit c.args.at c.loop-next.next _ _ _ c.loop-next.invariant c.requires.some _ c.in_ok-goes_on.ensures.ok c.if-branch.true)

pub returns-clause-ok : goal.returns-clause-ok
returns-clause-ok g c =
    subst (λ u. Makes (string_loads (g.P.WordPort.state c.args.port.now).host (g.P.WordPort.state c.args.port.now).host c.args.unit c.args.at) (g.P.WordPort.state c.args.port.now) (g.P.WordPort.state c.goes_on.new.port) ((c.loop-next.next - c.args.at) + u)) (sym c.from.ensures)
    (string_ends c.args.unit c.args.at c.loop-next.next _ _ _ c.loop-next.invariant c.requires.some _ c.in_ok-goes_on.ensures.ok c.if-branch.false)
