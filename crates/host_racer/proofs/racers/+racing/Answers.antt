use Rattle.std.proofs.Common.{◌+◌, ◌≡◌, ap, sym, ◌∙◌, arith, rules}
use Rattle.std.proofs.lemmas.Result.{err_from_is_err_and}
use Rattle.sgx_base.specs.declared.TheConstants.Status.{SUCCESS}
use Rattle.word_port.specs.declared.RunFull.{RunFull}
use Rattle.call_script.specs.declared.HostAct.{Repeat}
use Rattle.call_script.proofs.HostAct.TheLaws.{the_size}
use Rattle.call_machine.proofs.ActLaws.{repeat_is}
use Rattle.call_machine.proofs.Depths.{size_of, repeat_larger}
use Rattle.host_racer.specs.Racing.{AreRacerActs, racer}
use Rattle.host_racer.proofs.RacerActs.{acts_repeated}
use Rattle.host_racer.proofs.RacerRuns.{racer_is, list_on, list_cut, list_end, repeat_on, repeat_cut}
use Rattle.host_racer.proofs.racers.+racing.Goals as goal

-- ---- one act

pub do_act-repeat-requires : goal.do_act-repeat-requires
do_act-repeat-requires g t c κs within =
    let larger : the_size c.args.act.now ≡ size_of c.as_slice-in-Repeat.result.now + 1 =
    repeat_larger c.args.act.now c.in-Repeat.times c.in-Repeat.acts c.as_slice-in-Repeat.result.now c.in-Repeat.is c.as_slice-in-Repeat.ensures in
    let racing : AreRacerActs (g.P.WordPort.state c.args.port.now).host c.as_slice-in-Repeat.result.now =
    acts_repeated _ c.in-Repeat.times c.args.act.now c.in-Repeat.acts c.as_slice-in-Repeat.result.now c.in-Repeat.is c.as_slice-in-Repeat.ensures c.requires in
    (omega (arith, larger, c.decreases), (search rules, racing))

pub do_act-returns-in-Repeat-clause-ok : goal.do_act-returns-in-Repeat-clause-ok
do_act-returns-in-Repeat-clause-ok g t c =
    let act_is : c.args.act.now ≡ Repeat c.in-Repeat.times c.as_slice-in-Repeat.result.now = c.in-Repeat.is ∙ ap (λ a. Repeat c.in-Repeat.times a) (sym c.as_slice-in-Repeat.ensures) in
    rw (act_is, repeat_is (racer (g.P.WordPort.state c.args.port.now).host) c.in-Repeat.times c.as_slice-in-Repeat.result.now SUCCESS) c.repeat.ensures.ok

pub do_act-returns-in-Repeat-clause-full : goal.do_act-returns-in-Repeat-clause-full
do_act-returns-in-Repeat-clause-full g t c =
    let act_is : c.args.act.now ≡ Repeat c.in-Repeat.times c.as_slice-in-Repeat.result.now = c.in-Repeat.is ∙ ap (λ a. Repeat c.in-Repeat.times a) (sym c.as_slice-in-Repeat.ensures) in
    rw (act_is, repeat_is (racer (g.P.WordPort.state c.args.port.now).host) c.in-Repeat.times c.as_slice-in-Repeat.result.now SUCCESS) c.repeat.ensures.full

-- ---- a repeat

pub repeat-returns-in_err-run_racer-clause-full : goal.repeat-returns-in_err-run_racer-clause-full
repeat-returns-in_err-run_racer-clause-full g t c =
    let p = err_from_is_err_and c.from_residual.result c.from_residual.ensures.1 in
    let full : RunFull = c.in_err-run_racer.field-0.0 in
    rw (p.1, p.2) (repeat_cut c.args.acts.now c.args.times _ _ c.loop-turn._turn c.loop-turn.invariant _ c.loop-turn-test.true full c.in_err-run_racer.ensures.full)

pub repeat-loop-turn-preserved : goal.repeat-loop-turn-preserved
repeat-loop-turn-preserved g t c =
    repeat_on c.args.acts.now c.args.times _ _ c.loop-turn._turn c.loop-turn.invariant _ c.loop-turn-test.true c.in_ok-run_racer.ensures.ok

-- ---- a list of acts

pub run_racer-returns-in_err-do_act-clause-full : goal.run_racer-returns-in_err-do_act-clause-full
run_racer-returns-in_err-do_act-clause-full g t c =
    let p = err_from_is_err_and c.from_residual.result c.from_residual.ensures.1 in
    let full : RunFull = c.in_err-do_act.field-0.0 in
    rw (p.1, p.2, sym (racer_is (g.P.WordPort.state c.args.port.now).host c.args.acts.now))
    (list_cut c.args.acts.now _ _ c.loop-act.act-index c.loop-act.invariant c.act-item.result _ c.loop-act-test.true c.act-item.is full c.in_err-do_act.ensures.full)

pub run_racer-loop-act-preserved : goal.run_racer-loop-act-preserved
run_racer-loop-act-preserved g t c =
    list_on c.args.acts.now _ _ c.loop-act.act-index c.loop-act.invariant c.act-item.result _ c.loop-act-test.true c.act-item.is c.in_ok-do_act.ensures.ok

pub run_racer-returns-clause-ok : goal.run_racer-returns-clause-ok
run_racer-returns-clause-ok g t c =
    rw (sym (racer_is (g.P.WordPort.state c.args.port.now).host c.args.acts.now))
    (list_end c.args.acts.now _ _ c.loop-act.act-index c.loop-act.invariant (omega (arith, c.loop-act-test.false)))
