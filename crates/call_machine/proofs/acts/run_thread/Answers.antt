use Rattle.std.proofs.Common.{refl}
use Rattle.std.proofs.lemmas.Result.{err_from_is_err_and}
use Rattle.call_machine.proofs.ActRuns.{thread_done, thread_cut}
use Rattle.call_machine.proofs.HostActs.{thread_acts}
use Rattle.call_machine.proofs.acts.run_thread.Goals as goal

pub do_acts-requires-clause-sound : goal.do_acts-requires-clause-sound
do_acts-requires-clause-sound g c = thread_acts c.args.machine.now _ c.args.acts.now refl refl c.requires.sound

pub returns-in_err-do_acts-clause-full : goal.returns-in_err-do_acts-clause-full
returns-in_err-do_acts-clause-full g c =
    let p = err_from_is_err_and c.from_residual.result c.from_residual.ensures.1 in
    rw (p.1, p.2) (thread_cut c.args.machine.now c.args.acts.now _ refl refl _ _ _ c.args.records.now c.args.tcs.now c.in_err-do_acts.ensures.full)

pub returns-clause-ok : goal.returns-clause-ok
returns-clause-ok g c =
    thread_done c.args.machine.now c.args.acts.now _ refl refl _ _ _ c.args.records.now c.do_acts.new.records c.args.tcs.now c.do_acts.new.tcs c.in_ok-do_acts.ensures.ok
