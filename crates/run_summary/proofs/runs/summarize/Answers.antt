use Rattle.call_machine.proofs.RunLaws.{cut_of_run}
use Rattle.run_summary.proofs.WholeRuns.{summary_of_run}
use Rattle.run_summary.proofs.runs.summarize.Goals as goal

pub returns-in-Err-clause-full : goal.returns-in-Err-clause-full
returns-in-Err-clause-full c =
    cut_of_run c.args.machine.now c.in_ok-port.port c.run_thread-ran.new.port c.in_ok-records.records c.in_ok-tcs.tcs c.first_acts.result.now c.in-Err.full
    (record { port_is = c.in_ok-port.ensures; records_are = c.in_ok-records.ensures; context = c.in_ok-tcs.ensures.context; waits = c.in_ok-tcs.ensures.waits; acts_are = c.first_acts.ensures.acts })
    c.in-Err.ensures.full c.log-log.ensures.legal c.log-log.ensures.limit

pub returns-clause-ok : goal.returns-clause-ok
returns-clause-ok c =
    let ok = c.in_default.ensures.ok in
    summary_of_run c.args.machine.now c.in_ok-port.port c.in_ok-records.records c.in_ok-tcs.tcs c.first_acts.result.now
    (record { port_is = c.in_ok-port.ensures; records_are = c.in_ok-records.ensures; context = c.in_ok-tcs.ensures.context; waits = c.in_ok-tcs.ensures.waits; acts_are = c.first_acts.ensures.acts })
    c.run_thread-ran.new.port c.run_thread-ran.new.records c.run_thread-ran.new.tcs ok.0 _ _ _
    ok.1 ok.2 c.log-log.ensures.legal c.log-log.ensures.limit c.list.ensures.list c.log-log.ensures.log c.in_ok-summary.ensures
