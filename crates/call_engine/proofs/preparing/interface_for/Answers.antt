use Rattle.std.proofs.Common.{rules}
use Rattle.call_engine.proofs.CauseLaws.{for_run, misdeclared, no_interface, an_interface}
use Rattle.call_engine.proofs.preparing.interface_for.Goals as goal

pub accepted-requires-clause-for_run : goal.accepted-requires-clause-for_run
accepted-requires-clause-for_run c =
    for_run c.args.gathered.now c.in_ok-foreign.foreign c.requires.parsed c.in_ok-foreign.ensures.known

pub returns-in_err-foreign-clause-err : goal.returns-in_err-foreign-clause-err
returns-in_err-foreign-clause-err c = λ racing.
    let h = misdeclared racing c.args.gathered.now c.args.text.now c.in_err-foreign.field-0.0 c.in_err-foreign.ensures.err in
    search rules

pub returns-clause-ok : goal.returns-clause-ok
returns-clause-ok c =
    an_interface c.args.gathered.now c.args.text.now c.in_ok-foreign.foreign c.in_ok-foreign.ensures.ok c.accepted.result
    c.accepted.ensures.ok

pub returns-clause-err : goal.returns-clause-err
returns-clause-err c = λ racing.
    no_interface racing c.args.gathered.now c.args.text.now c.in_ok-foreign.foreign c.in_ok-foreign.ensures.ok c.accepted.result
    c.accepted.ensures.err
