use Rattle.std.proofs.Common.{rules}
use Rattle.edl_reader.proofs.InterfaceLaws.{told_by_rules, given_by_rules}
use Rattle.edl_reader.proofs.interfaces.accepted.Goals as goal

pub returns-in_err-layouts-clause-err : goal.returns-in_err-layouts-clause-err
returns-in_err-layouts-clause-err c = let h = c.in_err-layouts.ensures.err c.args.runner in search rules

pub check-requires-clause-made : goal.check-requires-clause-made
check-requires-clause-made c = (c.args.foreign.now, c.in_ok-layouts.ensures.ok.layouts, c.in_ok-layouts.ensures.ok.is_table)

pub returns-clause-ok : goal.returns-clause-ok
returns-clause-ok c =
    given_by_rules c.args.gathered.now c.args.foreign.now c.args.runner c.in_ok-layouts.layouts c.check.result c.in_ok-layouts.ensures.ok c.check.ensures.exact

pub returns-clause-err : goal.returns-clause-err
returns-clause-err c =
    told_by_rules c.args.gathered.now c.args.foreign.now c.args.runner c.in_ok-layouts.layouts c.check.result c.in_ok-layouts.ensures.ok c.check.ensures.exact

pub returns-clause-runnable : goal.returns-clause-runnable
returns-clause-runnable c = c.check.ensures.runnable c.args.foreign.now c.in_ok-layouts.ensures.ok.layouts c.in_ok-layouts.ensures.ok.is_table

pub returns-clause-in_order : goal.returns-clause-in_order
returns-clause-in_order c = c.check.ensures.in_order c.args.foreign.now c.in_ok-layouts.ensures.ok.layouts c.in_ok-layouts.ensures.ok.is_table
