use Rattle.std.proofs.Common.{sym, ◌∙◌}
use Rattle.call_engine.proofs.PlainLaws.{read_fault, read_other, read_plainly}
use Rattle.call_engine.proofs.scripts.read_plain.Goals as goal

pub returns-in-Err-clause-exact : goal.returns-in-Err-clause-exact
returns-in-Err-clause-exact c =
    read_fault c.args.interface.now c.args.text.now c.args.racing c.in-Err.fault c.in-Err.ensures.exact

pub returns-then-not-is_plain-clause-exact : goal.returns-then-not-is_plain-clause-exact
returns-then-not-is_plain-clause-exact c =
    read_other c.args.interface.now c.args.text.now c.args.racing c.in-Ok.script c.in-Ok.ensures.exact c.in-Ok.ensures.sound
    (sym c.is_plain.ensures ∙ c.if-not-is_plain.true)

pub returns-clause-exact : goal.returns-clause-exact
returns-clause-exact c =
    read_plainly c.args.interface.now c.args.text.now c.args.racing c.in-Ok.script c.in-Ok.ensures.exact
    (sym c.is_plain.ensures ∙ c.if-not-is_plain.false)

pub returns-clause-plain : goal.returns-clause-plain
returns-clause-plain c = sym c.is_plain.ensures ∙ c.if-not-is_plain.false
