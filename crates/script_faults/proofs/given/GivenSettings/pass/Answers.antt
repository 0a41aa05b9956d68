use Rattle.script_faults.proofs.GivenLaws.{passed_some, passed_none}
use Rattle.script_faults.proofs.given.GivenSettings.pass.Goals as goal

pub returns-in_ok-push : goal.returns-in_ok-push
returns-in_ok-push c = λ ls h.
    passed_some ls _ _ c.args.self.now (record { given = c.push.new.self }) c.in-Some.ensures c.in_ok-push.ensures.ok h

pub returns-in_default : goal.returns-in_default
returns-in_default c = λ ls h. passed_none ls _ _ c.in_default.ensures h
