use Rattle.script_faults.proofs.body.Body.go_on.Goals as goal

pub returns-in-None-clause-goes_on : goal.returns-in-None-clause-goes_on
returns-in-None-clause-goes_on c = λ i name before ls k h. c.pass.ensures i name before ls h
