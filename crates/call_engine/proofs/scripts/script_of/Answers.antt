use Rattle.call_engine.specs.Plain.{plain_script}
use Rattle.call_engine.proofs.ScriptLaws.{told_of}
use Rattle.call_engine.proofs.scripts.script_of.Goals as goal

pub returns-in-Err-clause-err : goal.returns-in-Err-clause-err
returns-in-Err-clause-err c =
    rw c.of_script.ensures
    (told_of (plain_script c.args.interface.now c.args.racing c.args.text.now) c.in-Err.fault c.in-Err.ensures.exact)
