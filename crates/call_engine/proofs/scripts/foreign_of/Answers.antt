use Rattle.script_reader.specs.Foreign.{foreign_types}
use Rattle.call_engine.proofs.KnownLaws.{foreign_known}
use Rattle.call_engine.proofs.ScriptLaws.{told_of}
use Rattle.call_engine.proofs.scripts.foreign_of.Goals as goal

pub returns-in-Ok-clause-known : goal.returns-in-Ok-clause-known
returns-in-Ok-clause-known c = foreign_known c.args.text.now c.in-Ok.foreign c.in-Ok.ensures

pub returns-in-Err-clause-err : goal.returns-in-Err-clause-err
returns-in-Err-clause-err c =
    rw c.of_script.ensures (told_of (foreign_types c.args.text.now) c.in-Err.fault c.in-Err.ensures)
