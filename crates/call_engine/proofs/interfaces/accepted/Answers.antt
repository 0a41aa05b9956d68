use Rattle.std.proofs.Common.{true, refl}
use Rattle.edl_reader.specs.Accepted.{IsRefused}
use Rattle.call_engine.proofs.CauseLaws.{edl_told}
use Rattle.call_engine.proofs.interfaces.accepted.Goals as goal

pub returns-in-Err-clause-err : goal.returns-in-Err-clause-err
returns-in-Err-clause-err c =
    rw c.of_source.ensures
    (edl_told c.args.gathered.now.files (IsRefused c.args.gathered.now c.args.foreign.now true) c.in-Err.fault c.in-Err.ensures.err)

pub returns-in-Ok-clause-runnable : goal.returns-in-Ok-clause-runnable
returns-in-Ok-clause-runnable c = c.in-Ok.ensures.runnable c.requires.for_run refl
