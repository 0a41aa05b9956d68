use Rattle.edl_reader.proofs.InterfaceLaws.{told_by_layouts}
use Rattle.edl_reader.proofs.interfaces.laid_out.Goals as goal

pub returns-in-Ok-clause-ok : goal.returns-in-Ok-clause-ok
returns-in-Ok-clause-ok c = record { layouts = c.in-Ok.ensures.ok.0; is_table = c.in-Ok.ensures.ok.1 }

pub returns-in-Err-clause-err : goal.returns-in-Err-clause-err
returns-in-Err-clause-err c = λ runner.
    rw c.of_layouts.ensures
    (told_by_layouts c.args.gathered.now c.args.foreign.now runner c.in-Err.fault c.in-Err.ensures.fault)
