use Rattle.call_engine.proofs.CauseLaws.{not_gathered}
use Rattle.call_engine.proofs.preparing.read_root.Goals as goal

pub returns-in-Err-clause-err : goal.returns-in-Err-clause-err
returns-in-Err-clause-err g c = λ racing script.
    rw c.of_source.ensures
    (not_gathered racing c.args.paths.now c.args.edl.now script
    (g.F.Files.state c.args.files.now)
    (g.F.Files.state c.read_edl.new.files)
    c.in-Err.fault c.in-Err.ensures.err)
