use Rattle.callrun.specs.Told.{report}
use Rattle.callrun.proofs.run_files.Goals as goal

pub returns-in-Err-clause-cause : goal.returns-in-Err-clause-cause
returns-in-Err-clause-cause g c =
    c.ending_of.ensures report c.args.paths.now c.args.edl.now
    (g.F.Files.state c.args.files.now)
    (g.F.Files.state c.prepare.new.files) c.in-Err.ensures.err
