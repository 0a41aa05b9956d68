use Rattle.std.proofs.Common.{[]}
use Rattle.callrun.specs.Samples.{edl_name}
use Rattle.callrun.specs.Told.{summary}
use Rattle.callrun.proofs.samples.run_texts.Goals as goal

pub returns-in-Err : goal.returns-in-Err
returns-in-Err g c =
    c.ending_of.ensures summary [] edl_name
    (g.F.Files.state c.args.files.now)
    (g.F.Files.state c.prepare.new.files) c.in-Err.ensures.err
