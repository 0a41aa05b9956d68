use Rattle.edger8r.proofs.MakeLaws.{unwritten}
use Rattle.edger8r.proofs.writing.write_stub.Goals as goal

pub returns-in_default-clause-kept : goal.returns-in_default-clause-kept
returns-in_default-clause-kept g c = unwritten c.args.stub.now.name (g.F.Files.state c.args.files.now)
