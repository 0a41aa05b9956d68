use Rattle.std.proofs.Common.{arith}
use Rattle.edl_reader.proofs.CauseLaws.{not_gathered}
use Rattle.edl_reader.proofs.SourceLaws.{gathered_parsed}
use Rattle.edl_reader.proofs.sources.read_edl.Goals as goal

pub returns-in-Ok-clause-few : goal.returns-in-Ok-clause-few
returns-in-Ok-clause-few g c = let few = c.in-Ok.ensures.few in omega (arith, few)

pub returns-in-Ok-clause-parsed : goal.returns-in-Ok-clause-parsed
returns-in-Ok-clause-parsed g c =
    gathered_parsed (g.F.Files.state c.args.files.now).contents c.args.paths.now c.args.edl.now c.in-Ok.gathered c.in-Ok.ensures.read c.in-Ok.ensures.apart

pub returns-in-Ok-clause-ok : goal.returns-in-Ok-clause-ok
returns-in-Ok-clause-ok g c = record { read = c.in-Ok.ensures.read; told = c.in-Ok.ensures.ok }

pub returns-in-Err-clause-err : goal.returns-in-Err-clause-err
returns-in-Err-clause-err g c =
    not_gathered c.args.paths.now c.args.edl.now
    (g.F.Files.state c.args.files.now)
    (g.F.Files.state c.gather.new.files)
    c.in-Err.fault c.of_gathering.result c.in-Err.ensures.err c.in-Err.ensures.named c.of_gathering.ensures
