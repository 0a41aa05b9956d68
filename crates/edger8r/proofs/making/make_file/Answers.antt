use Rattle.std.proofs.Common.{Err, List, ℕ, subst, sym}
use Rattle.sgx_base.specs.Outcome.{OrMemory}
use Rattle.edl_reader.specs.declared.faults.SourceFault.TheVariants.{Memory}
use Rattle.edl_reader.specs.Sources.{GivesRoot, IsUngathered}
use Rattle.edger8r.specs.declared.ending.Ending.{Ending}
use Rattle.edger8r.specs.Made.{MakesFile, ungathered, gathered}
use Rattle.edger8r.proofs.making.make_file.Goals as goal

pub returns-in-Ok : goal.returns-in-Ok
returns-in-Ok g c =
    gathered c.in-Ok.gathered (g.F.Files.state c.read_edl.new.files) c.make_of.result c.read_edl.ensures.kept
    (subst (λ (paths : List (List ℕ)). GivesRoot (g.F.Files.state c.args.files.now) paths c.args.file.now c.in-Ok.gathered) c.as_slice.ensures c.in-Ok.ensures.ok)
    c.make_of.ensures

pub returns-in-Err : goal.returns-in-Err
returns-in-Err g c =
    let before = g.F.Files.state c.args.files.now in
    let after = g.F.Files.state c.read_edl.new.files in
    subst (λ (e : Ending). MakesFile c.args.choices.now c.args.file.now before after (Err e)) (sym c.of_source.ensures)
    (ungathered c.in-Err.fault c.read_edl.ensures.kept
    (subst (λ (paths : List (List ℕ)). OrMemory Memory (IsUngathered paths c.args.file.now before after) c.in-Err.fault) c.as_slice.ensures c.in-Err.ensures.err))
