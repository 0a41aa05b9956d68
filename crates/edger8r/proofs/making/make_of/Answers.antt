use Rattle.std.proofs.Common.{Err, Result, subst, sym}
use Rattle.edger8r.specs.declared.ending.Ending.{Ending}
use Rattle.edger8r.specs.Made.{MakesOf}
use Rattle.edger8r.proofs.MakeLaws.{at_fault, accepted}
use Rattle.edger8r.proofs.making.make_of.Goals as goal

pub returns-in-Ok : goal.returns-in-Ok
returns-in-Ok g c =
    subst (λ (r : Result (Unit {0}) Ending). MakesOf c.args.choices.now c.args.file.now c.args.gathered.now (g.F.Files.state c.args.files.now) (g.F.Files.state c.write_chosen.new.files) r)
    (sym c.of_write.ensures)
    (accepted c.args.choices.now c.args.file.now c.args.gathered.now c.lenient_types-foreign.result c.in-Ok.interface
    (g.F.Files.state c.args.files.now) (g.F.Files.state c.write_chosen.new.files) c.write_chosen.result c.lenient_types-foreign.ensures c.in-Ok.ensures.ok c.write_chosen.ensures)

pub returns : goal.returns
returns g c =
    subst (λ (e : Ending). MakesOf c.args.choices.now c.args.file.now c.args.gathered.now (g.F.Files.state c.args.files.now) (g.F.Files.state c.args.files.now) (Err e))
    (sym c.of_source.ensures)
    (at_fault c.args.choices.now c.args.file.now c.args.gathered.now c.lenient_types-foreign.result (g.F.Files.state c.args.files.now) c.in-Err.fault c.lenient_types-foreign.ensures c.in-Err.ensures.err)
