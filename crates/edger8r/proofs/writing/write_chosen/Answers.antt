use Rattle.edger8r.specs.Made.{stubs_of, out_of_memory}
use Rattle.std.proofs.Common.{◌∙◌}
use Rattle.edger8r.proofs.MakeLaws.{chosen_written}
use Rattle.edger8r.proofs.writing.write_chosen.Goals as goal

pub returns-in_default : goal.returns-in_default
returns-in_default g c =
    out_of_memory (stubs_of c.args.choices.now c.args.file.now c.args.gathered.now c.args.interface.now) (g.F.Files.state c.args.files.now)

pub returns : goal.returns
returns g c =
    chosen_written c.args.choices.now c.args.file.now c.args.gathered.now c.args.interface.now c.in-Ok.plan.options c.as_slice.result.now
    (g.F.Files.state c.args.files.now) (g.F.Files.state c.write_stubs.new.files) c.write_stubs.result
    c.in-Ok.ensures.options (c.as_slice.ensures ∙ c.in-Ok.ensures.stubs) c.write_stubs.ensures
