use Rattle.std.proofs.Common.{refl}
use Rattle.script_lines.specs.Lines.{line_of}
use Rattle.script_lines.specs.Nesting.{open_blocks}
use Rattle.script_faults.specs.Walk.{standing}
use Rattle.script_faults.proofs.WalkLaws.{within-action}
use Rattle.script_faults.proofs.walk.SoFar.code.Goals as goal

pub returns : goal.returns
returns c = λ before l ls h e.
    c.code_of.ensures (standing before (open_blocks c.args.self.now.blocks) l ls)
    (record {
      before_it = h.summary;
      around = refl;
      within =
          within-action c.args.interface.now before l ls c.args.self.now (line_of c.args.line.now) c.around-body.result h
          e (λ name bef beh a b.
          c.around-body.ensures c.args.interface.now name bef (line_of c.args.line.now) beh a b);
    })
