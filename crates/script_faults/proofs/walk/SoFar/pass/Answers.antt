use Rattle.std.proofs.Common.{Some, ◌∙◌, ap}
use Rattle.call_script.specs.Block.{open_behind}
use Rattle.call_script.specs.Standing.{lines_of}
use Rattle.script_lines.specs.Lines.{line_of}
use Rattle.script_lines.specs.Nesting.{open_blocks}
use Rattle.script_faults.proofs.WalkLaws.{past}
use Rattle.script_faults.proofs.walk.SoFar.pass.Goals as goal

pub returns : goal.returns
returns c = λ before l n h e limits.
    past c.args.interface.now before l c.args.behind.now c.args.self.now _ (line_of c.args.line) e
    (c.in_ok-pass-2.ensures
    ∙ ap (λ m. open_behind m (Some (line_of c.args.line)) (open_blocks c.args.self.now.blocks)) n) h
    (c.in_ok-pass.ensures (lines_of before) h.summary) (λ name k. c.in_ok-go_on.ensures.opens name k)
    (λ name bef beh k b. c.in_ok-go_on.ensures.goes_on c.args.interface.now name bef beh k b) limits
