use Rattle.std.proofs.Common.{sym, ◌∙◌, ap}
use Rattle.script_lines.specs.Nesting.{outermost}
use Rattle.script_lines.proofs.NestingLaws.{turn, all_passed, left_in}
use Rattle.script_lines.proofs.places.left_outermost.Goals as goal

pub loop-line-preserved : goal.loop-line-preserved
loop-line-preserved c = turn _ _ _ _ _ c.in-Some.ensures c.in_default-place.ensures.blocks ∙ c.loop-line.invariant

pub returns : goal.returns
returns c =
    c.outermost.ensures
    ∙ ap outermost
    (sym (all_passed _ _ c.in_default.ensures.0) ∙ c.loop-line.invariant ∙ sym (left_in c.args.bytes.now))
