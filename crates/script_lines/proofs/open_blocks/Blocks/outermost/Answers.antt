use Rattle.std.proofs.Common.{arith, ap, ◌∙◌}
use Rattle.script_lines.specs.Openings.{blocks_of}
use Rattle.script_lines.specs.Nesting.{outermost}
use Rattle.script_lines.proofs.NestingLaws.{none_outermost, first_outermost}
use Rattle.script_lines.proofs.open_blocks.Blocks.outermost.Goals as goal

pub returns-in-empty : goal.returns-in-empty
returns-in-empty c =
    none_outermost c.as_slice.result.now (omega arith) ∙ ap (λ bs. outermost (blocks_of bs)) c.as_slice.ensures

pub returns-in-len1-up : goal.returns-in-len1-up
returns-in-len1-up c =
    first_outermost c.as_slice.result.now _ (omega arith) ∙ ap (λ bs. outermost (blocks_of bs)) c.as_slice.ensures
