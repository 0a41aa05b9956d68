use Rattle.std.proofs.Common.{arith, ap, ◌∙◌}
use Rattle.script_lines.specs.Openings.{blocks_of}
use Rattle.script_lines.specs.Nesting.{innermost}
use Rattle.script_lines.proofs.NestingLaws.{none_innermost, last_innermost}
use Rattle.script_lines.proofs.open_blocks.Blocks.innermost.Goals as goal

pub returns-in-empty : goal.returns-in-empty
returns-in-empty c =
    none_innermost c.as_slice.result.now (omega arith) ∙ ap (λ bs. innermost (blocks_of bs)) c.as_slice.ensures

pub returns-in-len1-up : goal.returns-in-len1-up
returns-in-len1-up c =
    last_innermost c.as_slice.result.now _ (omega arith) ∙ ap (λ bs. innermost (blocks_of bs)) c.as_slice.ensures
