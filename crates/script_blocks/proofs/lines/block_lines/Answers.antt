use Rattle.script_blocks.proofs.LineLaws.{end}
use Rattle.script_blocks.proofs.lines.block_lines.Goals as goal

pub returns-in-Ok-None : goal.returns-in-Ok-None
returns-in-Ok-None c =
    end c.loop-placed.left _ _ (rw c.in-Ok-None.field-0-is at c.in-Ok-None.ensures) c.loop-placed.invariant
