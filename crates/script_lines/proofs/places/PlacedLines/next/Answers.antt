use Rattle.script_lines.proofs.NestingLaws.{taken, behind_line}
use Rattle.script_lines.proofs.places.PlacedLines.next.Goals as goal

pub returns-in-Ok : goal.returns-in-Ok
returns-in-Ok c =
    record {
      first = taken _ _ _ _ _ c.in-Some.ensures c.in-Ok.ensures.blocks _ c.in-Ok.ensures.line;
      blocks = behind_line _ _ _ _ c.in-Ok.ensures.blocks c.in-Ok.ensures.line;
    }
