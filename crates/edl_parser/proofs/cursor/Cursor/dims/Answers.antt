use Rattle.std.proofs.Common.{sym, ◌∙◌}
use Rattle.edl_grammar.specs.Parser as parse
use Rattle.edl_grammar.proofs.Many.{turn_front}
use Rattle.edl_grammar.proofs.Shrinking.{dim_shrinks}
use Rattle.edl_parser.proofs.cursor.Cursor.dims.Goals as goal

pub loop-self-preserved : goal.loop-self-preserved
loop-self-preserved c =
    rw c.in_ok-push.ensures.ok
    (turn_front (parse.is_mark "[") parse.dim dim_shrinks c.loop-self.dims c.loop-self.self c.dim.new.self c.in_ok-dim.dim _ (sym c.sees_mark.ensures ∙ c.loop-self-test.true) c.in_ok-dim.ensures c.loop-self.invariant)
