use Rattle.script_blocks.specs.Acts.{lines_of}
use Rattle.script_blocks.proofs.BodyLaws.{bodies_from}
use Rattle.script_blocks.proofs.body.bodies.Goals as goal

pub returns : goal.returns
returns c =
    bodies_from c.args.source.now.interface.now (lines_of c.args.source.now) _ _ _ _ c.in_ok-slots.ensures
    c.reverse.ensures.items c.new-bodies.ensures c.in_ok-push_bodies.ensures
