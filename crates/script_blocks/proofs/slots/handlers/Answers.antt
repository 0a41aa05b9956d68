use Rattle.script_blocks.specs.Acts.{lines_of}
use Rattle.script_blocks.proofs.SlotLaws.{handlers_from}
use Rattle.script_blocks.proofs.slots.handlers.Goals as goal

pub returns : goal.returns
returns c =
    handlers_from c.args.source.now.interface.now (lines_of c.args.source.now) _ _ _ _ c.in_ok-slots.ensures
    c.reverse.ensures.items c.new-handlers.ensures c.in_ok-push_handlers.ensures
