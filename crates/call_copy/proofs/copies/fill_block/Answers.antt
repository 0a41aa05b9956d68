use Rattle.std.proofs.Common.{sym, ◌∙◌}
use Rattle.call_copy.proofs.CopyLaws.{left_zero}
use Rattle.call_copy.proofs.copies.fill_block.Goals as goal

pub returns-else-is_inward-clause-ok : goal.returns-else-is_inward-clause-ok
returns-else-is_inward-clause-ok g c =
    let (number, zeros) = c.requires.zeros in
    left_zero c.args.shape c.args.at c.args.block number c.args.arena.now _ (sym c.is_inward.ensures ∙ c.if-is_inward.false) zeros
