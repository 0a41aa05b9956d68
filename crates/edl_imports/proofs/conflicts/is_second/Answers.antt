use Rattle.std.proofs.Common.{◌∙◌}
use Rattle.edl_imports.proofs.Tables.{second_law}
use Rattle.edl_imports.proofs.conflicts.is_second.Goals as goal

pub returns : goal.returns
returns c = λ all h.
    c.is_before_file.ensures ∙ second_law c.args.table.now c.bytes.result c.copied.result c.args.known.now all h c.bytes.ensures (c.copied.ensures ∙ c.get.ensures.value)
