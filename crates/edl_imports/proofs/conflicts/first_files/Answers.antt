use Rattle.std.proofs.Common.{◌∙◌}
use Rattle.edl_imports.proofs.Tables.{files_turn}
use Rattle.edl_imports.proofs.conflicts.first_files.Goals as goal

pub loop-known-preserved : goal.loop-known-preserved
loop-known-preserved c =
    files_turn c.loop-known.table c.insert.new.self c.bytes-name.result c.copied-first.result c.earlier_file.result c.args.all.now c.loop-known.known-index c.known-item.result
    c.loop-known-test.true c.known-item.is c.bytes-name.ensures (c.copied-first.ensures ∙ c.get.ensures.value) c.earlier_file.ensures c.in_ok-insert.ensures.updates.0 c.loop-known.invariant
