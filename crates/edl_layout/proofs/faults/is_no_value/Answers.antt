use Rattle.std.proofs.Common.{sym, ◌∙◌}
use Rattle.edl_layout.proofs.Voids.{no_value_void, eq_zero}
use Rattle.edl_layout.proofs.faults.is_no_value.Goals as goal

pub returns-in-Void : goal.returns-in-Void
returns-in-Void c = eq_zero c.args.written.now.stars ∙ sym (no_value_void c.args.tables.now.gathered.now c.args.tables.now.foreign.now c.args.written.now c.in-Void.ensures)
