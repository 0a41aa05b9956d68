use Rattle.edl_layout.specs.Faults.{IsCleanType}
use Rattle.edl_layout.specs.Judged.{Below}
use Rattle.edl_layout.proofs.faults.check_types.Given as goal

abbrev pub invariant-loop-number : goal.invariant-loop-number
invariant-loop-number l = Below l.tables.gathered.now l.tables.foreign.now (IsCleanType l.tables.gathered.now l.tables.foreign.now) l.number
