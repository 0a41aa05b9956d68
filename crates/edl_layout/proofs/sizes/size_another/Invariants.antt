use Rattle.edl_layout.proofs.Sweeping.{Sweep}
use Rattle.edl_layout.proofs.sizes.size_another.Given as goal

abbrev pub invariant-loop-number : goal.invariant-loop-number
invariant-loop-number l = Sweep l.tables.gathered.now l.tables.foreign.now l.initial.sizes l.sizes l.number
