use Rattle.edl_layout.specs.Sizes as spec
use Rattle.edl_layout.proofs.sizes.settle.Given as goal

abbrev pub invariant-loop : goal.invariant-loop
invariant-loop l = spec.AreSizes l.tables.gathered.now l.tables.foreign.now l.sizes

abbrev pub decreases-loop : goal.decreases-loop
decreases-loop l = spec.waiting l.sizes
