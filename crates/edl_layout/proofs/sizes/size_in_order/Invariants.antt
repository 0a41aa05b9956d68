use Rattle.edl_layout.specs.Sizes as spec
use Rattle.edl_layout.proofs.sizes.size_in_order.Given as goal

abbrev pub invariant-loop-number : goal.invariant-loop-number
invariant-loop-number l = spec.AreSizes l.tables.gathered.now l.tables.foreign.now l.sizes
