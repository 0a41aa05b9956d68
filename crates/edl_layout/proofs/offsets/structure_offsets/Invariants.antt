use Rattle.std.proofs.Common.{take}
use Rattle.edl_layout.specs.Filled.{ArePut}
use Rattle.edl_layout.proofs.offsets.structure_offsets.Given as goal

abbrev pub invariant-loop-member : goal.invariant-loop-member
invariant-loop-member l = ArePut l.types.gathered l.types.foreign (take l.member-index l.members) l.ends l.offsets
