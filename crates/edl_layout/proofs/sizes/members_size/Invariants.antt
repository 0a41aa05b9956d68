use Rattle.std.proofs.Common.{take}
use Rattle.edl_layout.specs.Sizes as spec
use Rattle.edl_layout.proofs.sizes.members_size.Given as goal

abbrev pub invariant-loop-member : goal.invariant-loop-member
invariant-loop-member l = spec.AreMembers l.tables.gathered.now l.tables.foreign.now l.sizes (take l.member-index l.members) l.together
