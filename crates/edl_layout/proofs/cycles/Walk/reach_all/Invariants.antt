use Rattle.std.proofs.Common.{take}
use Rattle.edl_layout.specs.Walks.{HasGone}
use Rattle.edl_layout.proofs.cycles.Walk.reach_all.Given as goal

abbrev pub invariant-loop-member : goal.invariant-loop-member
invariant-loop-member l = HasGone l.tables.gathered.now l.tables.foreign.now (take l.member-index l.members) l.initial.self l.self
