use Rattle.std.proofs.Common.{◌≡◌, drop}
use Rattle.edl_layout.specs.Faults.{unknown_among}
use Rattle.edl_layout.specs.Firsts.{first_of}
use Rattle.edl_layout.proofs.faults.first_unknown.Given as goal

abbrev pub invariant-loop-member : goal.invariant-loop-member
invariant-loop-member l =
    first_of (unknown_among l.tables.gathered.now l.tables.foreign.now (drop l.member-index l.members)) ≡ first_of (unknown_among l.tables.gathered.now l.tables.foreign.now l.members)
