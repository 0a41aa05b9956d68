use Rattle.std.proofs.Common.{◌≡◌}
use Rattle.std.specs.Prelude.{slice_get, Some}
use Rattle.edl_grammar.specs.Files.{TypeIn, types_of}
use Rattle.edl_layout.specs.Meaning.{members_of}
use Rattle.edl_layout.specs.Walks.{IsWalk, to_do}
use Rattle.edl_layout.proofs.cycles.Walk.go.Given as goal

abbrev pub invariant-loop-next : goal.invariant-loop-next
invariant-loop-next l = (t : TypeIn) → slice_get (types_of l.tables.gathered.now) l.number ≡ Some t → IsWalk l.tables.gathered.now l.tables.foreign.now (members_of t.decl) l.self

abbrev pub decreases-loop-next : goal.decreases-loop-next
decreases-loop-next l = to_do l.self
