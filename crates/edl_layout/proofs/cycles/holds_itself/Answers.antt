use Rattle.std.proofs.Common.{◌≡◌, ℕ, List, [], Bool, length, replicate, sym, ◌∙◌, ap, arith}
use Rattle.std.specs.Prelude.{slice_get, false}
use Rattle.edl_grammar.specs.Files.{types_of}
use Rattle.edl_layout.specs.declared.cycles.Walk.{Walk}
use Rattle.edl_layout.proofs.Walking.{walk_ends}
use Rattle.edl_layout.proofs.Sweeping.{some_at}
use Rattle.edl_layout.proofs.cycles.holds_itself.Goals as goal

fresh : ℕ → Walk
fresh n = record { reached = replicate n false; work = [] }

pub go-requires-clause-nowhere : goal.go-requires-clause-nowhere
unfolding fresh
go-requires-clause-nowhere c = c.in_ok-walk.ensures ∙ ap fresh c.count.ensures

pub is_marked-requires : goal.is_marked-requires
is_marked-requires c =
    let p = some_at (types_of c.args.tables.now.gathered.now) c.args.number c.requires.within in
    let count : length c.go.new.self.reached ≡ length (types_of c.args.tables.now.gathered.now) = (c.in_ok-go.ensures.walk p.0 p.1).count in
    rw c.as_slice.ensures (omega (arith, count, c.requires.within))

pub returns : goal.returns
returns c =
    let p = some_at (types_of c.args.tables.now.gathered.now) c.args.number c.requires.within in
    walk_ends c.args.tables.now.gathered.now c.args.tables.now.foreign.now c.go.new.self c.args.number p.0 c.is_marked.result p.1 (c.in_ok-go.ensures.walk p.0 p.1) c.in_ok-go.ensures.done
    (ap (λ (r : List Bool). slice_get r c.args.number) (sym c.as_slice.ensures) ∙ c.is_marked.ensures)
