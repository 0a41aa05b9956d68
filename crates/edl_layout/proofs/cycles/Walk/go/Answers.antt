use Rattle.std.proofs.Common.{ℕ, List, length, refl, sym, ◌∙◌, ap, subst}
use Rattle.std.specs.Prelude.{false}
use Rattle.std.proofs.lemmas.List.{length-replicate}
use Rattle.edl_grammar.specs.declared.Declared.{Declared}
use Rattle.edl_grammar.specs.Files.{types_of}
use Rattle.edl_layout.specs.declared.cycles.Walk.{Walk}
use Rattle.edl_layout.specs.Meaning.{members_of}
use Rattle.edl_layout.specs.Sizes.{Has}
use Rattle.edl_layout.specs.Walks.{IsMarked, HasGone, IsWalk}
use Rattle.edl_layout.proofs.Walking.{walk_begins, walk_goes, next_within, none_marked, none_to_do}
use Rattle.edl_layout.proofs.Sweeping.{some_at}
use Rattle.edl_layout.proofs.cycles.Walk.go.Goals as goal

pub reach_all-requires-clause-count : goal.reach_all-requires-clause-count
reach_all-requires-clause-count c = ap (λ (w : Walk). length w.reached) c.requires.nowhere ∙ length-replicate (length (types_of c.args.tables.now.gathered.now)) false

pub loop-next-init : goal.loop-next-init
loop-next-init c = λ t at.
    walk_begins c.args.tables.now.gathered.now c.args.tables.now.foreign.now (members_of t.decl) c.args.self.now c.reach_all.new.self
    (ap (λ (w : Walk). length w.reached) c.requires.nowhere ∙ length-replicate (length (types_of c.args.tables.now.gathered.now)) false)
    (λ k e. none_marked c.args.tables.now.gathered.now c.args.tables.now.foreign.now (length (types_of c.args.tables.now.gathered.now)) k (subst (λ (w : Walk). IsMarked w.reached k) c.requires.nowhere e))
    (λ k h. none_to_do c.args.tables.now.gathered.now c.args.tables.now.foreign.now k (subst (λ (w : Walk). Has w.work k) c.requires.nowhere h))
    (subst (λ (ms : List Declared). HasGone c.args.tables.now.gathered.now c.args.tables.now.foreign.now ms c.args.self.now c.reach_all.new.self) (c.members_of.ensures ∙ ap members_of (sym (c.decl_at.ensures t at))) c.in_ok-reach_all.ensures)

pub decl_at-requires-in-Some-clause-within : goal.decl_at-requires-in-Some-clause-within
decl_at-requires-in-Some-clause-within c =
    let p = some_at (types_of c.args.tables.now.gathered.now) c.args.number c.requires.within in
    next_within c.args.tables.now.gathered.now c.args.tables.now.foreign.now (members_of p.0.decl) c.loop-next.self c.pop.new.self c.in-Some.next (c.loop-next.invariant p.0 p.1) c.in-Some.ensures

pub reach_all-requires-in-Some-clause-count : goal.reach_all-requires-in-Some-clause-count
reach_all-requires-in-Some-clause-count c = let p = some_at (types_of c.args.tables.now.gathered.now) c.args.number c.requires.within in (c.loop-next.invariant p.0 p.1).count

pub loop-next-preserved : goal.loop-next-preserved
loop-next-preserved c = λ t at.
    let walk = c.loop-next.invariant t at in
    let q = some_at (types_of c.args.tables.now.gathered.now) c.in-Some.next (next_within c.args.tables.now.gathered.now c.args.tables.now.foreign.now (members_of t.decl) c.loop-next.self c.pop.new.self c.in-Some.next walk c.in-Some.ensures) in
    walk_goes c.args.tables.now.gathered.now c.args.tables.now.foreign.now (members_of t.decl) c.loop-next.self (record { reached = c.loop-next.self.reached; work = c.pop.new.self }) c.reach_all-in-Some.new.self c.in-Some.next q.0
    walk refl c.in-Some.ensures q.1
    (subst (λ (ms : List Declared). HasGone c.args.tables.now.gathered.now c.args.tables.now.foreign.now ms (record { reached = c.loop-next.self.reached; work = c.pop.new.self }) c.reach_all-in-Some.new.self)
    (c.members_of-in-Some.ensures ∙ ap members_of (sym (c.decl_at-in-Some.ensures q.0 q.1))) c.in_ok-reach_all-2.ensures)

pub returns : goal.returns
returns c = record {
  walk = λ t at.
      subst (λ (ws : List ℕ). IsWalk c.args.tables.now.gathered.now c.args.tables.now.foreign.now (members_of t.decl) (record { reached = c.loop-next.self.reached; work = ws }))
      (c.in_default.ensures.0 ∙ sym c.in_default.ensures.1) (c.loop-next.invariant t at);
  done = c.in_default.ensures.1;
}
