use Rattle.std.proofs.Common.{List, ◌∙◌, ◌∷◌, [], subst, arith}
use Rattle.edl_grammar.specs.declared.Declared.{Declared}
use Rattle.edl_layout.specs.Walks.{HasGone}
use Rattle.edl_layout.proofs.Walking.{gone_nowhere, gone_next}
use Rattle.edl_layout.proofs.Sweeping.{whole_taken}
use Rattle.edl_layout.proofs.cycles.Walk.reach_all.Goals as goal

pub loop-member-init : goal.loop-member-init
loop-member-init c = gone_nowhere c.args.tables.now.gathered.now c.args.tables.now.foreign.now c.args.self.now

pub reach-requires-clause-count : goal.reach-requires-clause-count
reach-requires-clause-count c = c.loop-member.invariant.count ∙ c.requires.count

pub loop-member-preserved : goal.loop-member-preserved
loop-member-preserved c =
    gone_next c.args.tables.now.gathered.now c.args.tables.now.foreign.now c.args.members.now c.loop-member.member-index c.member-item.result c.args.self.now c.loop-member.self c.reach.new.self
    c.loop-member-test.true c.loop-member.invariant
    (subst (λ (m : Declared). HasGone c.args.tables.now.gathered.now c.args.tables.now.foreign.now (m ∷ []) c.loop-member.self c.reach.new.self) c.member-item.is c.in_ok-reach.ensures)

pub returns : goal.returns
returns c =
    subst (λ (ms : List Declared). HasGone c.args.tables.now.gathered.now c.args.tables.now.foreign.now ms c.args.self.now c.loop-member.self)
    (whole_taken c.loop-member.member-index c.args.members.now (omega arith)) c.loop-member.invariant
