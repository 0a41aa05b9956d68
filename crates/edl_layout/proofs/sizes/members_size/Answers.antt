use Rattle.std.proofs.Common.{List, subst, arith}
use Rattle.edl_grammar.specs.declared.Declared.{Declared}
use Rattle.edl_layout.specs.Sizes.{IsMemberSize, AreMembers}
use Rattle.edl_layout.proofs.Together.{no_members, next_member}
use Rattle.edl_layout.proofs.Sweeping.{whole_taken}
use Rattle.edl_layout.proofs.sizes.members_size.Goals as goal

pub loop-member-init : goal.loop-member-init
loop-member-init c = rw c.new.ensures (no_members c.args.tables.now.gathered.now c.args.tables.now.foreign.now c.args.sizes.now)

pub loop-member-preserved : goal.loop-member-preserved
loop-member-preserved c =
    rw c.with_member-together.ensures
    (next_member c.args.tables.now.gathered.now c.args.tables.now.foreign.now c.args.sizes.now c.args.members.now c.loop-member.member-index c.member-item.result c.loop-member.together c.member_size.result
    c.loop-member-test.true c.loop-member.invariant
    (subst (λ (m : Declared). IsMemberSize c.args.tables.now.gathered.now c.args.tables.now.foreign.now c.args.sizes.now m c.member_size.result) c.member-item.is c.member_size.ensures))

pub returns : goal.returns
returns c =
    subst (λ (ms : List Declared). AreMembers c.args.tables.now.gathered.now c.args.tables.now.foreign.now c.args.sizes.now ms c.loop-member.together)
    (whole_taken c.loop-member.member-index c.args.members.now (omega arith)) c.loop-member.invariant
