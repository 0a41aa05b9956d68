use Rattle.std.proofs.Common.{◌<◌, ◌^◌, List, ℕ, sym, subst, take, ◌+◌, arith}
use Rattle.edl_layout.specs.Filled.{ArePut}
use Rattle.edl_layout.proofs.Covering.{next_put}
use Rattle.edl_layout.proofs.offsets.structure_offsets.Goals as goal

pub loop-member-preserved : goal.loop-member-preserved
loop-member-preserved c =
    let fits : c.in-Some.offset < 2 ^ 32 = omega arith in
    let put = c.in-Some.ensures in
    subst (λ (os : List ℕ). ArePut c.args.types.now.gathered c.args.types.now.foreign (take (c.loop-member.member-index + 1) c.args.members.now) c.put_member.new.ends os) (sym c.in_ok-push.ensures.ok)
    (next_put c.args.types.now.gathered c.args.types.now.foreign c.args.members.now c.loop-member.member-index c.member-item.result c.member-item.result c.loop-member.ends c.put_member.new.ends put.extent c.in-Some.offset c.loop-member.offsets
    c.loop-member-test.true c.member-item.is c.loop-member.invariant put.shape put.ends put.offset fits)
