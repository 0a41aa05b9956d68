use Rattle.std.proofs.Common.{sym, subst}
use Rattle.edl_imports.specs.Tables.{AreJoined}
use Rattle.edl_imports.proofs.Joining.{seen_before, joined_more, was_there}
use Rattle.edl_imports.proofs.offers.Growing.join_once.Goals as goal

pub returns-in_ok-join_name-clause-joined : goal.returns-in_ok-join_name-clause-joined
returns-in_ok-join_name-clause-joined c =
    subst (AreJoined c.insert.new.self c.args.offered.now) (sym c.in_ok-join_name.ensures.both)
    (joined_more c.args.seen.now c.args.offered.now c.args.self.now.offer c.insert.new.self c.args.name c.in_ok-insert.ensures.updates.0 c.requires.joined)

pub returns-else-branch-clause-both : goal.returns-else-branch-clause-both
returns-else-branch-clause-both c =
    seen_before c.args.seen.now c.args.offered.now c.args.self.now.offer c.args.name (was_there _ _ c.in_ok-insert.ensures.added c.if-branch.false) c.requires.joined
