use Rattle.std.proofs.Common.{List, Bool, sym, ◌∙◌, ap, Some}
use Rattle.std.specs.Prelude.{slice_get}
use Rattle.edl_layout.proofs.Walking.{gone_new}
use Rattle.edl_layout.proofs.cycles.Walk.reach.Goals as goal

pub returns : goal.returns
returns c =
    let p = c.in-Some.ensures in
    gone_new c.args.tables.now.gathered.now c.args.tables.now.foreign.now c.args.self.now _ c.args.member.now p.0 c.in-Some.number p.1 p.2
    (ap (λ (r : List Bool). slice_get r c.in-Some.number) (sym c.as_slice.ensures) ∙ c.is_marked.ensures ∙ ap Some c.if-is_marked.false)
    c.set.ensures c.in_ok-push.ensures.ok
