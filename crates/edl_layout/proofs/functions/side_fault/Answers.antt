use Rattle.std.proofs.Common.{[], ◌∷◌, get_or, Option, None, refl, subst}
use Rattle.std.specs.Prelude.{filter_map}
use Rattle.edl_grammar.specs.declared.Pick.{Pick}
use Rattle.edl_layout.specs.declared.LayoutFault.{LayoutFault}
use Rattle.edl_layout.specs.Faults.{IsCleanFunction, FunctionFault}
use Rattle.edl_layout.specs.Picks.{pick_of, AreCheckedFunctions}
use Rattle.edl_layout.proofs.Among.{picks_turn, picks_end}
use Rattle.edl_layout.proofs.functions.side_fault.Goals as goal

pub loop-pick-preserved : goal.loop-pick-preserved
loop-pick-preserved c found rest =
    let g = c.args.types.now.gathered in
    let foreign = c.args.types.now.foreign in
    let pick : Pick = get_or c.args.picks.now c.loop-pick.pick-index (record { file = 0; index = 0 }) in
    c.loop-pick.invariant found
    (picks_turn (IsCleanFunction g foreign) (FunctionFault g foreign) (pick_of g c.args.is_trusted) c.args.picks.now c.loop-pick.pick-index pick (record { file = 0; index = 0 }) found c.loop-pick-test.true refl
    (subst (λ (o : Option LayoutFault). AreCheckedFunctions g foreign (filter_map (pick_of g c.args.is_trusted) (pick ∷ [])) o) c.in_default.is c.pick_fault.ensures)
    rest)

pub returns : goal.returns
returns c =
    let g = c.args.types.now.gathered in
    let foreign = c.args.types.now.foreign in
    c.loop-pick.invariant None (picks_end (IsCleanFunction g foreign) (FunctionFault g foreign) (pick_of g c.args.is_trusted) c.args.picks.now c.loop-pick.pick-index c.loop-pick-test.false)
