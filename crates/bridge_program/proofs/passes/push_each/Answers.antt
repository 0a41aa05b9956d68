use Rattle.std.proofs.Common.{rules, ◌≡◌, ◌≤◌, List, ◌∷◌, [], ◌++◌, length, take, ap, sym, ◌∙◌, arith}
use Rattle.std.proofs.lemmas.List.{take_more, length-take-le}
use Rattle.edl_interface.specs.declared.Param.{Param}
use Rattle.bridge_program.specs.Lists.{each_from}
use Rattle.bridge_program.specs.Passes.{instructions_of}
use Rattle.bridge_program.proofs.ListLaws.{grows}
use Rattle.bridge_program.proofs.passes.push_each.Goals as goal

pub loop-place-preserved : goal.loop-place-preserved
loop-place-preserved c =
    let ps = c.as_slice-param-items.result.now in
    let i = c.loop-place.place in
    let before : i ≤ length ps = omega arith in
    let counted : length (take i ps) ≡ i = length-take-le i ps before in
    let number_is : c.in-Ok.number ≡ i = search rules in
    c.in_ok-push.ensures
    ∙ grows c.args.list.now c.loop-place.list c.in-Ok.number (instructions_of c.args.pass) (take i ps) c.param-item.result (number_is ∙ sym counted) c.loop-place.invariant
    ∙ ap (λ (l : List Param). c.args.list.now ++ each_from 0 (instructions_of c.args.pass) l)
    (ap (λ (p : Param). take i ps ++ p ∷ []) c.param-item.is ∙ sym (take_more ps i c.param-item.result c.loop-place-test.true))
