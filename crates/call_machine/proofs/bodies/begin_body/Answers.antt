use Rattle.std.proofs.Common.{◌≡◌, Option, None, Some, ◌∙◌, sym, arith}
use Rattle.body_vm.specs.declared.Body.{Body}
use Rattle.call_machine.proofs.CarriedOut.{its_body, few_blocks}
use Rattle.call_machine.proofs.bodies.begin_body.Goals as goal

pub unreachable-requires : goal.unreachable-requires
unreachable-requires c =
    let (f, found, count) = c.requires.found in
    let there = its_body c.args.machine.now c.args.ordinal f c.requires.machine found in
    let e : ◌≡◌ {A = Option Body} None (Some there.body) = c.in_default.ensures.value ∙ there.there in
    cc

pub add_temporaries-requires : goal.add_temporaries-requires
add_temporaries-requires c =
    let (f, found, count) = c.requires.found in
    let few = few_blocks c.args.machine.now c.args.ordinal f c.requires.machine found c.in-Some.body.now (sym c.in-Some.ensures.value) in
    omega (arith, few, count)
