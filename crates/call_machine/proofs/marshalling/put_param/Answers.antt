use Rattle.std.proofs.Common.{rules, ◌≡◌, true, subst}
use Rattle.edl_interface.specs.Parameters.{is_out}
use Rattle.call_machine.specs.Entry.{HasBlock}
use Rattle.call_machine.proofs.CopiesBack.{back_stops}
use Rattle.call_machine.proofs.marshalling.put_param.Goals as goal

pub returns-clause-full : goal.returns-clause-full
returns-clause-full g c = λ bytes has.
    let out : is_out c.args.param.now.class ≡ true = search rules in
    back_stops c.copy_out.result c.args.fields.now c.args.arena.now c.args.param.now c.in-Some.block c.shape_of.result c.address-address.result _ _
    out c.shape_of.ensures c.address-address.ensures c.copy_out.ensures.full bytes (subst (λ b. HasBlock c.args.arena.now b bytes) c.in-Some.is has)
