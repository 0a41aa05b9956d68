use Rattle.std.proofs.Common.{◌++◌, ◌∷◌, [], ◌∙◌, ap, map, take, arith, List}
use Rattle.edl_interface.specs.declared.Param.{Param}
use Rattle.edl_interface.specs.Parameters.{value_in}
use Rattle.body_vm.proofs.ArgumentLaws.{map_more, take_whole}
use Rattle.call_machine.proofs.admission.values_of.Goals as goal

pub loop-param-preserved : goal.loop-param-preserved
loop-param-preserved c = record {
  count = omega (arith, c.push.ensures.len, c.loop-param.invariant.count);
  are = c.push.ensures.items
      ∙ ap (λ xs. xs ++ c.value.result ∷ []) c.loop-param.invariant.are
      ∙ ap (λ x. map (value_in c.args.fields.now) (take c.loop-param.param-index c.as_slice-param-items.result.now) ++ x ∷ []) c.value.ensures
      ∙ ap (λ (p : Param). map (value_in c.args.fields.now) (take c.loop-param.param-index c.as_slice-param-items.result.now) ++ value_in c.args.fields.now p ∷ []) c.param-item.is
      ∙ map_more (value_in c.args.fields.now) c.as_slice-param-items.result.now c.loop-param.param-index c.param-item.result c.loop-param-test.true;
}

pub returns : goal.returns
returns c =
    c.loop-param.invariant.are ∙ ap (λ ps. map (value_in c.args.fields.now) ps) (take_whole c.as_slice-param-items.result.now c.loop-param.param-index c.loop-param-test.false)
    ∙ ap (λ (ps : List Param). map (value_in c.args.fields.now) ps) c.as_slice-param-items.ensures
