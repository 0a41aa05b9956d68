use Rattle.std.proofs.Common.{◌++◌, ◌∷◌, [], ap, ◌∙◌, None, unwrap_or}
use Rattle.std.proofs.lemmas.Result.{on_ok_weaker}
use Rattle.call_script.specs.BodyNames.{pass_of}
use Rattle.body_vm.specs.declared.Pass.TheVariants as pass
use Rattle.script_values.proofs.CallLaws.{pushed}
use Rattle.script_values.proofs.calls.+push_passes.Goals as goal

pub returns : goal.returns
returns t c =
    on_ok_weaker c.push_passes.result
    (λ h. pushed (λ p w. unwrap_or (pass_of c.args.names.now p w) (pass.Bytes None)) c.args.values.now c.push.new.self
    c.push_passes.new.values c.args.params.now c.args.args.now c.param-item.result _ c.in-len1-up.len_at_least
    c.in-len1-up-args.len_at_least c.param-item.is
    (c.in_ok-push.ensures.ok ∙ ap (λ z. c.args.values.now ++ z ∷ []) c.pass_or_null.ensures) h)
    c.push_passes.ensures
