use Rattle.std.proofs.Common.{[], false}
use Rattle.std.proofs.lemmas.Result.{IfOk-weaker}
use Rattle.script_blocks.proofs.acts.arguments_for.Goals as goal

pub returns-in-Some : goal.returns-in-Some
returns-in-Some c =
    rw c.in-Some.is
    (IfOk-weaker c.call_arguments.result _ _ (λ values are. are c.args.interface.now false []) c.call_arguments.ensures)
