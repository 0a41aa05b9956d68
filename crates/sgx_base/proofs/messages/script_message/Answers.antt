use Rattle.sgx_base.proofs.MessageLaws.{script_message_past}
use Rattle.sgx_base.proofs.messages.script_message.Goals as goal

pub returns-then-code-gt20 : goal.returns-then-code-gt20
returns-then-code-gt20 c = script_message_past c.args.code c.if-code-gt20.true
