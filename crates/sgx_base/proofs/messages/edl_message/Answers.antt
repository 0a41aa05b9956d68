use Rattle.sgx_base.proofs.MessageLaws.{edl_message_past}
use Rattle.sgx_base.proofs.messages.edl_message.Goals as goal

pub returns-then-code-gt40 : goal.returns-then-code-gt40
returns-then-code-gt40 c = edl_message_past c.args.code c.if-code-gt40.true
