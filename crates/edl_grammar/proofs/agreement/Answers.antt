use Rattle.edl_grammar.proofs.Theorem.{computed}
use Rattle.edl_grammar.proofs.agreement.Goals as goal

pub returns : goal.returns
returns c = computed
