use Rattle.edl_grammar.proofs.Theorem.{one_tree}
use Rattle.edl_grammar.proofs.one_tree.Goals as goal

pub returns : goal.returns
returns c = one_tree
