use Rattle.word_port.proofs.OneLegalRun.{one_legal_run}
use Rattle.word_port.proofs.run_laws.one_run_law.Goals as goal

pub returns : goal.returns
returns g c = λ t host races words xs ys x y p q h k lx ly. one_legal_run t 0 host 0 races words xs ys x y p q h k lx ly
