use Rattle.shared_words.proofs.WriteLaws.{word_is_freed_between}
use Rattle.shared_words.proofs.history_laws.won_twice_law.Goals as goal

pub returns : goal.returns
returns c = word_is_freed_between
