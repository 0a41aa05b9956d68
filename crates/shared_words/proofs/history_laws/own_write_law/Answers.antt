use Rattle.shared_words.proofs.WriteLaws.{own_writes_are_seen}
use Rattle.shared_words.proofs.history_laws.own_write_law.Goals as goal

pub returns : goal.returns
returns c = own_writes_are_seen
