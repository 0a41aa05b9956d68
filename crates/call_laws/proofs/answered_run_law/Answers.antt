use Rattle.std.proofs.Common.{Ok}
use Rattle.call_laws.proofs.BackLaws.{answered_back}
use Rattle.call_laws.proofs.EntryLaws.{entered_run}
use Rattle.call_laws.proofs.answered_run_law.Goals as goal

pub returns : goal.returns
returns c = λ m ocalls cx ordinal address events done. (entered_run m ocalls cx ordinal address events (Ok done), answered_back m ocalls cx ordinal address events done)
