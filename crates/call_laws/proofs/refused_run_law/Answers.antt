use Rattle.std.proofs.Common.{Err}
use Rattle.call_laws.proofs.BackLaws.{refused_run_back}
use Rattle.call_laws.proofs.EntryLaws.{entered_run}
use Rattle.call_laws.proofs.refused_run_law.Goals as goal

pub returns : goal.returns
returns c = λ m ocalls cx ordinal address events status.
    (entered_run m ocalls cx ordinal address events (Err status), refused_run_back m ocalls cx ordinal address events status)
