use Rattle.copy_laws.proofs.Histories.{passed_by_copy}
use Rattle.copy_laws.proofs.Wholes.{undisturbed, direct}
use Rattle.copy_laws.proofs.passing_by_copy_law.Goals as goal

pub returns : goal.returns
returns c = record { middle = passed_by_copy; whole = undisturbed; direct = direct }
