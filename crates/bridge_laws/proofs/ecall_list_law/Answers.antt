use Rattle.bridge_laws.proofs.Whole.{list_is_entry}
use Rattle.bridge_laws.proofs.ecall_list_law.Goals as goal

pub returns : goal.returns
returns c = λ m ocalls cx ordinal address f runnable. list_is_entry m ocalls cx ordinal address f runnable.no_frame
