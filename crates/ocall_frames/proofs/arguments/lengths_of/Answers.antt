use Rattle.std.proofs.lemmas.List.{take-replicate}
use Rattle.ocall_frames.proofs.arguments.lengths_of.Goals as goal

pub put_numbers-requires-clause-zeros : goal.put_numbers-requires-clause-zeros
put_numbers-requires-clause-zeros c = take-replicate _ _ _ c.requires.call.small
