use denote.Exit.{no}
use denote.Param.Send.{param_sync, arg_sync}
use Rattle.shared_words.proofs.Crossing.{word_seat_sync}
use Rattle.shared_words.proofs.seats.seats_cross_threads.Goals as goal

pub crosses_threads-requires-sync-T : goal.crosses_threads-requires-sync-T
crosses_threads-requires-sync-T c κs = param_sync _ _ (arg_sync _ no _ word_seat_sync)
