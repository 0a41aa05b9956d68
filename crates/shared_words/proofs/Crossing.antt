-- A seat that is lent to other threads shows them nothing.
use denote.Struct.Declared.{shape}
use denote.RattleType.{RattleType}
use denote.Param.Send.{IsSend, IsSync, part_keyless, sendable, recorded_sync, view_sync, struct_sync}
use Rattle.atomic_table.specs.contracts.shared.Seat.{the_row}
use Rattle.atomic_table.proofs.shared.Seat.TheSendSync.{the_send}
use Rattle.std.proofs.vec.Vec.TheSendSync as vec
use Rattle.std.proofs.alloc.Global.TheSendSync as heap
use Rattle.word_port.proofs.Step.TheSendSync as step
use Rattle.shared_words.specs.contracts.seats.WordSeat as word_seat
use Rattle.shared_words.specs.contracts.seats.WordSeat.TheInside as inside

pub seat_sync : (S V : RattleType) → IsSend S → IsSync (the_row S V)
seat_sync S V s = record { shared = λ d b o κ q. part_keyless (the_row S V) (the_send S V s) q d b o }

inside_sync : IsSync inside.the_row
inside_sync = recorded_sync _ _ _ (inside.the_type).to_one (struct_sync (shape inside.the_type) (search (sendable, vec.the_sync, step.the_sync, heap.the_sync), (search sendable, (search sendable, (search sendable, (seat_sync _ _ (search sendable), tt))))))

pub word_seat_sync : IsSync word_seat.the_row
word_seat_sync = view_sync inside.the_row _ _ _ _ inside_sync
