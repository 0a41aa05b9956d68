use Rattle.std.proofs.Common.{◌≡◌, All}
use Rattle.shared_words.specs.Seats.{IsSeatOf, IsKeeper}
use Rattle.thread_tables.proofs.seats_of.Given as goal

-- the keeper's port stays, it is the keeper, and all seats are of the table
abbrev pub invariant-loop : goal.invariant-loop
invariant-loop l = (l.keeper.port ≡ l.fn.keeper.port) × IsSeatOf l.fn.table l.keeper × IsKeeper l.keeper × All (IsSeatOf l.fn.table) l.seats.items
