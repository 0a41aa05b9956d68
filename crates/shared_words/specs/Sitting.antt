-- What a seat shows of its fields, and what it keeps.
use Rattle.std.specs.Prelude.{◌≡◌, ◌≤◌, false, [], vec_len, vec_capacity}
use Rattle.shared_words.specs.declared.seats.WordSeat.TheInside.{Inside}
use Rattle.shared_words.specs.Seats.{SeatState, name_of}

-- the log and the numbers as they stand, the table's name, and the keeper's part of the seat's view
abbrev pub shown : Inside → SeatState
shown s = record {
  port = record { log = s.log.items; limit = s.limit; words = s.words; host = s.host; name = name_of s.seat.table_id };
  number = s.seat.id;
  ended = s.seat.me.0.ended;
  due = s.seat.me.0.due;
}

-- the log is the seat's own, and has room for as many steps as the limit says
pub record IsWhole (s : Inside) : Type 0 where
  pub logged : s.log.items ≡ s.seat.me.0.own
  pub counted : s.words ≡ s.seat.table_id.words
  pub hosted : s.host ≡ s.seat.me.0.host
  pub fits : s.host ≤ s.words
  pub live : s.seat.me.0.spent ≡ false
  pub bare : s.seat.me.1 ≡ []
  pub within : vec_len s.log ≤ s.limit
  pub room : s.limit ≤ vec_capacity s.log
