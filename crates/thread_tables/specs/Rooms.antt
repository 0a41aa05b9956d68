-- What a seat of the tables here has.
use Rattle.std.specs.Prelude.{ℕ, ◌≡◌, ◌+◌, ◌≤◌, length}
use Rattle.shared_words.specs.Seats.{SeatState}

-- two words, the first a host byte, and room for so many steps
pub record HasRoomFor (steps : ℕ) (seat : SeatState) : Type 0 where
  pub words : seat.port.words ≡ 2
  pub host : seat.port.host ≡ 1
  pub room : length seat.port.log + steps ≤ seat.port.limit
