-- What a table of shared words and a seat of it show.
use Rattle.std.specs.Prelude.{ℕ, ◌≡◌, ◌+◌, ◌-◌, List, [], ◌∷◌, ◌++◌, length}
use Rattle.atomic_table.specs.Seated.{TableId}
use Rattle.word_port.specs.declared.Step.{Step}
use Rattle.word_port.specs.Port.{PortState, with_steps}

-- the words at the start, and a name that no other table has
pub record TableState : Type 0 where
  pub initial : List ℕ
  pub name : List ℕ

-- what the seat's port shows, and the seat's number; in the keeper the logs that `join` has handed out, in order, and how many seats have not been joined
pub record SeatState : Type 0 where
  pub port : PortState
  pub number : ℕ
  pub ended : List (List Step)
  pub due : ℕ

-- a table's name is all that tells it, as a list of numbers
abbrev pub name_of : TableId → List ℕ
name_of z = z.words ∷ z.slots ∷ z.views_name ∷ z.atom ∷ z.block ∷ z.offset ∷ z.slot_names

-- the seat is one of this table
abbrev pub IsSeatOf : TableState → SeatState → Type 0
IsSeatOf table seat = seat.port.name ≡ table.name

-- it is the seat that `make` gave
abbrev pub IsKeeper : SeatState → Type 0
IsKeeper seat = seat.number ≡ 0

-- a port to the table's words, of which so many are host bytes, with an empty log for so many steps
abbrev pub empty_port : TableState → ℕ → ℕ → PortState
empty_port table host limit = record { log = []; limit = limit; words = length table.initial; host = host; name = table.name }

-- the keeper of a new table
abbrev pub first_seat : TableState → ℕ → ℕ → SeatState
first_seat table host limit = record { port = empty_port table host limit; number = 0; ended = []; due = 0 }

-- with these steps at the end of its log, and all else as it is
abbrev pub with_steps_in : SeatState → List Step → SeatState
with_steps_in seat steps = record seat { port = with_steps seat.port steps }

-- with one more seat to be joined
abbrev pub after_split : SeatState → SeatState
after_split keeper = record keeper { due = keeper.due + 1 }

-- with a log handed out, and one seat less to be joined
abbrev pub after_join : SeatState → List Step → SeatState
after_join keeper log = record keeper { ended = keeper.ended ++ log ∷ []; due = keeper.due - 1 }
