-- Where a spot is in the bytes.
use Rattle.std.specs.Prelude.{ℕ}
use Rattle.edl_lexer.specs.declared.place.Place.{Place}
use Rattle.edl_parser.specs.declared.places.Spot.{Spot}

-- the place of a spot behind so many bytes
abbrev pub place_at : ℕ → Spot → Place
place_at n at = record { offset = n; line = at.line; column = at.column }
