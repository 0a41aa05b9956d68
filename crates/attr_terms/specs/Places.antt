-- The first place of a name, and what a table of places tells.
use Rattle.std.specs.Prelude.{◌≡◌, ℕ, List, Option, position}
use Rattle.std.specs.Str.{bytes_eq}
use Rattle.attr_terms.specs.declared.places.Places.{Places}
use Rattle.attr_terms.specs.Kinds.{told}

-- the first place of a name among names
abbrev pub place_in : List ℕ → List (List ℕ) → Option ℕ
place_in q names = position (λ n. bytes_eq n q) names

-- the table has the first place of each name
pub record TellsPlaces (places : Places) (names : List (List ℕ)) : Type 0 where
  pub here : (q : List ℕ) → told places.first q ≡ place_in q names
