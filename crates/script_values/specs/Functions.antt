-- What a table of places by name tells of functions.
use Rattle.std.specs.Prelude.{ℕ, ◌≡◌, List, Option}
use Rattle.std.specs.Borrow.{Bor}
use Rattle.std.specs.HashMap.{HashMap}
use Rattle.std.specs.Map.{lookup}
use Rattle.std.specs.Str.{bytes_eq}
use Rattle.edl_interface.specs.declared.Function.{Function}
use Rattle.call_script.specs.Spelling.{Word}
use Rattle.call_script.specs.Meaning.{ordinal_in}

-- the place that a table has at a name
abbrev pub told : {S : Type 0} → HashMap (Bor (List ℕ)) ℕ S → Word → Option ℕ
told table w = lookup (λ name. bytes_eq w name.now) table.entries

-- the table has the place of the first function of each name
unfoldable pub TellsPlaces : {S : Type 0} → HashMap (Bor (List ℕ)) ℕ S → List Function → Type 0
TellsPlaces table functions = (w : Word) → told table w ≡ ordinal_in functions w
