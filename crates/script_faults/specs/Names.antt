-- The names that lines give.
use Rattle.std.specs.Prelude.{ℕ, ◌≡◌, List, [], ◌∷◌, Option, Some, None, Bool, false}
use Rattle.std.specs.List.{list_any}
use Rattle.std.specs.Str.{bytes_eq}
use Rattle.std.specs.Borrow.{Bor}
use Rattle.std.specs.HashSet.{HashSet}
use Rattle.call_script.specs.Spelling.{Word}
use Rattle.call_script.specs.Line.{Line, Body, Handler, Foreign}
use Rattle.call_script.specs.Standing.{body_name, handler_name, foreign_name, is_named_in}
use Rattle.script_faults.specs.declared.names.GivenNames.{GivenNames}

abbrev pub listed : {A : Type 0} → Option A → List A
listed None = []
listed (Some a) = a ∷ []

-- whether a word is a name of the table
abbrev pub tells : {S : Type 0} → HashSet (Bor (List ℕ)) S → Word → Bool
tells table w = list_any (λ name. bytes_eq w name.now) table.keys

-- these are the names that the lines give
pub record AreNamed (ls : List Line) (names : GivenNames) : Type 0 where
  pub bodies : (w : Word) → tells names.bodies w ≡ is_named_in body_name ls w
  pub handlers : (w : Word) → tells names.handlers w ≡ is_named_in handler_name ls w
  pub foreign_types : (w : Word) → tells names.foreign_types w ≡ is_named_in foreign_name ls w

-- whether the name that a line gives, and no temporary's, is given by these before
abbrev pub is_named_before : List Line → Line → Bool
is_named_before ls (Body name) = is_named_in body_name ls name
is_named_before ls (Handler name) = is_named_in handler_name ls name
is_named_before ls (Foreign name size alignment) = is_named_in foreign_name ls name
is_named_before ls _ = false
