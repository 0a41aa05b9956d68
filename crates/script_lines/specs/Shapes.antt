-- Words in a row, each of the shape that its place asks for, up to the end of a line.
use Rattle.std.specs.Prelude.{Bool, true, false, List, [], ◌∷◌, Option, Some, None, option_map, is_some}
use Rattle.call_script.specs.Spelling.{Word, is_number, is_name, is_place}
use Rattle.call_script.specs.Parser.{Parser, ◌<*◌, any, number, name, place, said, ended}
use Rattle.script_lines.specs.declared.shapes.Shape.{Shape}
use Rattle.script_lines.specs.declared.shapes.Shape.TheVariants.{Any, Number, Name, Place}

abbrev pub fits : Shape → Word → Bool
fits Any w = true
fits Number w = is_number w
fits Name w = is_name w
fits Place w = is_place w

-- a word of the shape
abbrev pub reads : Shape → Parser Word
reads Any = any
reads Number = number
reads Name = name
reads Place = place

abbrev pub is_ended : List Word → Bool
is_ended [] = true
is_ended (w ∷ ws) = false

-- a word, and what is made of the words behind it
abbrev pub before : {A : Type 0} → Option (Word × List Word) → (List Word → Option A) → Option (Word × A)
before None f = None
before (Some p) f = option_map (λ a. (p.0, a)) (f p.1)

-- the words of a line that has so many more
unfoldable pub one : Shape → List Word → Option Word
one shape ws = ended (reads shape ws)

unfoldable pub two : (first second : Shape) → List Word → Option (Word × Word)
two first second ws = before (reads first ws) (one second)

unfoldable pub three : (first second third : Shape) → List Word → Option (Word × (Word × Word))
three first second third ws = before (reads first ws) (two second third)

unfoldable pub four : (first second third fourth : Shape) → List Word → Option (Word × (Word × (Word × Word)))
four first second third fourth ws = before (reads first ws) (three second third fourth)

-- a block opens with the next word, which is the last
unfoldable pub opens : List Word → Bool
opens ws = is_some (ended (said "{" ws))

unfoldable pub opened : Shape → List Word → Option Word
opened shape ws = ended ((reads shape <* said "{") ws)
