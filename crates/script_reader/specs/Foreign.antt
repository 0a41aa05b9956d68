-- The first reading of a script: its foreign types, or a fault.
use Rattle.std.specs.Prelude.{ℕ, Bool, false, if◌then◌else◌, List, [], ◌∷◌, ◌++◌, map, filter, filter_map, Option, Some, None, Result, Ok, Err, codes}
use Rattle.std.specs.List.{list_any}
use Rattle.std.specs.Str.{bytes_eq}
use Rattle.edl_interface.specs.declared.Interface.{Interface}
use Rattle.edl_layout.specs.declared.ForeignType.{ForeignType}
use Rattle.edl_layout.specs.declared.ForeignTypes.{ForeignTypes}
use Rattle.call_script.specs.Spelling.{Word, NumberedLine, numbered_lines}
use Rattle.call_script.specs.Line.{Line, Foreign}
use Rattle.call_script.specs.Block.{PlacedLine, placed, line_in, Outside}
use Rattle.call_script.specs.Arguments.{number_of}
use Rattle.call_script.specs.Standing.{lines_of}
use Rattle.call_script.specs.Faults.{Fault, line_fault, has_number_out_of_range}
use Rattle.call_script.specs.Reading.{unless_fault}

abbrev pub begins_with : Word → List Word → Bool
begins_with word [] = false
begins_with word (w ∷ ws) = bytes_eq w word

-- the lines whose first word is `foreign`, wherever they stand
abbrev pub placed_foreign : List NumberedLine → List PlacedLine
placed_foreign ls = map (placed []) (filter (λ l. begins_with (codes "foreign") l.words) ls)

abbrev pub foreign_lines : List ℕ → List PlacedLine
foreign_lines bytes = placed_foreign (numbered_lines bytes)

-- the type of this name, and of the size and the alignment that these words spell
abbrev pub type_named : (name size alignment : Word) → ForeignType
type_named name size alignment = record { name = name; size = number_of size; align = number_of alignment }

-- the type that a line declares
abbrev pub foreign_type : Line → Option ForeignType
foreign_type (Foreign name size alignment) = Some (type_named name size alignment)
foreign_type _ = None

abbrev pub types_in : List PlacedLine → List ForeignType
types_in ls = filter_map foreign_type (lines_of ls)

-- these types, and no others
abbrev pub only : List ForeignType → ForeignTypes
only types = record { types = types; lenient = false }

-- the rules of these lines are the script's own, and no interface plays a part in them
abbrev pub no_interface : Interface
no_interface = record { ecalls = []; ocalls = [] }

-- the foreign types of these bytes, or the first fault of their lines
unfoldable pub foreign_types : List ℕ → Result ForeignTypes Fault
foreign_types bytes =
    unless_fault (line_fault no_interface false (foreign_lines bytes)) (only (types_in (foreign_lines bytes)))

-- ---- line by line

-- what words are outside of all blocks
unfoldable pub line_outside : List Word → Option Line
line_outside ws = line_in Outside ws

abbrev pub is_declared : List ForeignType → Word → Bool
is_declared types name = list_any (λ t. bytes_eq name t.name) types

-- the types behind a line of this number, which declares one more or breaks a rule
abbrev pub declared : List ForeignType → ℕ → Option Line → Result (List ForeignType) Fault
declared types n (Some (Foreign name size alignment)) =
    if has_number_out_of_range (Foreign name size alignment) then Err (record { line = n; code = 2 })
    else (
    if is_declared types name then Err (record { line = n; code = 11 })
    else Ok (types ++ record { name = name; size = number_of size; align = number_of alignment } ∷ [])
    )
declared types n _ = Err (record { line = n; code = 1 })

-- the types behind a line of these words
abbrev pub types_after : List ForeignType → ℕ → List Word → Result (List ForeignType) Fault
types_after types n [] = Ok types
types_after types n (w ∷ ws) = if bytes_eq w (codes "foreign") then declared types n (line_outside (w ∷ ws)) else Ok types

abbrev pub on_to : {A B : Type 0} → (A → Result B Fault) → Result A Fault → Result B Fault
on_to f (Ok a) = f a
on_to f (Err fault) = Err fault

-- the types behind all these lines
unfoldable pub types_behind : List ForeignType → List NumberedLine → Result (List ForeignType) Fault
types_behind types [] = Ok types
types_behind types (l ∷ ls) = on_to (λ ts. types_behind ts ls) (types_after types l.number l.words)
