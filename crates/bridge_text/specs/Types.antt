-- How the types of an interface are printed.
use Rattle.std.specs.Prelude.{ℕ, ℤ, negsuc, List, [], ◌∷◌, ◌++◌, flat_map, Option, Some, None, codes}
use Rattle.std.specs.Fmt.{signed_decimal}
use Prim.Native.String.{String}
use Rattle.edl_grammar.specs.declared.Gathered.{Gathered}
use Rattle.edl_grammar.specs.declared.EnumValue.{EnumValue}
use Rattle.edl_grammar.specs.declared.Declared.{Declared}
use Rattle.edl_grammar.specs.declared.TypeDecl.{TypeDecl}
use Rattle.edl_grammar.specs.declared.TypeDecl.TheVariants as decl
use Rattle.edl_layout.specs.Faults.{value_after}
use Rattle.bridge_text.specs.Template.{filled, at}
use Rattle.bridge_text.specs.Declarations.{declaration}

abbrev pub enum_line : EnumValue → ℤ → List ℕ
enum_line v z = filled (at "M" v.name ∷ at "V" (signed_decimal z) ∷ []) "    $M = $V,"

-- the enumerators behind one of this value
abbrev pub enum_lines : ℤ → List EnumValue → List ℕ
enum_lines before [] = []
enum_lines before (v ∷ vs) = enum_line v (value_after before v) ++ enum_lines (value_after before v) vs

-- the first and the last line of an enumeration with a name
unfoldable pub enum_head : List ℕ → List ℕ
enum_head name = filled (at "X" name ∷ []) "typedef enum $X {"

unfoldable pub enum_foot : List ℕ → List ℕ
enum_foot name = filled (at "X" name ∷ []) "} $X;"

-- an enumeration; its first enumerator is 0 where no other value is written
abbrev pub named_enumeration : List ℕ → List EnumValue → List ℕ
named_enumeration name values = enum_head name ++ enum_lines (negsuc 0) values ++ enum_foot name

abbrev pub bare_enumeration : List EnumValue → List ℕ
bare_enumeration values = filled [] "enum {" ++ enum_lines (negsuc 0) values ++ filled [] "};"

abbrev pub enumeration : Option (List ℕ) → List EnumValue → List ℕ
enumeration None values = bare_enumeration values
enumeration (Some name) values = named_enumeration name values

-- a member of a structure or a union
abbrev pub member_line : Declared → List ℕ
member_line m = filled (at "D" (declaration m) ∷ []) "    $D;"

abbrev pub compound : String → List ℕ → List Declared → List ℕ
compound keyword name members =
    filled (at "K" (codes keyword) ∷ at "X" name ∷ []) "typedef $K $X {" ++ flat_map member_line members ++ filled (at "X" name ∷ []) "} $X;"

abbrev pub type_lines : TypeDecl → List ℕ
type_lines (decl.Enumeration token name values) = enumeration name values
type_lines (decl.Structure token name members) = compound "struct" name members
type_lines (decl.Union token name members) = compound "union" name members

-- every type, in order of reading
abbrev pub all_types : Gathered → List ℕ
all_types g = flat_map (λ f. flat_map type_lines f.tree.types) g.files
