-- The C words of a text: its longest parts of letters, digits and `_`.
use Rattle.std.specs.Prelude.{ℕ, Bool, false, ◌||◌, ◌==◌, if◌then◌else◌, List, [], ◌∷◌, ◌++◌, Option, Some}
use Rattle.std.specs.List.{list_any}
use Rattle.std.specs.Str.{bytes_eq}
use Rattle.std.specs.Char.{is_ascii_alphanumeric}
use Rattle.edl_grammar.specs.declared.AttrValue.{AttrValue}
use Rattle.edl_grammar.specs.declared.AttrValue.TheVariants as value
use Rattle.edl_grammar.specs.declared.Declared.{Declared}
use Rattle.edl_grammar.specs.declared.FuncDecl.{FuncDecl}

-- a byte of a word
abbrev pub is_word_byte : ℕ → Bool
is_word_byte b = is_ascii_alphanumeric b || b == 95

-- whether the word is one of a text's, where these bytes of a word stand before the text
abbrev pub names_behind : List ℕ → List ℕ → List ℕ → Bool
names_behind word begun [] = bytes_eq begun word
names_behind word begun (b ∷ text) =
    if is_word_byte b then names_behind word (begun ++ b ∷ []) text else bytes_eq begun word || names_behind word [] text

-- whether the word is one of a text's
abbrev pub names : List ℕ → List ℕ → Bool
names word text = names_behind word [] text

-- ---- what an author wrote

abbrev pub value_names : List ℕ → Option AttrValue → Bool
value_names word (Some (value.Named x)) = names word x.name
value_names word _ = false

-- whether a parameter's name, its type or one of its attributes names the word
abbrev pub param_names : List ℕ → Declared → Bool
param_names word p = names word p.name || list_any (names word) p.written.words || list_any (λ a. value_names word a.value) p.attrs

-- whether a function's name, what it returns or a parameter names the word
abbrev pub author_names : List ℕ → FuncDecl → Bool
author_names word f = names word f.name || list_any (names word) f.result.words || list_any (param_names word) f.params
