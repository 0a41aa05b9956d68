-- How types and declarations are written.
use Rattle.std.specs.Prelude.{ℕ, not, List, ◌++◌, map, filter, flat_map, replicate, Option, Some, None, decimal, codes}
use Rattle.std.specs.Str.{bytes_eq}
use Rattle.edl_grammar.specs.declared.Declared.{Declared}
use Rattle.edl_grammar.specs.declared.Written.{Written}
use Rattle.bridge_text.specs.Template.{joined_by, with_commas}

-- words with one space between, and then stars
abbrev pub spelled : List (List ℕ) → ℕ → List ℕ
spelled words stars = joined_by (codes " ") words ++ replicate stars 42

abbrev pub type_text : Written → List ℕ
type_text w = spelled w.words w.stars

-- the words but `const`
abbrev pub bare_words : List (List ℕ) → List (List ℕ)
bare_words words = filter (λ word. not (bytes_eq word (codes "const"))) words

-- without `const`, and with so many stars
abbrev pub bare_text : Written → ℕ → List ℕ
bare_text w stars = spelled (bare_words w.words) stars

abbrev pub dim_text : Option ℕ → List ℕ
dim_text None = codes "[]"
dim_text (Some n) = codes "[" ++ decimal n ++ codes "]"

abbrev pub declaration : Declared → List ℕ
declaration d = type_text d.written ++ codes " " ++ d.name ++ flat_map dim_text d.dims

-- parameters, with a comma between
abbrev pub declarations : List Declared → List ℕ
declarations params = with_commas (map declaration params)
