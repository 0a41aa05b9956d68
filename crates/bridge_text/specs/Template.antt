-- Templates: texts with places, each a dollar sign and a letter, and what stands there.
use Rattle.std.specs.Prelude.{ℕ, true, false, ◌==◌, if◌then◌else◌, List, [], ◌∷◌, ◌++◌, map, flat_map, slice_index, codes}
use Prim.Native.String.{String}
use Rattle.bridge_text.specs.declared.templates.Place.{Place as GivenPlace}

-- what stands at a letter
pub record Place : Type 0 where
  pub letter : ℕ
  pub text : List ℕ

-- at a letter, which is quoted, stands a text
abbrev pub at : String → List ℕ → Place
at letter text = record { letter = slice_index (codes letter) 0; text = text }

-- a place, as contracts see it
abbrev pub seen : GivenPlace → Place
seen p = record { letter = p.letter; text = p.text.now }

-- what stands at a letter: the text of its first place, and nothing where it has none
abbrev pub text_at : List Place → ℕ → List ℕ
text_at [] letter = []
text_at (p ∷ places) letter = if p.letter == letter then p.text else text_at places letter

-- the template with each place filled
unfoldable pub fill : List Place → List ℕ → List ℕ
fill places [] = []
fill places (b ∷ []) = b ∷ []
fill places (b ∷ c ∷ rest) = elim (b == 36) [ true ↦ text_at places c ++ fill places rest | false ↦ b ∷ fill places (c ∷ rest) ]

-- a line, which a line feed ends
abbrev pub line : List ℕ → List ℕ
line text = text ++ 10 ∷ []

-- each template filled, a line of its own
abbrev pub filled_lines : List Place → List (List ℕ) → List ℕ
filled_lines places templates = flat_map (λ template. line (fill places template)) templates

abbrev pub filled : List Place → String → List ℕ
filled places template = line (fill places (codes template))

-- lines in a row, each filled
abbrev pub lines : List Place → List String → List ℕ
lines places templates = filled_lines places (map codes templates)

-- the texts, with this text between each two
abbrev pub joined_by : List ℕ → List (List ℕ) → List ℕ
joined_by between [] = []
joined_by between (t ∷ []) = t
joined_by between (t ∷ u ∷ ts) = t ++ between ++ joined_by between (u ∷ ts)

abbrev pub with_commas : List (List ℕ) → List ℕ
with_commas = joined_by (codes ", ")
