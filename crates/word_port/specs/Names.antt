-- The name of plain words tells the words that they began with, and their races.
use Rattle.std.specs.Prelude.{ℕ, List, [], ◌∷◌, ◌++◌, length, take, drop}
use Rattle.word_port.specs.declared.Race.{Race}

-- three numbers for each race
abbrev pub numbers_of : List Race → List ℕ
numbers_of [] = []
numbers_of (r ∷ races) = r.at ∷ r.index ∷ r.value ∷ numbers_of races

-- the races of so many numbers, three for each
abbrev pub races_of : List ℕ → List Race
races_of (at ∷ index ∷ value ∷ numbers) = record { at = at; index = index; value = value } ∷ races_of numbers
races_of _ = []

-- how many words there are, the words, and the numbers of the races
unfoldable pub name_of : List ℕ → List Race → List ℕ
name_of words races = length words ∷ (words ++ numbers_of races)

-- the words that a name tells
unfoldable pub words_named : List ℕ → List ℕ
words_named [] = []
words_named (count ∷ numbers) = take count numbers

-- the races that a name tells
unfoldable pub races_named : List ℕ → List Race
races_named [] = []
races_named (count ∷ numbers) = races_of (drop count numbers)
