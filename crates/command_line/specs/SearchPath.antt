-- The directories in which imported files are looked for.
use Rattle.std.specs.Prelude.{ℕ, ◌==◌, List}
use Rattle.std.specs.List.{slice_split}

-- the directories of a search path, which colons part
abbrev pub directories : List ℕ → List (List ℕ)
directories path = slice_split (λ b. b == 58) path
