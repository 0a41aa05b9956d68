-- Which file an import's text stands for.
use Rattle.std.specs.Prelude.{ℕ, not, ◌≤◌, if◌then◌else◌, ◌==◌, List, [], ◌∷◌, ◌++◌, map, filter, position, length, Option, Some, None, option_map, codes}
use Rattle.std.specs.Option.{option_or}
use Rattle.std.specs.Str.{is_utf8, bytes_eq}
use Rattle.sgx_base.specs.Stores.{Store, max_file_size}
use Rattle.edl_grammar.specs.declared.SourceFile.{SourceFile}
use Rattle.edl_imports.specs.declared.search.Found.{Found}
use Rattle.edl_imports.specs.declared.search.Found.TheVariants.{Known, New}

-- the text in each directory that is not empty
abbrev pub in_directories : List (List ℕ) → List ℕ → List (List ℕ)
in_directories paths text = map (λ p. p ++ codes "/" ++ text) (filter (λ p. not (length p == 0)) paths)

-- the text itself, and then the text in each directory of the search path; a text that is not UTF-8 has no candidates
abbrev pub candidates : List (List ℕ) → List ℕ → List (List ℕ)
candidates paths text = if is_utf8 text then text ∷ in_directories paths text else []

-- the number of the file of this name, where it was read before
abbrev pub number_of : List SourceFile → List ℕ → Option ℕ
number_of read name = position (λ f. bytes_eq f.name name) read

abbrev pub known_or_new : List ℕ → Option ℕ → Option (List ℕ) → Option Found
known_or_new name (Some n) bytes = Some (Known n)
known_or_new name None bytes = option_map (λ b. New (record { name = name; bytes = b })) bytes

-- the file of this name: one that was read before, or one that the store has
abbrev pub file_of : Store → List SourceFile → List ℕ → Option Found
file_of store read name = known_or_new name (number_of read name) (store name)

-- the first of these names that has a file
abbrev pub first_file : Store → List SourceFile → List (List ℕ) → Option Found
first_file store read [] = None
first_file store read (name ∷ names) = option_or (file_of store read name) (first_file store read names)

-- a new file has no more bytes than may be read
abbrev pub IsSmall : Option Found → Type 0
IsSmall (Some (New f)) = length f.bytes ≤ max_file_size
IsSmall (Some (Known n)) = Unit {0}
IsSmall None = Unit {0}
