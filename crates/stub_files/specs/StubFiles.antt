-- Which stub files an interface file gives, and where they are written.
use Rattle.std.specs.Prelude.{ℕ, Bool, true, false, not, ◌&&◌, ◌||◌, ◌==◌, ◌-◌, if◌then◌else◌, List, [], ◌∷◌, ◌++◌}
use Rattle.std.specs.Prelude.{map, filter, length, take, Option, Some, None, codes, nat_eq}
use Rattle.std.specs.List.{after_last, ends_with}
use Rattle.stub_printer.specs.declared.Which.{Which}
use Rattle.stub_printer.specs.declared.Which.TheVariants.{TrustedHeader, TrustedSource, UntrustedHeader, UntrustedSource}
use Rattle.tool_words.specs.declared.Choices.{Choices}
use Rattle.stub_files.specs.declared.StubFile.{StubFile}

-- the part of a name behind its last slash
abbrev pub base_name : List ℕ → List ℕ
base_name = after_last (λ byte. byte == 47)

-- a name without this end, where it has it
abbrev pub without_end : List ℕ → List ℕ → List ℕ
without_end end name = if ends_with nat_eq name end then take (length name - length end) name else name

-- the name by which the stubs of an interface file are called
abbrev pub stem : List ℕ → List ℕ
stem file = without_end (codes ".edl") (base_name file)

abbrev pub is_trusted : Which → Bool
is_trusted TrustedHeader = true
is_trusted TrustedSource = true
is_trusted _ = false

abbrev pub is_header : Which → Bool
is_header TrustedHeader = true
is_header UntrustedHeader = true
is_header _ = false

-- a side is left out where the other alone is asked for
abbrev pub is_side_written : Choices → Which → Bool
is_side_written c which =
    if is_trusted which then c.trusted || not c.untrusted else c.untrusted || not c.trusted

abbrev pub is_written : Choices → Which → Bool
is_written c which = is_side_written c which && (is_header which || not c.header_only)

abbrev pub end_of : Which → List ℕ
end_of TrustedHeader = codes "_t.h"
end_of TrustedSource = codes "_t.c"
end_of UntrustedHeader = codes "_u.h"
end_of UntrustedSource = codes "_u.c"

abbrev pub directory_of : Choices → Which → Option (List ℕ)
directory_of c which = if is_trusted which then c.trusted_dir else c.untrusted_dir

abbrev pub placed : Option (List ℕ) → List ℕ → List ℕ
placed None name = name
placed (Some directory) name = directory ++ (codes "/" ++ name)

abbrev pub stub_file : Choices → List ℕ → Which → StubFile
stub_file c file which =
    record { which = which; name = placed (directory_of c which) (stem file ++ end_of which) }

abbrev pub in_order : List Which
in_order = TrustedHeader ∷ TrustedSource ∷ UntrustedHeader ∷ UntrustedSource ∷ []

-- the stub files of an interface file, in the order in which they are written
abbrev pub stub_files : Choices → List ℕ → List StubFile
stub_files c file = map (stub_file c file) (filter (is_written c) in_order)
