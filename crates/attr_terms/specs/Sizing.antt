-- What a value that tells sizes rests on, and what short meanings say of sizes.
use Rattle.std.specs.Prelude.{ℕ, Bool, true, false, nat_lt, if◌then◌else◌, List, Option, Some, None}
use Rattle.edl_grammar.specs.declared.Gathered.{Gathered}
use Rattle.edl_grammar.specs.declared.Tag.{Tag}
use Rattle.edl_grammar.specs.declared.Tag.TheVariants as tag
use Rattle.edl_layout.specs.declared.NamedShape.{NamedShape}
use Rattle.edl_interface.specs.declared.Plain.{Plain}
use Rattle.attr_terms.specs.declared.meanings.Meant.{Meant}
use Rattle.attr_terms.specs.declared.meanings.Meant.TheVariants as meant
use Rattle.attr_terms.specs.declared.sizes.Sizes.{Sizes}
use Rattle.attr_terms.specs.Accepted.{opaque}

abbrev pub files_of : Sizes → Gathered
files_of s = s.meanings.now.gathered.now

abbrev pub table_of : Sizes → List NamedShape
table_of s = s.layouts.now

abbrev pub same_tag : Tag → Tag → Bool
same_tag tag.Struct tag.Struct = true
same_tag tag.Enum tag.Enum = true
same_tag tag.Union tag.Union = true
same_tag _ _ = false

-- whether it is a declared type with this word
abbrev pub is_tagged : Tag → Meant → Bool
is_tagged t (meant.Declared first) = same_tag t first
is_tagged t _ = false

abbrev pub own_size : Meant → Option ℕ
own_size (meant.Real size) = Some size
own_size (meant.Integer size signed) = Some size
own_size _ = None

abbrev pub plain_by : Meant → ℕ → Plain
plain_by (meant.Integer n signed) size = if nat_lt 8 n then opaque size else record { size = size; integer = true; signed = signed }
plain_by _ size = opaque size

abbrev pub pointee_by : Meant → ℕ → ℕ
pointee_by meant.Void size = 1
pointee_by _ size = size
