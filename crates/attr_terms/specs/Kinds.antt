-- What types mean at the rules, in short, and how a table by name tells it.
use Rattle.std.specs.Prelude.{ℕ, Bool, true, false, ◌||◌, if◌then◌else◌, List, Option, Some, None, option_map, fold, find}
use Rattle.std.specs.Map.{lookup}
use Rattle.std.specs.HashMap.{HashMap}
use Rattle.std.specs.Str.{bytes_eq}
use denote.Ref.{Bor}
use Rattle.edl_grammar.specs.declared.Tag.{Tag}
use Rattle.edl_grammar.specs.declared.Tag.TheVariants as tag
use Rattle.edl_grammar.specs.declared.TypeDecl.{TypeDecl}
use Rattle.edl_grammar.specs.declared.TypeDecl.TheVariants as decl
use Rattle.edl_grammar.specs.Files.{TypeIn}
use Rattle.edl_layout.specs.Meaning as layout
use Rattle.attr_terms.specs.declared.meanings.Meant.{Meant}
use Rattle.attr_terms.specs.declared.meanings.Meant.TheVariants as meant
use Rattle.attr_terms.specs.declared.meanings.Kinds.{Kinds}

-- the word of a declared type
abbrev pub tag_of : TypeDecl → Tag
tag_of (decl.Enumeration token name values) = tag.Enum
tag_of (decl.Structure token name members) = tag.Struct
tag_of (decl.Union token name members) = tag.Union

-- a meaning in short: at the rules no foreign type has a size
abbrev pub kind_of : layout.Meaning → Meant
kind_of layout.Empty = meant.Void
kind_of (layout.Real size) = meant.Real size
kind_of (layout.Integer size signed) = meant.Integer size signed
kind_of (layout.Defined t) = meant.Declared (tag_of t.decl)
kind_of (layout.Foreign s) = meant.Undeclared
kind_of layout.Opaque = meant.Foreign
kind_of layout.Undeclared = meant.Undeclared

-- ---- tables by name

-- what a table has at a name
abbrev pub told : {X S : Type 0} → HashMap (Bor (List ℕ)) X S → List ℕ → Option X
told table name = lookup (λ k. bytes_eq name k.now) table.entries

abbrev pub is_enum : Tag → Bool
is_enum tag.Enum = true
is_enum _ = false

abbrev pub is_struct : Tag → Bool
is_struct tag.Struct = true
is_struct _ = false

abbrev pub is_union : Tag → Bool
is_union tag.Union = true
is_union _ = false

-- the kinds of one name, and one type more that has it
abbrev pub with_tag : Option Kinds → Tag → Kinds
with_tag None t = record { first = t; has_enum = is_enum t; has_struct = is_struct t; has_union = is_union t }
with_tag (Some k) t = record { first = k.first; has_enum = k.has_enum || is_enum t; has_struct = k.has_struct || is_struct t; has_union = k.has_union || is_union t }

abbrev pub with_type : List ℕ → Option Kinds → TypeIn → Option Kinds
with_type name k t = if layout.is_named name t then Some (with_tag k (tag_of t.decl)) else k

-- the kinds of the types that have this name
abbrev pub kinds_of : List ℕ → List TypeIn → Option Kinds
kinds_of name = fold (with_type name) None

abbrev pub has_kind : Tag → Option Kinds → Bool
has_kind t None = false
has_kind tag.Enum (Some k) = k.has_enum
has_kind tag.Struct (Some k) = k.has_struct
has_kind tag.Union (Some k) = k.has_union

abbrev pub with_decl : List ℕ → Option Kinds → TypeDecl → Option Kinds
with_decl name k d = with_type name k (record { file = 0; decl = d })

-- what a bare name means, by the kinds of its declared types and by the standard type
abbrev pub bare_kind : Option Kinds → Option Meant → Meant
bare_kind (Some k) standard = meant.Declared k.first
bare_kind None (Some m) = m
bare_kind None None = meant.Foreign

abbrev pub tagged_kind : Tag → Option Kinds → Meant
tagged_kind t k = if has_kind t k then meant.Declared t else meant.Undeclared

abbrev pub standard_kind : List ℕ → Option Meant
standard_kind name = option_map (λ s. meant.Integer s.size s.signed) (find (λ s. bytes_eq s.name name) layout.standard_types)
