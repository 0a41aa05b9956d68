-- A meaning and its short form say the same of sizes.
use Rattle.std.proofs.Common.{◌≡◌, ℕ, zero, suc, ◌<◌, Option, Some, refl, arith}
use Rattle.edl_grammar.specs.declared.TypeDecl.{TypeDecl}
use Rattle.edl_grammar.specs.declared.TypeDecl.TheVariants as decl
use Rattle.edl_grammar.specs.declared.Tag.{Tag}
use Rattle.edl_grammar.specs.declared.Tag.TheVariants as tag
use Rattle.edl_layout.specs.Shape.{Shape, address}
use Rattle.edl_layout.specs.Meaning.{Meaning, Empty, Real, Integer, Defined, Foreign, Opaque, Undeclared, has_tag, pointed}
use Rattle.attr_terms.specs.Accepted as accepted
use Rattle.attr_terms.specs.Kinds.{kind_of, tag_of}
use Rattle.attr_terms.specs.Sizing.{same_tag, is_tagged, own_size, plain_by, pointee_by}

tag-same : (t : Tag) (d : TypeDecl) → has_tag t d ≡ same_tag t (tag_of d)
tag-same tag.Enum (decl.Enumeration token name values) = refl
tag-same tag.Enum (decl.Structure token name members) = refl
tag-same tag.Enum (decl.Union token name members) = refl
tag-same tag.Struct (decl.Enumeration token name values) = refl
tag-same tag.Struct (decl.Structure token name members) = refl
tag-same tag.Struct (decl.Union token name members) = refl
tag-same tag.Union (decl.Enumeration token name values) = refl
tag-same tag.Union (decl.Structure token name members) = refl
tag-same tag.Union (decl.Union token name members) = refl

pub tagged-kind : (t : Tag) (m : Meaning) → accepted.is_tagged t m ≡ is_tagged t (kind_of m)
tagged-kind t Empty = refl
tagged-kind t (Real size) = refl
tagged-kind t (Integer size signed) = refl
tagged-kind t (Defined d) = tag-same t d.decl
tagged-kind t (Foreign s) = refl
tagged-kind t Opaque = refl
tagged-kind t Undeclared = refl

pub own_size-kind : (m : Meaning) → accepted.own_size m ≡ own_size (kind_of m)
own_size-kind Empty = refl
own_size-kind (Real size) = refl
own_size-kind (Integer size signed) = refl
own_size-kind (Defined d) = refl
own_size-kind (Foreign s) = refl
own_size-kind Opaque = refl
own_size-kind Undeclared = refl

pub plain-kind : (m : Meaning) (size : ℕ) → accepted.plain_by m size ≡ plain_by (kind_of m) size
plain-kind Empty size = refl
plain-kind (Real n) size = refl
plain-kind (Integer n signed) size = refl
plain-kind (Defined d) size = refl
plain-kind (Foreign s) size = refl
plain-kind Opaque size = refl
plain-kind Undeclared size = refl

pub pointee-kind : (m : Meaning) (size : ℕ) → accepted.pointee_by m size ≡ pointee_by (kind_of m) size
pointee-kind Empty size = refl
pointee-kind (Real n) size = refl
pointee-kind (Integer n signed) size = refl
pointee-kind (Defined d) size = refl
pointee-kind (Foreign s) size = refl
pointee-kind Opaque size = refl
pointee-kind Undeclared size = refl

pub pointed-some : (n : ℕ) (s : Option Shape) → 0 < n → pointed n s ≡ Some address
pointed-some zero s h = absurd (omega arith)
pointed-some (suc n) s h = refl

pub pointed-none : (n : ℕ) (s : Option Shape) → n ≡ 0 → pointed n s ≡ s
pointed-none zero s h = refl
pointed-none (suc n) s h = absurd (omega arith)
