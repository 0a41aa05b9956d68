-- How a table of layouts is filled, name after name.
use Rattle.std.specs.Prelude.{◌≡◌, ◌<◌, ℕ, Bool, true, List, [], map, slice_get, Option, Some, None}
use Rattle.sgx_base.specs.Bytes.{round_up}
use Rattle.edl_grammar.specs.declared.Gathered.{Gathered}
use Rattle.edl_grammar.specs.declared.Declared.{Declared}
use Rattle.edl_grammar.specs.declared.TypeDecl.{TypeDecl}
use Rattle.edl_grammar.specs.declared.TypeDecl.TheVariants as decl
use Rattle.edl_layout.specs.declared.ForeignTypes.{ForeignTypes}
use Rattle.edl_layout.specs.declared.NamedShape.{NamedShape}
use Rattle.edl_layout.specs.declared.extents.Extent.{Extent}
use Rattle.edl_layout.specs.declared.extents.FieldEnds.{FieldEnds}
use Rattle.edl_layout.specs.Ends.{kept, shape_at, ends_of, ends_after}
use Rattle.edl_layout.specs.Shape.{Shape, offsets}
use Rattle.edl_layout.specs.Meaning.{Meaning, bare_meaning, HasShape}
use Rattle.edl_layout.specs.Sizes.{HasMemberShape, HasShapes}
use Rattle.edl_layout.specs.Table.{entry, offsets_within}

module _ (g : Gathered) (foreign : ForeignTypes) where
  -- ---- offsets

  -- the shape of a member, where it is told
  abbrev pub IsMemberExtent : Declared → Option Extent → Type 0
  IsMemberExtent m None = Unit {0}
  IsMemberExtent m (Some e) = HasMemberShape g foreign m (shape_at e)

  -- the member is put behind the others, at this offset
  pub record IsPut (m : Declared) (before after : FieldEnds) (o : ℕ) : Type 0 where
    pub extent : Extent
    pub shape : HasMemberShape g foreign m (shape_at extent)
    pub ends : after ≡ ends_after before (shape_at extent)
    pub offset : o ≡ kept (round_up before.end extent.align)

  -- the members are put one behind the other, at these offsets
  pub record ArePut (ms : List Declared) (e : FieldEnds) (o : List ℕ) : Type 0 where
    pub shapes : List Shape
    pub known : HasShapes g foreign ms shapes
    pub ends : e ≡ ends_of shapes
    pub at : o ≡ offsets shapes

  -- the offsets of a type's members, where it has a shape
  abbrev pub AreOffsets : TypeDecl → List ℕ → Type 0
  AreOffsets (decl.Enumeration token name values) o = o ≡ []
  AreOffsets (decl.Structure token name members) o = (ss : List Shape) × HasShapes g foreign members ss × (o ≡ offsets ss)
  AreOffsets (decl.Union token name members) o = o ≡ map (λ _. 0) members

  pub record HasOffsets (m : Meaning) (o : List ℕ) : Type 0 where
    pub depth : ℕ
    pub found : offsets_within g foreign depth m ≡ Some o

  -- ---- names

  -- the shape, or that there is none
  abbrev pub IsExtent : Meaning → Option Extent → Type 0
  IsExtent m None = (s : Shape) → HasShape g foreign m s → ⊥
  IsExtent m (Some e) = HasShape g foreign m (shape_at e)

  -- an entry tells the shape and the offsets of its name
  pub record IsEntry (name : List ℕ) (e : NamedShape) : Type 0 where
    pub shape : HasShape g foreign (bare_meaning g foreign name) (record { size = e.size; align = e.align })
    pub offsets : HasOffsets (bare_meaning g foreign name) e.offsets

  abbrev pub IsSound : List NamedShape → Type 0
  IsSound table = (name : List ℕ) (e : NamedShape) → entry table name ≡ Some e → IsEntry name e

  -- the name is there, where it has a shape
  abbrev pub Covers : List NamedShape → List ℕ → Type 0
  Covers table name = (s : Shape) → HasShape g foreign (bare_meaning g foreign name) s → (e : NamedShape) × (entry table name ≡ Some e)

  -- the table stays sound, and keeps what is there
  pub record Grows (old new : List NamedShape) : Type 0 where
    pub sound : IsSound old → IsSound new
    pub kept : (name : List ℕ) → Covers old name → Covers new name

  -- the names by which a test finds the item of this number are there
  abbrev pub CoversAt : {X : Type 0} → (List ℕ → X → Bool) → List X → ℕ → List NamedShape → Type 0
  CoversAt {X} test xs n table = (x : X) (name : List ℕ) → slice_get xs n ≡ Some x → test name x ≡ true → Covers table name

  -- and those of the items before
  abbrev pub CoversFirst : {X : Type 0} → (List ℕ → X → Bool) → List X → ℕ → List NamedShape → Type 0
  CoversFirst {X} test xs n table = (k : ℕ) (x : X) (name : List ℕ) → k < n → slice_get xs k ≡ Some x → test name x ≡ true → Covers table name
