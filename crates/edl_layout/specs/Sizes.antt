-- The sizes of types, found one after another.
use Rattle.std.specs.Prelude.{◌≡◌, ℕ, ◌+◌, ◌*◌, ◌^◌, min, max, Bool, true, false, List, [], ◌∷◌, map, length, slice_get, cond, Option, Some, None}
use Rattle.sgx_base.specs.Bytes.{round_up}
use Rattle.edl_grammar.specs.declared.Gathered.{Gathered}
use Rattle.edl_grammar.specs.declared.Declared.{Declared}
use Rattle.edl_grammar.specs.declared.Written.{Written}
use Rattle.edl_grammar.specs.Files.{TypeIn, types_of}
use Rattle.edl_layout.specs.declared.ForeignTypes.{ForeignTypes}
use Rattle.edl_layout.specs.declared.extents.Extent.{Extent}
use Rattle.edl_layout.specs.declared.sizes.Fields.{Fields}
use Rattle.edl_layout.specs.declared.sizes.TypeSize.{TypeSize}
use Rattle.edl_layout.specs.declared.sizes.TypeSize.TheVariants as size
use Rattle.edl_layout.specs.declared.sizes.Members.{Members}
use Rattle.edl_layout.specs.declared.sizes.Members.TheVariants as members
use Rattle.edl_layout.specs.Shape.{Shape, largest, elements, all_known}
use Rattle.edl_layout.specs.Ends.{shape_at, ends_of, ends_after}
use Rattle.edl_layout.specs.Faults.{HasPlainShape}
use Rattle.edl_layout.specs.Meaning.{Defined, meaning, held_by, members_of, member_shape, shape_within, HasShape, Holds}

-- ---- numbers that stand still at 2 ^ 31

-- the least size that is too large
abbrev pub cap : ℕ
cap = 2 ^ 31

-- a shape whose size is exact below the cap, and the cap where it is too large
abbrev pub capped : Shape → Shape
capped s = record { size = min s.size cap; align = s.align }

-- ---- members put together

abbrev pub with_field : Fields → Extent → Fields
with_field f e = record { ends = ends_after f.ends (shape_at e); largest = max f.largest e.size }

abbrev pub no_fields : Fields
no_fields = record { ends = ends_of []; largest = 0 }

-- the members with one more, where their sizes are known
abbrev pub with_member : Members → TypeSize → Members
with_member members.Waiting s = members.Waiting
with_member members.Unsized size.Waiting = members.Waiting
with_member members.Unsized size.Unsized = members.Unsized
with_member members.Unsized (size.Known e) = members.Unsized
with_member (members.Known f) size.Waiting = members.Waiting
with_member (members.Known f) size.Unsized = members.Unsized
with_member (members.Known f) (size.Known e) = members.Known (with_field f e)

abbrev pub capped_up : ℕ → ℕ → ℕ
capped_up n align = min (round_up n align) cap

abbrev pub structure_of : Fields → Extent
structure_of f = record { size = capped_up f.ends.end f.ends.align; align = f.ends.align }

abbrev pub union_of : Fields → Extent
union_of f = record { size = capped_up f.largest f.ends.align; align = f.ends.align }

abbrev pub array_of : Extent → List (Option ℕ) → Extent
array_of e dims = record { size = min (e.size * elements dims) cap; align = e.align }

-- the fields of these shapes
abbrev pub IsFields : List Shape → Fields → Type 0
IsFields ss f = f ≡ record { ends = ends_of (map capped ss); largest = largest (map capped ss) }

abbrev pub is_waiting : TypeSize → Bool
is_waiting size.Waiting = true
is_waiting size.Unsized = false
is_waiting (size.Known e) = false

-- how many items pass
abbrev pub count_of : {X : Type 0} → (X → Bool) → List X → ℕ
count_of p [] = 0
count_of p (x ∷ xs) = cond (p x) 1 0 + count_of p xs

abbrev pub waiting : List TypeSize → ℕ
waiting = count_of is_waiting

-- a size, unless it waits
abbrev pub unless_waiting : TypeSize → Option TypeSize
unless_waiting size.Waiting = None
unless_waiting size.Unsized = Some size.Unsized
unless_waiting (size.Known e) = Some (size.Known e)

-- the item is in the list
abbrev pub Has : {X : Type 0} → List X → X → Type 0
Has xs x = (k : ℕ) × (slice_get xs k ≡ Some x)

abbrev pub with_dims : TypeSize → List (Option ℕ) → TypeSize
with_dims size.Waiting dims = size.Waiting
with_dims size.Unsized dims = size.Unsized
with_dims (size.Known e) dims = size.Known (array_of e dims)

abbrev pub structure_size : Members → TypeSize
structure_size members.Waiting = size.Waiting
structure_size members.Unsized = size.Unsized
structure_size (members.Known f) = size.Known (structure_of f)

abbrev pub union_size : Members → TypeSize
union_size members.Waiting = size.Waiting
union_size members.Unsized = size.Unsized
union_size (members.Known f) = size.Known (union_of f)

module _ (g : Gathered) (foreign : ForeignTypes) where
  -- the type that is held by value
  abbrev pub holds_of : Written → Option TypeIn
  holds_of w = held_by (meaning g foreign w.base) w.stars

  abbrev pub shape_at_depth : ℕ → Declared → Option Shape
  shape_at_depth n = member_shape g foreign (λ b. shape_within g foreign n (meaning g foreign b))

  pub record HasMemberShape (m : Declared) (s : Shape) : Type 0 where
    pub depth : ℕ
    pub found : shape_at_depth depth m ≡ Some s

  pub record HasShapes (ms : List Declared) (ss : List Shape) : Type 0 where
    pub depth : ℕ
    pub found : all_known (map (shape_at_depth depth) ms) ≡ Some ss

  -- no walk over by-value members from this type has so many steps
  pub record IsShort (t : TypeIn) : Type 0 where
    pub steps : ℕ
    pub none : (b : TypeIn) → Holds g foreign steps t b → ⊥

  -- what is held by value leads to walks of some length at most
  abbrev pub IsDone : Written → Type 0
  IsDone w = (t : TypeIn) → holds_of w ≡ Some t → IsShort t

  -- ---- what a size says

  abbrev pub IsTypeSize : TypeIn → TypeSize → Type 0
  IsTypeSize t size.Waiting = Unit {0}
  IsTypeSize t size.Unsized = IsShort t × ((s : Shape) → HasShape g foreign (Defined t) s → ⊥)
  IsTypeSize t (size.Known e) = IsShort t × ((s : Shape) × HasShape g foreign (Defined t) s × (capped s ≡ shape_at e))

  -- it holds a type by value that has no size yet
  pub record Waits (sizes : List TypeSize) (w : Written) : Type 0 where
    pub type : TypeIn
    pub number : ℕ
    pub held : holds_of w ≡ Some type
    pub place : slice_get (types_of g) number ≡ Some type
    pub waiting : slice_get sizes number ≡ Some size.Waiting

  -- the size of what has this type, where its shape is by HasShapeOf
  abbrev pub IsSizeBy : (Shape → Type 0) → List TypeSize → Written → TypeSize → Type 0
  IsSizeBy HasShapeOf sizes w size.Waiting = Waits sizes w
  IsSizeBy HasShapeOf sizes w size.Unsized = IsDone w × ((s : Shape) → HasShapeOf s → ⊥)
  IsSizeBy HasShapeOf sizes w (size.Known e) = IsDone w × ((s : Shape) × HasShapeOf s × (capped s ≡ shape_at e))

  abbrev pub IsElementSize : List TypeSize → Written → TypeSize → Type 0
  IsElementSize sizes w = IsSizeBy (HasPlainShape g foreign w) sizes w

  abbrev pub IsMemberSize : List TypeSize → Declared → TypeSize → Type 0
  IsMemberSize sizes m = IsSizeBy (HasMemberShape m) sizes m.written

  abbrev pub AreDone : List Declared → Type 0
  AreDone ms = (m : Declared) → Has ms m → IsDone m.written

  -- some member waits
  abbrev pub SomeWaits : List TypeSize → List Declared → Type 0
  SomeWaits sizes ms = (m : Declared) × Has ms m × Waits sizes m.written

  abbrev pub AreMembers : List TypeSize → List Declared → Members → Type 0
  AreMembers sizes ms members.Waiting = SomeWaits sizes ms
  AreMembers sizes ms members.Unsized = AreDone ms × ((ss : List Shape) → HasShapes ms ss → ⊥)
  AreMembers sizes ms (members.Known f) = AreDone ms × ((ss : List Shape) × HasShapes ms ss × IsFields ss f)

  abbrev pub IsNextSize : List TypeSize → TypeIn → TypeSize → Type 0
  IsNextSize sizes t size.Waiting = SomeWaits sizes (members_of t.decl)
  IsNextSize sizes t size.Unsized = IsTypeSize t size.Unsized
  IsNextSize sizes t (size.Known e) = IsTypeSize t (size.Known e)

  -- ---- the sizes of all types

  -- each size that is told holds
  pub record AreSizes (sizes : List TypeSize) : Type 0 where
    pub count : length sizes ≡ length (types_of g)
    pub each : (i : ℕ) (t : TypeIn) (z : TypeSize) → slice_get (types_of g) i ≡ Some t → slice_get sizes i ≡ Some z → IsTypeSize t z

  -- a type that has no size yet waits for another such type
  abbrev pub WaitsFor : List TypeSize → ℕ → Type 0
  WaitsFor sizes i = (t : TypeIn) → slice_get (types_of g) i ≡ Some t → slice_get sizes i ≡ Some size.Waiting → SomeWaits sizes (members_of t.decl)

  abbrev pub AreSettled : List TypeSize → Type 0
  AreSettled sizes = (i : ℕ) → WaitsFor sizes i

  -- a size that is found for a type that had none
  pub record HasFound (sizes : List TypeSize) (i : ℕ) (z : TypeSize) : Type 0 where
    pub apart : z ≡ size.Waiting → ⊥
    pub waiting : slice_get sizes i ≡ Some size.Waiting
    pub told : (t : TypeIn) → slice_get (types_of g) i ≡ Some t → IsTypeSize t z

  abbrev pub IsFound : List TypeSize → ℕ → Option TypeSize → Type 0
  IsFound sizes i None = WaitsFor sizes i
  IsFound sizes i (Some z) = HasFound sizes i z
