-- What is told of the types one after another.
use Rattle.std.specs.Prelude.{◌≡◌, ◌<◌, ℕ, Bool, true, false, nat_le, List, All, slice_get, Option, Some, None, Result, Ok, Err}
use Rattle.edl_grammar.specs.declared.Gathered.{Gathered}
use Rattle.edl_grammar.specs.Files.{TypeIn, types_of}
use Rattle.edl_layout.specs.declared.ForeignTypes.{ForeignTypes}
use Rattle.edl_layout.specs.declared.LayoutFault.{LayoutFault}
use Rattle.edl_layout.specs.declared.LayoutFault.TheVariants.{Memory}
use Rattle.edl_layout.specs.declared.NamedShape.{NamedShape}
use Rattle.edl_layout.specs.declared.sizes.TypeSize.{TypeSize}
use Rattle.edl_layout.specs.declared.sizes.TypeSize.TheVariants as size
use Rattle.edl_layout.specs.declared.tables.Declarations.{Declarations}
use Rattle.edl_layout.specs.declared.types.Meant.{Meant}
use Rattle.edl_layout.specs.declared.types.Meant.TheVariants as meant
use Rattle.edl_layout.specs.Meaning.{HoldsItself}
use Rattle.edl_layout.specs.Faults.{IsCleanType, TypeFault, HasLayouts, HasLayoutFault}
use Rattle.edl_layout.specs.Table.{IsTable}
use Rattle.edl_layout.specs.Named.{IsDeclarations}
use Rattle.edl_layout.specs.Sizes.{cap, AreSizes, AreSettled}

abbrev pub is_large : TypeSize → Bool
is_large size.Waiting = false
is_large size.Unsized = false
is_large (size.Known e) = nat_le cap e.size

-- what a declared type of this size means
abbrev pub meant_by : TypeSize → Meant
meant_by size.Waiting = meant.Unsized
meant_by size.Unsized = meant.Unsized
meant_by (size.Known e) = meant.Known e

module _ (g : Gathered) (foreign : ForeignTypes) where
  -- what holds of the type of a number
  abbrev pub At : (TypeIn → Type 0) → ℕ → Type 0
  At P n = (t : TypeIn) → slice_get (types_of g) n ≡ Some t → P t

  abbrev pub Below : (TypeIn → Type 0) → ℕ → Type 0
  Below P n = (k : ℕ) → k < n → At P k

  abbrev pub IsApart : TypeIn → Type 0
  IsApart t = HoldsItself g foreign t → ⊥

  -- whether the type of a number holds itself
  abbrev pub TellsItself : ℕ → Bool → Type 0
  TellsItself n true = At (HoldsItself g foreign) n
  TellsItself n false = At IsApart n

  -- the fault of the type of a number, where it has one
  abbrev pub IsTypeFault : ℕ → Option LayoutFault → Type 0
  IsTypeFault n None = At (IsCleanType g foreign) n
  IsTypeFault n (Some e) = At (λ t. TypeFault g foreign t e) n

-- the sizes are those of the types in the tables, and the types are clean
pub record AreTypes (tables : Declarations) (sizes : List TypeSize) : Type 0 where
  pub made : IsDeclarations tables
  pub sound : AreSizes tables.gathered.now tables.foreign.now sizes
  pub settled : AreSettled tables.gathered.now tables.foreign.now sizes
  pub clean : All (IsCleanType tables.gathered.now tables.foreign.now) (types_of tables.gathered.now)

-- the layouts, or the first fault
abbrev pub HasAnswer : Gathered → ForeignTypes → Result (List NamedShape) LayoutFault → Type 0
HasAnswer g foreign (Ok l) = HasLayouts g foreign × IsTable g foreign l
HasAnswer g foreign (Err e) = (e ≡ Memory → ⊥) → HasLayoutFault g foreign e
