-- Fields of a marshalling structure, as they are put one behind the other.
use Rattle.std.specs.Prelude.{◌≡◌, ◌≤◌, ◌<◌, ℕ, ◌*◌, Bool, true, false, List, fold, Option, Some, None, option_map}
use Rattle.edl_grammar.specs.declared.Gathered.{Gathered}
use Rattle.edl_grammar.specs.declared.Declared.{Declared}
use Rattle.edl_grammar.specs.Files.{FunctionIn}
use Rattle.edl_layout.specs.declared.ForeignTypes.{ForeignTypes}
use Rattle.edl_layout.specs.declared.extents.Extent.{Extent}
use Rattle.edl_layout.specs.declared.extents.FieldEnds.{FieldEnds}
use Rattle.edl_layout.specs.declared.types.Meant.{Meant}
use Rattle.edl_layout.specs.declared.types.Meant.TheVariants as meant
use Rattle.edl_layout.specs.Shape.{Shape, elements, all_known}
use Rattle.edl_layout.specs.Ends.{ends_after}
use Rattle.edl_layout.specs.Frame.{is_array}
use Rattle.edl_layout.specs.Settled.{Settles}
use Rattle.edl_layout.specs.Faults.{max_size, max_frame, HasLength, LengthFits, HasFrame}

-- the size and the alignment, where they are known
abbrev pub known_of : Meant → Option Extent
known_of meant.Void = None
known_of (meant.Known e) = Some e
known_of meant.Unsized = None
known_of meant.Undeclared = None

abbrev pub is_none_of : Meant → Bool
is_none_of meant.Void = false
is_none_of (meant.Known e) = false
is_none_of meant.Unsized = false
is_none_of meant.Undeclared = true

-- The ends are those after fields whose shapes are known from some depth on, or None where one of them is known at no depth.
pub record Pushes (fields : ℕ → List (Option Shape)) (before : FieldEnds) (after : Option FieldEnds) : Type 0 where
  pub shapes : Option (List Shape)
  pub settled : Settles (λ n. all_known (fields n)) shapes
  pub ends : after ≡ option_map (fold ends_after before) shapes

module _ (g : Gathered) (foreign : ForeignTypes) where
  -- its element counts as so many bytes
  pub record IsElement (p : Declared) (size : ℕ) : Type 0 where
    pub some : HasLength g foreign p (size * elements p.dims)
    pub only : (n : ℕ) → HasLength g foreign p n → n ≡ size * elements p.dims

  -- whether an array is too long
  abbrev pub IsLengthTest : Declared → Bool → Type 0
  IsLengthTest p true = (n : ℕ) × HasLength g foreign p n × (max_size < n)
  IsLengthTest p false = LengthFits g foreign p

  -- whether it is an array that is too long
  abbrev pub IsArrayTest : Declared → Bool → Type 0
  IsArrayTest p true = (is_array p ≡ true) × IsLengthTest p true
  IsArrayTest p false = is_array p ≡ true → LengthFits g foreign p

  -- whether a frame is known and too large
  abbrev pub IsFrameTest : FunctionIn → Bool → Type 0
  IsFrameTest f true = (s : Shape) × HasFrame g foreign f s × (max_frame < s.size)
  IsFrameTest f false = (s : Shape) → HasFrame g foreign f s → s.size ≤ max_frame
