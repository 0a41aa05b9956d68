-- The foreign types with which files are read for a run.
use Rattle.std.specs.Prelude.{◌≡◌, ◌<◌, false, All}
use Rattle.edl_layout.specs.declared.ForeignTypes.{ForeignTypes}

-- no foreign type is of unknown size, and each has an alignment
pub record AreKnown (foreign : ForeignTypes) : Type 0 where
  pub strict : foreign.lenient ≡ false
  pub aligned : All (λ t. 0 < t.align) foreign.types
