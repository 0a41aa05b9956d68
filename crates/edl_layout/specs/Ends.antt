-- Fields that are put one behind the other, in numbers that stand still at 2 ^ 64 - 1.
use Rattle.std.specs.Prelude.{ℕ, ◌+◌, ◌-◌, ◌^◌, min, max, List}
use Rattle.sgx_base.specs.Bytes.{round_up}
use Rattle.edl_layout.specs.declared.extents.Extent.{Extent}
use Rattle.edl_layout.specs.declared.extents.FieldEnds.{FieldEnds}
use Rattle.edl_layout.specs.Shape.{Shape, align_of, end_of}

-- a number, or the largest one of 64 bits where it is above it
abbrev pub kept : ℕ → ℕ
kept n = min n (2 ^ 64 - 1)

abbrev pub shape_at : Extent → Shape
shape_at e = record { size = e.size; align = e.align }

-- the ends of these fields
abbrev pub ends_of : List Shape → FieldEnds
ends_of ss = record { end = kept (end_of 0 ss); align = align_of ss }

-- the ends with one field more
abbrev pub ends_after : FieldEnds → Shape → FieldEnds
ends_after e s = record { end = kept (round_up e.end s.align + s.size); align = max e.align s.align }
