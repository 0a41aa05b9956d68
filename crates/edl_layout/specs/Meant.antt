-- What a written type means for the size of what has it.
use Rattle.std.specs.Prelude.{◌≡◌, false}
use Rattle.edl_grammar.specs.declared.Gathered.{Gathered}
use Rattle.edl_grammar.specs.declared.Base.{Base}
use Rattle.edl_layout.specs.declared.ForeignTypes.{ForeignTypes}
use Rattle.edl_layout.specs.declared.types.Meant.{Meant}
use Rattle.edl_layout.specs.declared.types.Meant.TheVariants as meant
use Rattle.edl_layout.specs.Shape.{Shape}
use Rattle.edl_layout.specs.Ends.{shape_at}
use Rattle.edl_layout.specs.Meaning.{Empty, Undeclared, meaning, HasShape}
use Rattle.edl_layout.specs.Faults.{is_undeclared}
use Rattle.edl_layout.specs.Frame.{is_void}

module _ (g : Gathered) (foreign : ForeignTypes) where
  abbrev pub IsMeant : Base → Meant → Type 0
  IsMeant base meant.Void = meaning g foreign base ≡ Empty
  IsMeant base (meant.Known e) = HasShape g foreign (meaning g foreign base) (shape_at e)
  IsMeant base meant.Unsized =
      ((s : Shape) → HasShape g foreign (meaning g foreign base) s → ⊥) × (is_undeclared (meaning g foreign base) ≡ false) × (is_void base ≡ false)
  IsMeant base meant.Undeclared = meaning g foreign base ≡ Undeclared
