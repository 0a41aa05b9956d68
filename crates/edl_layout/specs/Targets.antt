-- What a written type is without its stars.
use Rattle.std.specs.Prelude.{◌≡◌, ℕ, ◌≤◌, find, slice_get, Option, Some, None, option_map, List}
use Rattle.std.specs.Str.{bytes_eq}
use Rattle.edl_grammar.specs.Files.{TypeIn}
use Rattle.edl_layout.specs.declared.tables.Target.{Target}
use Rattle.edl_layout.specs.declared.tables.Target.TheVariants.{Void, Fixed, Unsized, Declared}
use Rattle.edl_layout.specs.declared.tables.Target.TheVariants as targets
use Rattle.edl_layout.specs.Shape.{Shape, square}
use Rattle.edl_layout.specs.Ends.{shape_at}
use Rattle.edl_layout.specs.Meaning.{Meaning, Empty, Real, Integer, Defined, Foreign, Opaque, Undeclared, standard_types}

-- the size of the standard type of this name
abbrev pub standard_size : List ℕ → Option ℕ
standard_size name = option_map (λ s. s.size) (find (λ s. bytes_eq s.name name) standard_types)

-- the shape of a type that is not declared here
abbrev pub fixed_shape : Meaning → Option Shape
fixed_shape (Real size) = Some (square size)
fixed_shape (Integer size signed) = Some (square size)
fixed_shape (Foreign s) = Some s
fixed_shape _ = None

-- the type has this number among the declared ones, and none before it is the same
abbrev pub IsNumber : List TypeIn → TypeIn → ℕ → Type 0
IsNumber ts t i = (slice_get ts i ≡ Some t) × ((k : ℕ) → slice_get ts k ≡ Some t → i ≤ k)

-- the meaning is told
abbrev pub IsTarget : List TypeIn → Meaning → Target → Type 0
IsTarget ts m Void = m ≡ Empty
IsTarget ts m (Fixed e) = fixed_shape m ≡ Some (shape_at e)
IsTarget ts m Unsized = m ≡ Opaque
IsTarget ts m targets.Undeclared = m ≡ Undeclared
IsTarget ts m (Declared i) = (t : TypeIn) × (m ≡ Defined t) × IsNumber ts t i

-- the number of the type that is held
abbrev pub IsHeld : List TypeIn → Option TypeIn → Option ℕ → Type 0
IsHeld ts o None = o ≡ None
IsHeld ts o (Some i) = (t : TypeIn) × (o ≡ Some t) × IsNumber ts t i
