-- What the engine rests on in an interface that is accepted for a run, beside that it is sound.
use Rattle.std.specs.Prelude.{◌≡◌, ℕ, ◌+◌, ◌≤◌, ◌⊎◌, ◌&&◌, Bool, true, false, if◌then◌else◌, All}
use Rattle.edl_interface.specs.declared.Interface.{Interface}
use Rattle.edl_interface.specs.declared.Function.{Function}
use Rattle.edl_interface.specs.declared.Param.{Param}
use Rattle.edl_interface.specs.declared.Class.{Class}
use Rattle.edl_interface.specs.declared.Class.TheVariants.{Text, Foreign}
use Rattle.edl_interface.specs.Parameters.{field_size, has_frame, is_text, return_size}

-- the end of a parameter's field, and in the structure of an ECALL of the length that follows a string's
abbrev pub field_end : Bool → Param → ℕ
field_end is_ecall p = p.offset + field_size p.class + (if is_ecall && is_text p.class then 8 else 0)

-- a class that a run passes: no value of a foreign pointer or array type, and the units of strings are narrow or wide
abbrev pub IsPassed : Class → Type 0
IsPassed (Foreign way) = ⊥
IsPassed (Text way unit) = (unit ≡ 1) ⊎ (unit ≡ 4)
IsPassed _ = Unit {0}

-- the fields lie within the frame, the return is a number or opaque bytes of at most 8, and what has no frame has no bytes of one
pub record IsRunnableFunction (is_ecall : Bool) (f : Function) : Type 0 where
  pub classes : All (λ p. IsPassed p.class) f.params
  pub fields : All (λ p. field_end is_ecall p ≤ f.frame_size) f.params
  pub returns : return_size f ≤ 8
  pub return_fits : return_size f ≤ f.frame_size
  pub no_frame : has_frame f ≡ false → f.frame_size ≡ 0

pub record IsRunnable (i : Interface) : Type 0 where
  pub ecalls : All (IsRunnableFunction true) i.ecalls
  pub ocalls : All (IsRunnableFunction false) i.ocalls
