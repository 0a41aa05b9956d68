-- What the layers above may rest on in an interface that was accepted.
use Rattle.std.specs.Prelude.{◌≡◌, ℕ, ◌≤◌, ◌<◌, true, List, length, All, slice_get, Some}
use Rattle.edl_interface.specs.declared.Interface.{Interface}
use Rattle.edl_interface.specs.declared.Function.{Function}
use Rattle.edl_interface.specs.declared.Param.{Param}
use Rattle.edl_interface.specs.declared.Class.{Class}
use Rattle.edl_interface.specs.declared.Class.TheVariants as class
use Rattle.edl_interface.specs.declared.Plain.{Plain}
use Rattle.edl_interface.specs.Parameters.{IsWordSized}
use Rattle.edl_interface.specs.declared.Amount.{Amount}
use Rattle.edl_interface.specs.declared.Amount.TheVariants as amount

-- a named parameter is a plain integer of the same function
abbrev pub IsIntegerAt : List Param → ℕ → Type 0
IsIntegerAt ps n = (p : Param) × (plain : Plain) × (slice_get ps n ≡ Some p) × (p.class ≡ class.Plain plain) × (plain.integer ≡ true)

abbrev pub IsSoundAmount : List Param → Amount → Type 0
IsSoundAmount ps (amount.Number n) = Unit {0}
IsSoundAmount ps (amount.Param n) = IsIntegerAt ps n

abbrev pub IsSoundClass : List Param → Class → Type 0
IsSoundClass ps (class.Buffer way size count unit) = IsSoundAmount ps size × IsSoundAmount ps count
IsSoundClass ps _ = Unit {0}

pub record IsSoundFunction (entries : ℕ) (f : Function) : Type 0 where
  pub amounts : All (λ p. IsSoundClass f.params p.class) f.params
  pub words : All (λ p. IsWordSized p.class) f.params
  pub params : length f.params ≤ 64
  pub allow : All (λ ordinal. ordinal < entries) f.allow
  pub frame : f.frame_size ≤ 1024

pub record IsSound (i : Interface) : Type 0 where
  pub ecalls : All (IsSoundFunction (length i.ecalls)) i.ecalls
  pub ocalls : All (IsSoundFunction (length i.ecalls)) i.ocalls
  pub few_ecalls : length i.ecalls ≤ 1024
  pub few_ocalls : length i.ocalls ≤ 1024
