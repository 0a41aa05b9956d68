-- Where an answered ECALL stores.
use Rattle.std.specs.Prelude.{ℕ, ◌≡◌, ◌⊎◌, true, List, Option, Some, slice_get}
use Rattle.sgx_base.specs.Ranges.{IsInRange}
use Rattle.edl_interface.specs.declared.Function.{Function}
use Rattle.edl_interface.specs.declared.Param.{Param}
use Rattle.edl_interface.specs.Parameters.{marshalled, is_out, address_in, return_size}
use Rattle.edl_interface.specs.Lengths.{length_in}
use Rattle.word_port.specs.declared.Step.{Step}
use Rattle.word_port.specs.Accesses.{word_at}

-- the index is that of the word of an address in this range
abbrev pub IsWordIn : ℕ → ℕ → ℕ → Type 0
IsWordIn address count index = (x : ℕ) × IsInRange address count x × (index ≡ word_at x)

-- the index is in the range of an `out` parameter that has a block: at its address and of its length by the frame's one copy
pub record IsInParam (f : Function) (frame : List ℕ) (params : List Param) (blocks : List (Option (List ℕ))) (index : ℕ) : Type 0 where
  pub place : ℕ
  pub param : Param
  pub found : slice_get params place ≡ Some param
  pub block : List ℕ
  pub has_block : slice_get blocks place ≡ Some (Some block)
  pub is_back : is_out param.class ≡ true
  pub within : IsWordIn (address_in frame param) (length_in f frame param) index

-- the step is on the return's field, or in the range of an `out` parameter that has a block
abbrev pub IsInAnswer : Function → List ℕ → ℕ → List (Option (List ℕ)) → Step → Type 0
IsInAnswer f frame address blocks s = IsWordIn address (return_size f) s.index ⊎ IsInParam f frame (marshalled f) blocks s.index
