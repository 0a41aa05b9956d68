-- What an ECALL changes: its return and its `out` ranges, and nothing else.
use Rattle.std.specs.Prelude.{ℕ, ◌≡◌, ◌⊎◌, if◌then◌else◌, List, [], ◌∷◌, length, zip, Option, Some, None, slice_get}
use Rattle.std.specs.List.{AllByRecursion}
use Rattle.sgx_base.specs.Bytes.{low_bytes}
use Rattle.edl_interface.specs.declared.Function.{Function}
use Rattle.edl_interface.specs.declared.Param.{Param}
use Rattle.edl_interface.specs.Parameters.{marshalled, is_out, address_in, return_size}
use Rattle.word_port.specs.Events.{Event}
use Rattle.call_copy.specs.Copies.{bytes_back}
use Rattle.call_machine.specs.declared.Machine.{Machine}
use Rattle.call_machine.specs.Context.{Context}
use Rattle.call_machine.specs.Ecall.{Ocalls, shape_of}
use Rattle.call_laws.specs.Within.{IsWordIn, IsInParam}
use Rattle.call_laws.specs.Undisturbed.{AreAt, words_at_end, IsUndisturbedRun, IsDirectCall}

-- a part of an answer: its bytes, and the address that they are written at
pub record Part : Type 0 where
  pub address : ℕ
  pub bytes : List ℕ

-- the parts of the `out` parameters that have a block, in order: all its bytes, or a string, its last unit set to 0, up to its first unit 0 and with it
abbrev pub out_parts : List ℕ → List (Param × Option (List ℕ)) → List Part
out_parts frame [] = []
out_parts frame ((p, None) ∷ rest) = out_parts frame rest
out_parts frame ((p, Some block) ∷ rest) =
    if is_out p.class then record { address = address_in frame p; bytes = bytes_back (shape_of p.class) block } ∷ out_parts frame rest
    else out_parts frame rest

-- the parts of an answer: the return, and then the `out` parameters
abbrev pub parts_of : Function → ℕ → List ℕ → ℕ → List (Option (List ℕ)) → List Part
parts_of f address frame value blocks =
    record { address = address; bytes = low_bytes (return_size f) value } ∷ out_parts frame (zip (marshalled f) blocks)

-- the word is in this part
abbrev pub IsInPart : ℕ → Part → Type 0
IsInPart index part = IsWordIn part.address (length part.bytes) index

-- no word is in both
abbrev pub IsApart : Part → Part → Type 0
IsApart one other = (index : ℕ) → IsInPart index one → ¬ IsInPart index other

-- no two of them overlap
abbrev pub AreApart : List Part → Type 0
AreApart [] = Unit {0}
AreApart (part ∷ parts) = AllByRecursion (IsApart part) parts × AreApart parts

-- the words have the bytes of each part, at its address
abbrev pub Stand : List ℕ → List Part → Type 0
Stand words parts = AllByRecursion (λ part. AreAt words part.address part.bytes) parts

-- the word is in the return's field, or in the range of an `out` parameter that has a block
abbrev pub IsInAnswerRange : Function → ℕ → List ℕ → List (Option (List ℕ)) → ℕ → Type 0
IsInAnswerRange f address frame copies index = IsWordIn address (return_size f) index ⊎ IsInParam f frame (marshalled f) copies index

-- each word outside the answer's ranges is as it was, and where no two parts of the answer overlap, each stands in the words
pub record IsExactChange (f : Function) (address : ℕ) (frame : List ℕ) (copies : List (Option (List ℕ))) (value : ℕ) (blocks : List (Option (List ℕ)))
    (before after : List ℕ) : Type 0 where
  pub others : (index : ℕ) → ¬ IsInAnswerRange f address frame copies index → slice_get after index ≡ slice_get before index
  pub stand : AreApart (parts_of f address frame value blocks) → Stand after (parts_of f address frame value blocks)

-- it passes by copy, and changes the words after its body so
pub record ChangesItsAnswer (m : Machine) (ocalls : Ocalls) (cx : Context) (ordinal address : ℕ) (words : List ℕ) (events : List Event) : Type 0 where
  pub run : IsUndisturbedRun m ocalls cx ordinal address words events
  pub change : IsExactChange run.function address run.frame run.copies.blocks run.finished.value run.finished.blocks
      (words_at_end words run.running) (words_at_end words events)

-- it is a direct call on the words, and changes them so
pub record ChangesItsAnswerAlone (m : Machine) (cx : Context) (ordinal address : ℕ) (words : List ℕ) (events : List Event) : Type 0 where
  pub call : IsDirectCall m cx ordinal address words events
  pub change : IsExactChange call.function address call.frame call.copies.blocks call.value call.blocks words (words_at_end words events)
