-- How the parameters of an ECALL are copied in: from the addresses and at the lengths in the one copy of its frame.
use Rattle.std.specs.Prelude.{ℕ, ◌≡◌, ◌-◌, List, [], ◌∷◌, ◌++◌, length, Option, Some, None, Ok}
use Rattle.sgx_base.specs.Bytes.{rounded_size}
use Rattle.sgx_base.specs.Rows.{first_row}
use Rattle.edl_interface.specs.declared.Function.{Function}
use Rattle.edl_interface.specs.declared.Param.{Param}
use Rattle.edl_interface.specs.Parameters.{is_in, address_in}
use Rattle.edl_interface.specs.Lengths.{length_in, copied_length}
use Rattle.word_port.specs.Events.{Event}
use Rattle.call_copy.specs.Copies.{block_rows, checked_bytes}
use Rattle.call_machine.specs.Ecall.{shape_of}
use Rattle.call_laws.specs.Transfers.{AreFirstBytes}

-- a parameter has this block: its pointer and its length are not 0, no row refuses it, and its bytes were loaded by these events where it is copied in; a string has its last unit set to 0
pub record IsCopiedIn (f : Function) (frame : List ℕ) (room : ℕ) (p : Param) (events : List Event) (block : List ℕ) : Type 0 where
  pub has_block : ¬ (copied_length f frame p ≡ 0)
  pub allowed : first_row (block_rows (shape_of p.class) (length_in f frame p) room) ≡ None
  pub bytes : List ℕ
  pub whole : length bytes ≡ length_in f frame p
  pub first : AreFirstBytes (is_in p.class) (address_in frame p) bytes events
  pub checked : checked_bytes (shape_of p.class) bytes ≡ Ok block

-- the room that these blocks leave
abbrev pub room_after : ℕ → List (Option (List ℕ)) → ℕ
room_after room [] = room
room_after room (None ∷ blocks) = room_after room blocks
room_after room (Some block ∷ blocks) = room_after (room - rounded_size (length block)) blocks

-- these events copied the parameters in, one wholly before the next, into these blocks; one whose pointer is null or whose length is 0 has no block and no event
abbrev pub AreCopiedIn : Function → List ℕ → ℕ → List Param → List Event → List (Option (List ℕ)) → Type 0
AreCopiedIn f frame room [] events [] = events ≡ []
AreCopiedIn f frame room (p ∷ params) events (None ∷ blocks) = (copied_length f frame p ≡ 0) × AreCopiedIn f frame room params events blocks
AreCopiedIn f frame room (p ∷ params) events (Some block ∷ blocks) =
    (first : List Event) × (rest : List Event) × (events ≡ first ++ rest) × IsCopiedIn f frame room p first block
    × AreCopiedIn f frame (room - rounded_size (length block)) params rest blocks
AreCopiedIn f frame room _ events _ = ⊥
