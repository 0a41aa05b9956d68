-- The rows that refuse an entry by its frame's address and fields, behind those by table and stack: the status is that of
-- the first row that holds.
use Rattle.std.specs.Prelude.{ℕ, ◌≡◌, ◌^◌, Bool, not, ◌&&◌, ◌||◌, ◌==◌, nat_lt, List, [], ◌∷◌, Ok}
use Rattle.std.specs.List.{list_any}
use Rattle.sgx_base.specs.Ranges.{is_host_range}
use Rattle.sgx_base.specs.Rows.{Row, first_row, unless_refused}
use Rattle.sgx_base.specs.declared.TheConstants.Status.{INVALID_PARAMETER}
use Rattle.edl_interface.specs.declared.Function.{Function}
use Rattle.edl_interface.specs.declared.Param.{Param}
use Rattle.edl_interface.specs.Parameters.{marshalled, has_frame, address_in}
use Rattle.edl_interface.specs.Lengths.{length_in}

-- by the frame's address, in a host memory of so many bytes
abbrev pub frame_rows : ℕ → Function → ℕ → List Row
frame_rows host f address =
    record { holds = not (has_frame f) && not (address == 0); status = INVALID_PARAMETER }
    ∷ record { holds = has_frame f && (address == 0 || not (is_host_range host address f.frame_size)); status = INVALID_PARAMETER }
    ∷ []

-- whether a parameter's length is above 2^64 - 1
abbrev pub is_overlong : Function → List ℕ → Param → Bool
is_overlong f frame p = not (nat_lt (length_in f frame p) (2 ^ 64))

-- whether a parameter's pointer is not null, and its range is not one of a host memory of so many bytes
abbrev pub is_off_host : ℕ → Function → List ℕ → Param → Bool
is_off_host host f frame p = not (address_in frame p == 0) && not (is_host_range host (address_in frame p) (length_in f frame p))

-- by the fields of the frame's one copy
abbrev pub field_rows : ℕ → Function → List ℕ → List Row
field_rows host f frame =
    record { holds = list_any (is_overlong f frame) (marshalled f); status = INVALID_PARAMETER }
    ∷ record { holds = list_any (is_off_host host f frame) (marshalled f); status = INVALID_PARAMETER }
    ∷ []

-- no row for the fields refuses
abbrev pub AreAllowed : ℕ → Function → List ℕ → Type 0
AreAllowed host f frame = unless_refused (first_row (field_rows host f frame)) ≡ Ok tt
