-- A `&` to a region lends its bytes.
use denote.Array.{Array, Array-row_laws}
use denote.Builtin.{u8}
use denote.Param.Shared.{copy_shared}
use denote.Plain.{uint_row_laws}
use denote.RawPtr.{lies_at}
use denote.Shares.{Shares-Array}
use denote.Struct.Field.{RawPtr-field, usize-field, u8-field}
use denote.Struct.Laws.{RawPtr-copy, usize-copy, u8-copy}
use denote.Struct.Lending.{lent_at, lent_at_shr_laws, Lends-lies, Lends-first, of_Lends}
use base.Fraction.{full_share}
use mir.Syntax.{w8}
use Rattle.enclave_memory.specs.Region.{block_of, right_to_free}
use Rattle.enclave_memory.specs.contracts.region.Region as C
use Rattle.enclave_memory.proofs.region.Region.TheLaw.Statement.{statement}

pub shares : statement
shares =
    of_Lends C.struct C.the_codes C.the_heap C.the_lent (λ d p. lent_at_shr_laws (Array u8 d.size) (Array-row_laws u8 (uint_row_laws w8) d.size) d.at d.bytes)
    (copy_shared RawPtr-field RawPtr-copy, (copy_shared usize-field usize-copy, tt)) (λ M 𝓤 𝓛 d p.
    let l = C.the_row.lives in
    Lends-first 𝓛 (lies_at (Array u8 d.size) full_share d.at d.bytes) (right_to_free (block_of d.size) d.at) (lent_at (Array u8 d.size) d.at d.bytes) l
    (Lends-lies 𝓛 (Array u8 d.size) l d.at d.bytes (Shares-Array 𝓛 u8 tt d.size l ((copy_shared u8-field u8-copy).shares M 𝓤 𝓛) d.bytes)))
