use denote.Builtin.{u8, RawPtr, usize}
use denote.Param.Send.{IsSync, array_sync, struct_sync, sendable}
use denote.RawPtr.{Ptr, block_ptr, null_ptr, block_of, count_of, in_block}
use base.Fml.{ftrue}
use base.Shift.{Keyless}
use denote.Struct.Owning.{shape, to}
use Rattle.enclave_memory.specs.contracts.region.Region as C

u8-sync : IsSync u8
u8-sync = search sendable

pointer : IsSync RawPtr
pointer = search sendable

word : IsSync usize
word = search sendable

inside : (p : Ptr) → Keyless (in_block p ftrue)
inside (block_ptr b o) = tt
inside null_ptr = tt

pub sync : IsSync C.the_row
sync = record {
  shared = λ r b o κ. (
    (struct_sync (shape C.the_type) (pointer, (word, tt))).shared (to C.the_type r) b o κ,
    (inside r.at, (array_sync u8 r.size u8-sync).shared r.bytes (block_of r.at) (count_of r.at) κ),
  );
}
