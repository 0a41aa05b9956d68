use base.Fraction.{full_share}
use base.Shift.{Keyless}
use Prim.Native.Nat.{ℕ}
use mathlib.Core.List.{List}
use denote.Array.{Array}
use denote.Builtin.{u8}
use denote.Param.Send.{IsSend, part_keyless, array_send, owning_send, sendable}
use denote.RawPtr.{Ptr, block_ptr, null_ptr, lies_at}
use denote.Builtin.{RawPtr, usize}
use Rattle.std.proofs.Crossing.{frees}
use Rattle.enclave_memory.specs.Region.{block_of, heap}
use Rattle.enclave_memory.specs.contracts.region.Region as C

u8-send : IsSend u8
u8-send = search sendable

pointer : IsSend RawPtr
pointer = search sendable

word : IsSend usize
word = search sendable

lies : (p : Ptr) (n : ℕ) (bytes : List ℕ) → Keyless (lies_at (Array u8 n) full_share p bytes)
lies (block_ptr b o) n bytes = part_keyless (Array u8 n) (array_send u8 n u8-send) full_share bytes b o
lies null_ptr n bytes = tt

pub send : IsSend C.the_row
send = owning_send C.the_type (pointer, (word, tt)) (λ r. (lies r.at r.size r.bytes, frees.frees heap (block_of r.size) r.at)) (λ k x w. tt)
