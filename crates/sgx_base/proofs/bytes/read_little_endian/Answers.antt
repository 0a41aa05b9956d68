use Rattle.std.proofs.Common.{ℕ, ◌<◌, ◌^◌, ◌-◌, ◌≤◌, List, length, drop, get_or, arith, Fits, w8}
use Rattle.std.proofs.lemmas.List.Elements.{All-from_get_or}
use Rattle.sgx_base.specs.Bytes.{little_endian}
use Rattle.sgx_base.proofs.LittleEndian.{little_endian_has_room}
use Rattle.sgx_base.proofs.bytes.read_little_endian.Goals as goal

room : (bytes : List ℕ) (i : ℕ) → ((k : ℕ) → Fits w8 (get_or bytes k 0)) → length bytes ≤ 8 → 0 < i → little_endian (drop i bytes) < 2 ^ 56
room bytes i fits short some =
    little_endian_has_room bytes i (All-from_get_or (λ b. b < 256) bytes 0 (λ k _. omega (arith, fits k))) short some

pub overflow_mul-number : goal.overflow_mul-number
overflow_mul-number c =
    let h : c.loop-i.number < 2 ^ 56 = rw c.loop-i.invariant (room c.args.bytes.now c.loop-i.i c.type_inv.bytes c.requires c.loop-i-test.true) in
    omega (arith, h)

pub overflow_add-number : goal.overflow_add-number
overflow_add-number c =
    let h : c.loop-i.number < 2 ^ 56 = rw c.loop-i.invariant (room c.args.bytes.now c.loop-i.i c.type_inv.bytes c.requires c.loop-i-test.true) in
    omega (arith, h, c.from.ensures, c.type_inv.bytes (c.loop-i.i - 1))
