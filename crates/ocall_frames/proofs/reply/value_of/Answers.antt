use Rattle.std.proofs.Common.{ℕ, zero, suc, ◌≡◌, ◌*◌, ◌^◌, ◌<◌, ◌≤◌, Fits, w8, List, [], ◌∷◌, length, arith, get_or, ap, ◌∙◌}
use Rattle.std.proofs.Math.Nat.{mul-suc}
use Rattle.std.proofs.lemmas.Nat.{pow-add, pow_pos}
use Rattle.sgx_base.specs.Bytes.{little_endian}
use Rattle.ocall_frames.proofs.reply.value_of.Goals as goal

-- so many bytes are a number of so many bytes
little_endian_bound : (bytes : List ℕ) → ((i : ℕ) → Fits w8 (get_or bytes i 0)) → (n : ℕ) → length bytes ≤ n → little_endian bytes < 2 ^ (8 * n)
little_endian_bound [] h n few = pow_pos (8 * n)
little_endian_bound (b ∷ bytes) h zero few = absurd (omega arith)
little_endian_bound (b ∷ bytes) h (suc n) few =
    let rest : little_endian bytes < 2 ^ (8 * n) = little_endian_bound bytes (λ i. h (suc i)) n (omega arith) in
    let first : Fits w8 b = h 0 in
    let here : b < 256 = omega arith in
    let all : 2 ^ (8 * suc n) ≡ 2 ^ (8 * n) * 256 = ap (λ k. 2 ^ k) (mul-suc 8 n) ∙ pow-add 2 (8 * n) 8 in
    rw all (omega (arith, rest, here))

pub extended-requires-clause-fits : goal.extended-requires-clause-fits
extended-requires-clause-fits c = rw c.read_little_endian.ensures (little_endian_bound c.args.bytes.now c.type_inv.bytes c.args.plain.size c.requires.field)
