-- Numbers that are read from what steps put have room.
use Rattle.std.proofs.Common.{ℕ, ◌≡◌, ◌%◌, ◌<◌, ◌≤◌, ◌^◌, List, [], ◌∷◌, length, drop, map, All, ap, sym, ◌∙◌, subst, arith}
use Rattle.std.proofs.lemmas.Nat.{mod_below}
use Rattle.std.proofs.lemmas.List.{length-map, drop-map}
use Rattle.std.proofs.lemmas.List.Elements.{All-nil, All-cons}
use Rattle.sgx_base.specs.Bytes.{little_endian}
use Rattle.sgx_base.proofs.LittleEndian.{little_endian_has_room}
use Rattle.word_port.specs.declared.Step.{Step}
use Rattle.call_report.specs.Report.{put_bytes}

-- what steps put are bytes
are_bytes : (steps : List Step) → All (λ b. b < 256) (put_bytes steps)
are_bytes [] = All-nil (λ b. b < 256)
are_bytes (s ∷ steps) = All-cons (λ b. b < 256) (s.first % 256) (put_bytes steps) (mod_below s.first 256 (omega arith)) (are_bytes steps)

-- there is room for one byte more
pub has_room : (steps : List Step) (i n : ℕ) → n ≡ little_endian (put_bytes (drop i steps)) → length steps ≤ 8 → 0 < i → n < 2 ^ 56
has_room steps i n e short some =
    let few : length (put_bytes steps) ≤ 8 = omega (arith, short, length-map steps (λ s. s.first % 256)) in
    let below : little_endian (drop i (put_bytes steps)) < 2 ^ 56 = little_endian_has_room (put_bytes steps) i (are_bytes steps) few some in
    let same : little_endian (drop i (put_bytes steps)) ≡ n = ap little_endian (drop-map (λ s. s.first % 256) i steps) ∙ sym e in
    omega (arith, below, same)
