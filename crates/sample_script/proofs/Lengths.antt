-- A sample's script is no longer than a file may be.
use Rattle.std.proofs.Common.{ℕ, zero, suc, ◌+◌, ◌*◌, ◌/◌, ◌%◌, ◌==◌, ◌≡◌, ◌≤◌, Bool, true, false, List, [], ◌∷◌, ◌++◌, length, codes, refl, arith, length-append}
use Rattle.hex.specs.Hex.{lower_digits, encode_lower}
use Rattle.hex.proofs.HexLemmas.{length-encode_with}
use Rattle.std.specs.Prelude.{decimal, if◌then◌else◌}
use Rattle.std.specs.Fmt.{digits, digits_onto, digit_glyph}
use Rattle.sgx_base.specs.Stores.{max_file_size}
use Rattle.sample_script.specs.Sample.{next_number, first_bytes, first_lines, call_of, call_line, call_lines, sample}

if_short : (b : Bool) (xs ys : List ℕ) (n : ℕ) → length xs ≤ n → length ys ≤ n → length (if b then xs else ys) ≤ n
if_short true xs ys n h k = h
if_short false xs ys n h k = k

onto_short : (k base : ℕ) (upper : Bool) (n : ℕ) (acc : List ℕ) → length (digits_onto k base upper n acc) ≤ k + length acc
onto_short zero base upper n acc = omega arith
onto_short (suc k) base upper n acc =
    let rest = onto_short k base upper (n / base) (digit_glyph upper (n % base) ∷ acc) in
    if_short (n / base == 0) (digit_glyph upper (n % base) ∷ acc) (digits_onto k base upper (n / base) (digit_glyph upper (n % base) ∷ acc)) (suc k + length acc)
    (omega arith) (omega (arith, rest))

-- a number has at most 64 digits
digits_short : (base : ℕ) (upper : Bool) (n : ℕ) → length (digits base upper n) ≤ 64
unfolding digits
digits_short base upper n = omega (arith, onto_short 64 base upper n [])

call_short : (address size : ℕ) → length (call_of address size) ≤ 142
call_short address size =
    let a : List ℕ = digits 16 false address in
    let l : List ℕ = decimal size in
    let e = length-append (codes "call f(@0x") a in
    let f = length-append (codes "call f(@0x" ++ a) (codes ", ") in
    let g = length-append (codes "call f(@0x" ++ a ++ codes ", ") l in
    let h = length-append (codes "call f(@0x" ++ a ++ codes ", " ++ l) (codes ")\n") in
    omega (arith, e, f, g, h, digits_short 16 false address, digits_short 10 false size)

calls_short : (place x n : ℕ) → length (call_lines place x n) ≤ n * 142
calls_short place x zero = omega arith
calls_short place x (suc n) =
    let rest = calls_short (place + 1) (next_number x) n in
    let here = call_short (65536 + 64 * (place % 8)) (next_number x % 65) in
    omega (arith, rest, here, length-append (call_line place (next_number x)) (call_lines (place + 1) (next_number x) n))

first_short : length first_lines ≤ 2000
first_short =
    let h : List ℕ = encode_lower first_bytes in
    let rest : List ℕ = codes "\nbody f {\nsum r0 buf\nreturn r0\n}\n" in
    let a = length-append (codes "bytes 0x10000 ") h in
    let b = length-append (codes "bytes 0x10000 " ++ h) rest in
    let e : length h ≡ 2 * length first_bytes = length-encode_with lower_digits first_bytes in
    let k : length first_bytes ≡ 512 = refl in
    omega (arith, a, b, e, k)

pub sample_short : (calls : ℕ) (script : List ℕ) → script ≡ sample calls → calls ≤ 8000 → length script ≤ max_file_size
sample_short calls script is few =
    let e = length-append first_lines (call_lines 0 1 calls) in
    let s = calls_short 0 1 calls in
    rw is (omega (arith, e, s, few, first_short))
