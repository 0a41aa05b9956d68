-- Laws of blocks in one list of bytes.
use Rattle.std.proofs.Common.{ℕ, zero, suc, ◌+◌, ◌-◌, ◌≤◌, ◌≡◌, List, [], ◌∷◌, ◌++◌, length, take, drop, Some, slice_get, slice_set, refl, ap, sym, ◌∙◌, arith, length-drop, length-append}
use Rattle.std.proofs.lemmas.List.{drop-drop, drop-take, drop-append-le, take-append-le, length-take-le, take-take}
use Rattle.std.proofs.lemmas.Slice.{drop-append-drop}
use Rattle.std.proofs.lemmas.List.Sums.{sum_by-cons, sum_by-append, sum_by-take-le}
use Rattle.sgx_base.specs.Bytes.{rounded_size, with_bytes_at}
use Rattle.enclave_memory.specs.Memory.{taken_by}
use Rattle.enclave_memory.specs.Layout.{blocks_in, taken_in}
use Rattle.enclave_memory.proofs.Blocks.{taken_by-cons}

pub length-blocks : (ls bs : List ℕ) → length (blocks_in ls bs) ≡ length ls
length-blocks [] bs = refl
length-blocks (n ∷ ls) bs = ap (λ k. suc k) (length-blocks ls (drop (rounded_size n) bs))

pub taken_in-cons : (n : ℕ) (ls : List ℕ) → taken_in (n ∷ ls) ≡ rounded_size n + taken_in ls
taken_in-cons n ls = sum_by-cons (λ n. rounded_size n) n ls

pub taken_in-take : (k : ℕ) (ls : List ℕ) → taken_in (take k ls) ≤ taken_in ls
taken_in-take k ls = sum_by-take-le (λ n. rounded_size n) ls k

pub taken_in-append : (ls ms : List ℕ) → taken_in (ls ++ ms) ≡ taken_in ls + taken_in ms
taken_in-append ls ms = sum_by-append (λ n. rounded_size n) ls ms

-- what lies behind the first block
abbrev behind : ℕ → List ℕ → List ℕ
behind n bs = drop (rounded_size n) bs

behind_first : (n : ℕ) (ls bs : List ℕ) → taken_in (n ∷ ls) ≤ length bs → taken_in ls ≤ length (behind n bs)
behind_first n ls bs h =
    let a : taken_in (n ∷ ls) ≡ rounded_size n + taken_in ls = taken_in-cons n ls in
    let b : length (behind n bs) ≡ length bs - rounded_size n = length-drop (rounded_size n) bs in
    omega (arith, h, a, b)

length_first : (n : ℕ) (ls bs : List ℕ) → taken_in (n ∷ ls) ≤ length bs → length (take n bs) ≡ n
length_first n ls bs h =
    let a : taken_in (n ∷ ls) ≡ rounded_size n + taken_in ls = taken_in-cons n ls in
    let l : n ≤ length bs = omega (arith, h, a) in length-take-le n bs l

-- what blocks take is the sum of their rounded lengths
pub taken_by-blocks : (ls bs : List ℕ) → taken_in ls ≤ length bs → taken_by (blocks_in ls bs) ≡ taken_in ls
taken_by-blocks [] bs h = refl
taken_by-blocks (n ∷ ls) bs h =
    let a : length (take n bs) ≡ n = length_first n ls bs h in
    let b : taken_by (blocks_in ls (behind n bs)) ≡ taken_in ls = taken_by-blocks ls (behind n bs) (behind_first n ls bs h) in
    taken_by-cons (take n bs) (blocks_in ls (behind n bs)) ∙ ap (λ k. rounded_size k + taken_by (blocks_in ls (behind n bs))) a ∙ ap (λ k. rounded_size n + k) b ∙ sym (taken_in-cons n ls)

pub take-blocks : (k : ℕ) (ls bs : List ℕ) → take k (blocks_in ls bs) ≡ blocks_in (take k ls) bs
take-blocks zero ls bs = refl
take-blocks (suc k) [] bs = refl
take-blocks (suc k) (n ∷ ls) bs = ap (λ l. take n bs ∷ l) (take-blocks k ls (behind n bs))

-- one more block at the end
pub blocks-append : (ls bs : List ℕ) (n : ℕ) → blocks_in (ls ++ n ∷ []) bs ≡ blocks_in ls bs ++ take n (drop (taken_in ls) bs) ∷ []
blocks-append [] bs n = refl
blocks-append (m ∷ ls) bs n =
    ap (λ l. take m bs ∷ l) (blocks-append ls (behind m bs) n
    ∙ ap (λ l. blocks_in ls (behind m bs) ++ take n l ∷ []) (drop-drop (taken_in ls) (rounded_size m) bs ∙ ap (λ k. drop k bs) (sym (taken_in-cons m ls))))

some-injective : (x y : List ℕ) → Some x ≡ Some y → x ≡ y
some-injective x y e = cc

-- where a block stands, and its bytes
pub record IsPart (ls bs : List ℕ) (k : ℕ) (b : List ℕ) : Type 0 where
  pub starts : taken_by (take k (blocks_in ls bs)) ≡ taken_in (take k ls)
  pub within : taken_in (take k ls) + rounded_size (length b) ≤ taken_in ls
  pub bytes : take (length b) (drop (taken_in (take k ls)) bs) ≡ b

pub starts_at : (ls bs : List ℕ) (k : ℕ) → taken_in ls ≤ length bs → taken_by (take k (blocks_in ls bs)) ≡ taken_in (take k ls)
starts_at ls bs k h =
    let t : taken_in (take k ls) ≤ taken_in ls = taken_in-take k ls in
    let w : taken_in (take k ls) ≤ length bs = omega (arith, t, h) in
    ap (λ l. taken_by l) (take-blocks k ls bs) ∙ taken_by-blocks (take k ls) bs w

pub part_of : (ls bs : List ℕ) (k : ℕ) (b : List ℕ) → taken_in ls ≤ length bs → slice_get (blocks_in ls bs) k ≡ Some b → IsPart ls bs k b
part_of [] bs k b h e = absurd (cc)
part_of (n ∷ ls) bs zero b h e =
    let x : take n bs ≡ b = some-injective (take n bs) b e in
    let l : length b ≡ n = ap (λ y. length y) (sym x) ∙ length_first n ls bs h in
    record {
      starts = starts_at (n ∷ ls) bs zero h;
      within = let a : taken_in (n ∷ ls) ≡ rounded_size n + taken_in ls = taken_in-cons n ls in let z : taken_in (take zero (n ∷ ls)) ≡ 0 = refl in omega (arith, a, l, z);
      bytes = ap (λ i. take i bs) l ∙ x;
    }
part_of (n ∷ ls) bs (suc k) b h e =
    let p : IsPart ls (behind n bs) k b = part_of ls (behind n bs) k b (behind_first n ls bs h) e in
    let a : taken_in (n ∷ ls) ≡ rounded_size n + taken_in ls = taken_in-cons n ls in
    let c : taken_in (take (suc k) (n ∷ ls)) ≡ rounded_size n + taken_in (take k ls) = taken_in-cons n (take k ls) in
    record {
      starts = starts_at (n ∷ ls) bs (suc k) h;
      within = let w : taken_in (take k ls) + rounded_size (length b) ≤ taken_in ls = p.within in omega (arith, a, c, w);
      bytes = ap (λ l. take (length b) l) (ap (λ i. drop i bs) c ∙ sym (drop-drop (taken_in (take k ls)) (rounded_size n) bs)) ∙ p.bytes;
    }

-- bytes written over others
pub length-with : (bs : List ℕ) (p : ℕ) (new : List ℕ) → p + length new ≤ length bs → length (with_bytes_at bs p new) ≡ length bs
length-with bs p new h =
    let a : length (take p bs) ≡ p = (let l : p ≤ length bs = omega (arith, h) in length-take-le p bs l) in
    let b : length (take p bs ++ new) ≡ length (take p bs) + length new = length-append (take p bs) new in
    let c : length (drop (p + length new) bs) ≡ length bs - (p + length new) = length-drop (p + length new) bs in
    let d : length (with_bytes_at bs p new) ≡ length (take p bs ++ new) + length (drop (p + length new) bs) = length-append (take p bs ++ new) (drop (p + length new) bs) in
    omega (arith, a, b, c, d, h)

length_front : (bs : List ℕ) (p : ℕ) (new : List ℕ) → p + length new ≤ length bs → length (take p bs ++ new) ≡ p + length new
length_front bs p new h =
    let a : length (take p bs) ≡ p = (let l : p ≤ length bs = omega (arith, h) in length-take-le p bs l) in
    let b : length (take p bs ++ new) ≡ length (take p bs) + length new = length-append (take p bs) new in
    omega (arith, a, b)

pub take-with : (bs : List ℕ) (p : ℕ) (new : List ℕ) (n : ℕ) → p + length new ≤ length bs → n ≤ p → take n (with_bytes_at bs p new) ≡ take n bs
take-with bs p new n h l =
    let a : length (take p bs ++ new) ≡ p + length new = length_front bs p new h in
    let b : n ≤ length (take p bs ++ new) = omega (arith, a, l) in
    let c : length (take p bs) ≡ p = (let m : p ≤ length bs = omega (arith, h) in length-take-le p bs m) in
    let d : n ≤ length (take p bs) = omega (arith, c, l) in
    take-append-le n (take p bs ++ new) (drop (p + length new) bs) b ∙ take-append-le n (take p bs) new d ∙ take-take n p bs l

pub drop-with : (bs : List ℕ) (p : ℕ) (new : List ℕ) (n : ℕ) → p + length new ≤ length bs → p + length new ≤ n → drop n (with_bytes_at bs p new) ≡ drop n bs
drop-with bs p new n h l = drop-append-drop (p + length new) bs (take p bs ++ new) n l (length_front bs p new h)

-- written behind a place, as seen from there
pub drop-with_shift : (bs : List ℕ) (r k : ℕ) (new : List ℕ) → (r + k) + length new ≤ length bs → drop r (with_bytes_at bs (r + k) new) ≡ with_bytes_at (drop r bs) k new
drop-with_shift bs r k new h =
    let a : length (take (r + k) bs ++ new) ≡ (r + k) + length new = length_front bs (r + k) new h in
    let b : r ≤ length (take (r + k) bs ++ new) = omega (arith, a) in
    let c : length (take (r + k) bs) ≡ r + k = (let m : r + k ≤ length bs = omega (arith, h) in length-take-le (r + k) bs m) in
    let d : r ≤ length (take (r + k) bs) = omega (arith, c) in
    let s : (r + k) + length new ≡ r + (k + length new) = omega arith in
    drop-append-le r (take (r + k) bs ++ new) (drop ((r + k) + length new) bs) b
    ∙ ap (λ l. l ++ drop ((r + k) + length new) bs) (drop-append-le r (take (r + k) bs) new d ∙ ap (λ l. l ++ new) (drop-take r k bs))
    ∙ ap (λ l. take k (drop r bs) ++ new ++ l) (ap (λ i. drop i bs) s ∙ sym (drop-drop (k + length new) r bs))

take_on : (xs ys : List ℕ) (m : ℕ) → take (length xs + m) (xs ++ ys) ≡ xs ++ take m ys
take_on [] ys m = let z : 0 + m ≡ m = omega arith in ap (λ i. take i ys) z
take_on (x ∷ xs) ys m = let z : suc (length xs) + m ≡ suc (length xs + m) = omega arith in ap (λ i. take i (x ∷ (xs ++ ys))) z ∙ ap (λ l. x ∷ l) (take_on xs ys m)

-- written within a first part
pub take-with_within : (bs : List ℕ) (p : ℕ) (new : List ℕ) (n : ℕ) → n ≤ length bs → p + length new ≤ n → take n (with_bytes_at bs p new) ≡ with_bytes_at (take n bs) p new
take-with_within bs p new n h l =
    let a : length (take p bs ++ new) ≡ p + length new = (let i : p + length new ≤ length bs = omega (arith, h, l) in length_front bs p new i) in
    let m : n ≡ (p + length new) + (n - (p + length new)) = omega (arith, l) in
    let b : n ≡ length (take p bs ++ new) + (n - (p + length new)) = omega (arith, a, m) in
    let below : p ≤ n = omega (arith, l) in
    ap (λ i. take i (with_bytes_at bs p new)) b
    ∙ take_on (take p bs ++ new) (drop (p + length new) bs) (n - (p + length new))
    ∙ ap (λ i. i ++ new ++ take (n - (p + length new)) (drop (p + length new) bs)) (sym (take-take p n bs below))
    ∙ ap (λ i. take p (take n bs) ++ new ++ i) (sym (drop-take (p + length new) (n - (p + length new)) bs) ∙ ap (λ i. drop (p + length new) (take i bs)) (sym m))

-- written into a block
pub write-blocks : (ls bs : List ℕ) (k offset : ℕ) (old new : List ℕ) → taken_in ls ≤ length bs → slice_get (blocks_in ls bs) k ≡ Some old → offset + length new ≤ length old
    → blocks_in ls (with_bytes_at bs (taken_in (take k ls) + offset) new) ≡ slice_set (blocks_in ls bs) k (with_bytes_at old offset new)
write-blocks [] bs k offset old new h e f = absurd (cc)
write-blocks (n ∷ ls) bs zero offset old new h e f =
    let x : take n bs ≡ old = some-injective (take n bs) old e in
    let l : length old ≡ n = ap (λ y. length y) (sym x) ∙ length_first n ls bs h in
    let a : taken_in (n ∷ ls) ≡ rounded_size n + taken_in ls = taken_in-cons n ls in
    let z : taken_in (take zero (n ∷ ls)) + offset ≡ offset = omega arith in
    let p : n ≤ length bs = omega (arith, h, a) in
    let q : offset + length new ≤ n = omega (arith, f, l) in
    let r : offset + length new ≤ length bs = omega (arith, p, q) in
    let s : offset + length new ≤ rounded_size n = omega (arith, q) in
    ap (λ i. blocks_in (n ∷ ls) (with_bytes_at bs i new)) z
    ∙ ap (λ i. i ∷ blocks_in ls (drop (rounded_size n) (with_bytes_at bs offset new))) (take-with_within bs offset new n p q ∙ ap (λ i. with_bytes_at i offset new) x)
    ∙ ap (λ i. with_bytes_at old offset new ∷ blocks_in ls i) (drop-with bs offset new (rounded_size n) r s)
write-blocks (n ∷ ls) bs (suc k) offset old new h e f =
    let a : taken_in (n ∷ ls) ≡ rounded_size n + taken_in ls = taken_in-cons n ls in
    let c : taken_in (take (suc k) (n ∷ ls)) ≡ rounded_size n + taken_in (take k ls) = taken_in-cons n (take k ls) in
    let i : taken_in ls ≤ length (behind n bs) = behind_first n ls bs h in
    let part : IsPart ls (behind n bs) k old = part_of ls (behind n bs) k old i e in
    let w : taken_in (take k ls) + rounded_size (length old) ≤ taken_in ls = part.within in
    let z : taken_in (take (suc k) (n ∷ ls)) + offset ≡ rounded_size n + (taken_in (take k ls) + offset) = omega (arith, c) in
    let r : (rounded_size n + (taken_in (take k ls) + offset)) + length new ≤ length bs = omega (arith, h, a, w, f) in
    let s : n ≤ rounded_size n + (taken_in (take k ls) + offset) = omega arith in
    ap (λ j. blocks_in (n ∷ ls) (with_bytes_at bs j new)) z
    ∙ ap (λ j. j ∷ blocks_in ls (drop (rounded_size n) (with_bytes_at bs (rounded_size n + (taken_in (take k ls) + offset)) new))) (take-with bs (rounded_size n + (taken_in (take k ls) + offset)) new n r s)
    ∙ ap (λ j. take n bs ∷ blocks_in ls j) (drop-with_shift bs (rounded_size n) (taken_in (take k ls) + offset) new r)
    ∙ ap (λ j. take n bs ∷ j) (write-blocks ls (behind n bs) k offset old new i e f)

-- written behind all blocks
pub blocks-with : (ls bs : List ℕ) (p : ℕ) (new : List ℕ) → p + length new ≤ length bs → taken_in ls ≤ p → blocks_in ls (with_bytes_at bs p new) ≡ blocks_in ls bs
blocks-with [] bs p new h l = refl
blocks-with (n ∷ ls) bs p new h l =
    let a : taken_in (n ∷ ls) ≡ rounded_size n + taken_in ls = taken_in-cons n ls in
    let s : n ≤ p = omega (arith, a, l) in
    let m : p ≡ rounded_size n + (p - rounded_size n) = omega (arith, a, l) in
    let r : (rounded_size n + (p - rounded_size n)) + length new ≤ length bs = omega (arith, m, h) in
    let b : length (behind n bs) ≡ length bs - rounded_size n = length-drop (rounded_size n) bs in
    let i : (p - rounded_size n) + length new ≤ length (behind n bs) = omega (arith, r, b) in
    let j : taken_in ls ≤ p - rounded_size n = omega (arith, a, l) in
    ap (λ x. x ∷ blocks_in ls (drop (rounded_size n) (with_bytes_at bs p new))) (take-with bs p new n h s)
    ∙ ap (λ x. take n bs ∷ blocks_in ls (drop (rounded_size n) (with_bytes_at bs x new))) m
    ∙ ap (λ x. take n bs ∷ blocks_in ls x) (drop-with_shift bs (rounded_size n) (p - rounded_size n) new r)
    ∙ ap (λ x. take n bs ∷ x) (blocks-with ls (behind n bs) (p - rounded_size n) new i j)
