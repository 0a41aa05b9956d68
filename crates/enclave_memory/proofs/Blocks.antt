-- Laws of an arena as a stack of byte lists.
use Rattle.std.proofs.Common.{ℕ, zero, suc, ◌+◌, ◌<◌, ◌≤◌, ◌≡◌, List, [], ◌∷◌, ◌++◌, length, take, Option, Some, None, slice_get, slice_set, refl, ap, sym, ◌∙◌, subst, arith, inl, inr}
use Rattle.std.proofs.lemmas.List.Sums.{sum_by-cons, sum_by-append, sum_by-take-le}
use Rattle.std.proofs.lemmas.List.{take-set, take_at, take-append-le, nil_from_length, set_at, length_push}
use Rattle.std.proofs.lemmas.Bool.{cases_lt}
use Rattle.std.proofs.lemmas.Option.{slice_get_within}
use Rattle.sgx_base.specs.Bytes.{rounded_size}
use Rattle.enclave_memory.specs.declared.Block.{Block}
use Rattle.enclave_memory.specs.Memory.{Memory, taken_by, IsBlock, IsLive, IsPush, IsWrite}

abbrev taken_of : List ℕ → ℕ
taken_of b = rounded_size (length b)

pub taken_by-cons : (x : List ℕ) (xs : List (List ℕ)) → taken_by (x ∷ xs) ≡ rounded_size (length x) + taken_by xs
taken_by-cons x xs = sum_by-cons taken_of x xs

pub taken_by-append : (xs ys : List (List ℕ)) → taken_by (xs ++ ys) ≡ taken_by xs + taken_by ys
taken_by-append xs ys = sum_by-append taken_of xs ys

pub taken_by-take : (k : ℕ) (xs : List (List ℕ)) → taken_by (take k xs) ≤ taken_by xs
taken_by-take k xs = sum_by-take-le taken_of xs k

-- a block lies within what is taken
pub taken_by-within : (k : ℕ) (xs : List (List ℕ)) (x : List ℕ) → slice_get xs k ≡ Some x → taken_by (take k xs) + rounded_size (length x) ≤ taken_by xs
taken_by-within k [] x e = absurd (cc)
taken_by-within zero (y ∷ xs) x e =
    let q : length y ≡ length x = cc in
    let t : taken_by (y ∷ xs) ≡ rounded_size (length y) + taken_by xs = taken_by-cons y xs in
    let n : taken_by (take zero (y ∷ xs)) ≡ 0 = refl in
    omega (arith, q, t, n)
taken_by-within (suc k) (y ∷ xs) x e =
    let h : taken_by (take k xs) + rounded_size (length x) ≤ taken_by xs = taken_by-within k xs x e in
    let t : taken_by (y ∷ xs) ≡ rounded_size (length y) + taken_by xs = taken_by-cons y xs in
    let u : taken_by (take (suc k) (y ∷ xs)) ≡ rounded_size (length y) + taken_by (take k xs) = taken_by-cons y (take k xs) in
    omega (arith, h, t, u)

-- blocks with a byte that begin at one place are one
pub same_number : (k l : ℕ) (xs : List (List ℕ)) (x y : List ℕ) → 0 < length x → 0 < length y → slice_get xs k ≡ Some x → slice_get xs l ≡ Some y
    → taken_by (take k xs) ≡ taken_by (take l xs) → k ≡ l
same_number k l [] x y s t p q e = absurd (cc)
same_number zero zero (z ∷ xs) x y s t p q e = refl
same_number zero (suc l) (z ∷ xs) x y s t p q e =
    let w : length z ≡ length x = cc in
    let u : taken_by (take (suc l) (z ∷ xs)) ≡ rounded_size (length z) + taken_by (take l xs) = taken_by-cons z (take l xs) in
    let v : taken_by (take zero (z ∷ xs)) ≡ 0 = refl in
    absurd (omega (arith, w, u, v, e, s))
same_number (suc k) zero (z ∷ xs) x y s t p q e =
    let w : length z ≡ length y = cc in
    let u : taken_by (take (suc k) (z ∷ xs)) ≡ rounded_size (length z) + taken_by (take k xs) = taken_by-cons z (take k xs) in
    let v : taken_by (take zero (z ∷ xs)) ≡ 0 = refl in
    absurd (omega (arith, w, u, v, e, t))
same_number (suc k) (suc l) (z ∷ xs) x y s t p q e =
    let u : taken_by (take (suc k) (z ∷ xs)) ≡ rounded_size (length z) + taken_by (take k xs) = taken_by-cons z (take k xs) in
    let v : taken_by (take (suc l) (z ∷ xs)) ≡ rounded_size (length z) + taken_by (take l xs) = taken_by-cons z (take l xs) in
    let h : taken_by (take k xs) ≡ taken_by (take l xs) = omega (arith, u, v, e) in
    ap (λ n. suc n) (same_number k l xs x y s t p q h)

abbrev list_or : List ℕ → Option (List ℕ) → List ℕ
list_or d None = d
list_or d (Some x) = x

-- a block with a byte is one number and one list of bytes
pub same_block : (m : Memory) (block : Block) (k l : ℕ) (x y : List ℕ) → 0 < block.length → IsBlock m block k x → IsBlock m block l y → (k ≡ l) × (x ≡ y)
same_block m block k l x y s p q =
    let a : 0 < length x = omega (arith, s, p.length_is) in
    let b : 0 < length y = omega (arith, s, q.length_is) in
    let n : k ≡ l = same_number k l m.blocks x y a b p.bytes_are q.bytes_are (sym p.starts ∙ q.starts) in
    (n, ap (λ o. list_or x o) (sym p.bytes_are ∙ ap (λ i. slice_get m.blocks i) n ∙ q.bytes_are))

-- a block has one list of bytes
pub same_bytes : (m : Memory) (block : Block) (k l : ℕ) (x y : List ℕ) → IsBlock m block k x → IsBlock m block l y → x ≡ y
same_bytes m block k l x y p q = elim (cases_lt 0 block.length) as (λ _. x ≡ y) [
  | inl some ↦ (same_block m block k l x y some p q).1
  | inr none ↦
      let a : length x ≡ 0 = omega (arith, none, p.length_is) in
      let b : length y ≡ 0 = omega (arith, none, q.length_is) in
      nil_from_length x a ∙ sym (nil_from_length y b)
]

-- a live block lies within the arena
pub block_within : (m : Memory) (block : Block) → taken_by m.blocks ≤ m.size → IsLive m block → block.at + block.length ≤ m.size
block_within m block h live =
    let (k, bytes, p) = live in
    let e : taken_by (take k m.blocks) + rounded_size (length bytes) ≤ taken_by m.blocks = taken_by-within k m.blocks bytes p.bytes_are in
    omega (arith, h, e, p.starts, p.length_is)

set_same : (xs : List (List ℕ)) (k : ℕ) (x y : List ℕ) → slice_get xs k ≡ Some x → slice_get (slice_set xs k y) k ≡ Some y
set_same [] k x y e = absurd (cc)
set_same (z ∷ xs) zero x y e = refl
set_same (z ∷ xs) (suc k) x y e = set_same xs k x y e

-- a block that is set to as many bytes has these
pub written_block : (before after : Memory) (block : Block) (number : ℕ) (old new : List ℕ) → IsBlock before block number old → length new ≡ length old
    → after ≡ record before { blocks = slice_set before.blocks number new } → IsBlock after block number new
written_block before after block number old new b l e =
    subst (λ a. IsBlock a block number new) (sym e) record {
      starts = b.starts ∙ ap (λ i. taken_by i) (sym (take-set before.blocks number new));
      bytes_are = set_same before.blocks number old new b.bytes_are;
      length_is = b.length_is ∙ sym l;
    }

-- a block that is set to as many bytes is written
pub write_is : (before after : Memory) (block : Block) (number : ℕ) (old new : List ℕ) → IsBlock before block number old → length new ≡ length old
    → after ≡ record before { blocks = slice_set before.blocks number new } → IsWrite before after block new
write_is before after block number old new b l e = record { number = number; written = e; is_block = written_block before after block number old new b l e }

get_append : (xs ys : List (List ℕ)) (k : ℕ) (x : List ℕ) → slice_get xs k ≡ Some x → slice_get (xs ++ ys) k ≡ Some x
get_append [] ys k x e = absurd (cc)
get_append (z ∷ xs) ys zero x e = e
get_append (z ∷ xs) ys (suc k) x e = get_append xs ys k x e

get_last : (xs : List (List ℕ)) (x : List ℕ) → slice_get (xs ++ x ∷ []) (length xs) ≡ Some x
get_last [] x = refl
get_last (z ∷ xs) x = get_last xs x

-- a pushed block is the last
pub pushed_block : (before after : Memory) (block : Block) (bytes : List ℕ) → IsPush before after block bytes → IsBlock after block (length before.blocks) bytes
pushed_block before after block bytes p =
    subst (λ a. IsBlock a block (length before.blocks) bytes) (sym p.pushed) record {
      starts = p.starts ∙ ap (λ i. taken_by i) (sym (take_at before.blocks (bytes ∷ []) (length before.blocks) refl));
      bytes_are = get_last before.blocks bytes;
      length_is = p.length_is;
    }

-- a push leaves the other blocks
pub push_keeps : (before after : Memory) (block other : Block) (bytes theirs : List ℕ) (number : ℕ) → IsPush before after block bytes → IsBlock before other number theirs → IsBlock after other number theirs
push_keeps before after block other bytes theirs number p b =
    let k : number ≤ length before.blocks = (let w : number < length before.blocks = slice_get_within before.blocks number theirs b.bytes_are in omega (arith, w)) in
    subst (λ a. IsBlock a other number theirs) (sym p.pushed) record {
      starts = b.starts ∙ ap (λ i. taken_by i) (sym (take-append-le number before.blocks (bytes ∷ []) k));
      bytes_are = get_append before.blocks (bytes ∷ []) number theirs b.bytes_are;
      length_is = b.length_is;
    }

-- a pushed block that is written is pushed with what was written
pub push_written : (before between after : Memory) (block : Block) (bytes new : List ℕ) → IsPush before between block bytes → block.length ≡ length new
    → ((number : ℕ) (first : List ℕ) → IsBlock between block number first → after ≡ record between { blocks = slice_set between.blocks number new }) → IsPush before after block new
push_written before between after block bytes new p l w = record {
  pushed = w (length before.blocks) bytes (pushed_block before between block bytes p)
      ∙ ap (λ (m : Memory). record m { blocks = slice_set m.blocks (length before.blocks) new }) p.pushed
      ∙ ap (λ (i : List (List ℕ)). record before { blocks = i }) (set_at before.blocks bytes [] new (length before.blocks) refl);
  starts = p.starts;
  length_is = l;
}

-- the mark before a push is that of the blocks before it
pub push_mark : (before after : Memory) (block : Block) (bytes : List ℕ) → IsPush before after block bytes → taken_by before.blocks ≡ taken_by (take (length before.blocks) after.blocks)
push_mark before after block bytes p =
    ap (λ i. taken_by i) (sym (take_at before.blocks (bytes ∷ []) (length before.blocks) refl)) ∙ ap (λ (m : Memory). taken_by (take (length before.blocks) m.blocks)) (sym p.pushed)

-- a push that is popped leaves all as it was
pub push_popped : (before between after : Memory) (block : Block) (bytes : List ℕ) → IsPush before between block bytes
    → ((k : ℕ) → k ≤ length between.blocks → taken_by before.blocks ≡ taken_by (take k between.blocks) → after ≡ record between { blocks = take k between.blocks }) → after ≡ before
push_popped before between after block bytes p w =
    let l : length between.blocks ≡ length (before.blocks ++ bytes ∷ []) = ap (λ (m : Memory). length m.blocks) p.pushed in
    let n : length (before.blocks ++ bytes ∷ []) ≡ length before.blocks + 1 = length_push before.blocks bytes in
    let k : length before.blocks ≤ length between.blocks = omega (arith, l, n) in
    w (length before.blocks) k (push_mark before between block bytes p)
    ∙ ap (λ (m : Memory). record m { blocks = take (length before.blocks) m.blocks }) p.pushed
    ∙ ap (λ (i : List (List ℕ)). record before { blocks = i }) (take_at before.blocks (bytes ∷ []) (length before.blocks) refl)
