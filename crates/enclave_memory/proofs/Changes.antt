-- What pushes, writes and pops make of an arena.
use Rattle.std.proofs.Common.{ℕ, zero, suc, ◌+◌, ◌-◌, ◌*◌, ◌<◌, ◌≤◌, ◌/◌, ◌≡◌, List, [], ◌∷◌, ◌++◌, length, take, drop, replicate, All, Some, slice_get, slice_set, slice_range, refl, ap, sym, ◌∙◌, subst, arith, inl, inr, length-append}
use Rattle.std.proofs.lemmas.List.{drop-drop, take-replicate, drop-replicate, replicate-append-replicate, length-replicate, take_at, take_all, take-append-le, drop_all, append-nil}
use Rattle.std.proofs.lemmas.Bool.{cases_lt}
use Rattle.std.proofs.lemmas.List.Elements.{All-push, All-take}
use Rattle.sgx_base.specs.Bytes.{rounded_size, with_bytes_at}
use Rattle.enclave_memory.specs.declared.Block.{Block}
use Rattle.enclave_memory.specs.Memory.{Memory, taken_by, IsBlock, IsLive, IsPush}
use Rattle.enclave_memory.specs.Layout.{blocks_in, taken_in, memory_of, IsLaidOut}
use Rattle.enclave_memory.proofs.Layouts.{IsPart, part_of, starts_at, taken_in-cons, taken_in-append, taken_in-take, taken_by-blocks, take-blocks, blocks-append, length-with, drop-with, drop-with_shift, write-blocks, blocks-with}

-- an arena as its lists, and as callers see it
pub record IsKept (ls bs : List ℕ) (taken listable : ℕ) (m : Memory) : Type 0 where
  pub laid : IsLaidOut ls bs taken listable
  pub seen : memory_of ls bs ≡ m

within_bytes : (ls bs : List ℕ) (taken listable : ℕ) (m : Memory) → IsKept ls bs taken listable m → taken_in ls ≤ length bs
within_bytes ls bs taken listable m q = omega (arith, q.laid.taken_is, q.laid.within)

pub mark_is : (ls bs : List ℕ) (taken listable : ℕ) (m : Memory) → IsKept ls bs taken listable m → taken ≡ taken_by m.blocks
mark_is ls bs taken listable m q = q.laid.taken_is ∙ sym (taken_by-blocks ls bs (within_bytes ls bs taken listable m q)) ∙ ap (λ a. taken_by a.blocks) q.seen

pub size_is : (ls bs : List ℕ) (taken listable : ℕ) (m : Memory) → IsKept ls bs taken listable m → length bs ≡ m.size
size_is ls bs taken listable m q = ap (λ a. a.size) q.seen

-- where a live block stands in the bytes
pub record IsPlaced (ls bs : List ℕ) (taken : ℕ) (block : Block) (number : ℕ) (bytes : List ℕ) : Type 0 where
  pub place : block.at ≡ taken_in (take number ls)
  pub within : block.at + block.length ≤ taken
  pub count : block.length ≡ length bytes
  pub got : slice_get (blocks_in ls bs) number ≡ Some bytes
  pub part : slice_range bs block.at (block.at + block.length) ≡ bytes

range_is : (bs bytes : List ℕ) (at n from : ℕ) → at ≡ from → n ≡ length bytes → take (length bytes) (drop from bs) ≡ bytes → slice_range bs at (at + n) ≡ bytes
range_is bs bytes at n from e f h =
    let d : (at + n) - at ≡ length bytes = omega (arith, f) in
    ap (λ k. take k (drop at bs)) d ∙ ap (λ k. take (length bytes) (drop k bs)) e ∙ h

pub placed : (ls bs : List ℕ) (taken listable : ℕ) (m : Memory) (block : Block) (number : ℕ) (bytes : List ℕ)
    → IsKept ls bs taken listable m → IsBlock m block number bytes → IsPlaced ls bs taken block number bytes
placed ls bs taken listable m block number bytes q b =
    let w : taken_in ls ≤ length bs = within_bytes ls bs taken listable m q in
    let got : slice_get (blocks_in ls bs) number ≡ Some bytes = ap (λ a. slice_get a.blocks number) q.seen ∙ b.bytes_are in
    let part : IsPart ls bs number bytes = part_of ls bs number bytes w got in
    let place : block.at ≡ taken_in (take number ls) = b.starts ∙ ap (λ a. taken_by (take number a.blocks)) (sym q.seen) ∙ part.starts in
    record {
      place = place;
      within = omega (arith, place, part.within, b.length_is, q.laid.taken_is);
      count = b.length_is;
      got = got;
      part = range_is bs bytes block.at block.length (taken_in (take number ls)) place b.length_is part.bytes;
    }

-- a live block lies within what is taken
pub live_within : (ls bs : List ℕ) (taken listable : ℕ) (m : Memory) (block : Block) → IsKept ls bs taken listable m → IsLive m block → block.at + block.length ≤ taken
live_within ls bs taken listable m block q live = let (number, bytes, b) = live in (placed ls bs taken listable m block number bytes q b).within

-- a write into what is taken leaves the rest
pub write_laid : (ls bs : List ℕ) (taken listable at : ℕ) (new : List ℕ) → IsLaidOut ls bs taken listable → at + length new ≤ taken → IsLaidOut ls (with_bytes_at bs at new) taken listable
write_laid ls bs taken listable at new q h =
    let i : at + length new ≤ length bs = omega (arith, h, q.within) in
    let e : length (with_bytes_at bs at new) ≡ length bs = length-with bs at new i in
    record {
      limit = omega (arith, e, q.limit);
      taken_is = q.taken_is;
      within = omega (arith, e, q.within);
      filled = q.filled;
      rest_is = drop-with bs at new taken i h ∙ q.rest_is ∙ ap (λ n. replicate (n - taken) 0) (sym e);
      listed = subst (λ n. n / 16 ≤ listable) (sym e) q.listed;
    }

-- a write into a block is seen in that block alone
pub write_seen : (ls bs : List ℕ) (taken listable : ℕ) (m : Memory) (block : Block) (offset : ℕ) (new : List ℕ) (number : ℕ) (old : List ℕ)
    → IsKept ls bs taken listable m → offset + length new ≤ block.length → IsBlock m block number old
    → memory_of ls (with_bytes_at bs (block.at + offset) new) ≡ record m { blocks = slice_set m.blocks number (with_bytes_at old offset new) }
write_seen ls bs taken listable m block offset new number old q h b =
    let p : IsPlaced ls bs taken block number old = placed ls bs taken listable m block number old q b in
    let w : taken_in ls ≤ length bs = within_bytes ls bs taken listable m q in
    let f : offset + length new ≤ length old = omega (arith, h, p.count) in
    let i : (block.at + offset) + length new ≤ length bs = omega (arith, h, p.within, q.laid.within) in
    let s : length (with_bytes_at bs (block.at + offset) new) ≡ m.size = length-with bs (block.at + offset) new i ∙ size_is ls bs taken listable m q in
    let t : blocks_in ls (with_bytes_at bs (block.at + offset) new) ≡ slice_set m.blocks number (with_bytes_at old offset new) =
    ap (λ a. blocks_in ls (with_bytes_at bs (a + offset) new)) p.place ∙ write-blocks ls bs number offset old new w p.got f ∙ ap (λ a. slice_set a.blocks number (with_bytes_at old offset new)) q.seen in
    ap (λ n. record { size = n; blocks = blocks_in ls (with_bytes_at bs (block.at + offset) new) }) s ∙ ap (λ l. record m { blocks = l }) t

-- blocks that are not empty take at least 16 bytes each
listed_within : (ls : List ℕ) → All (λ n. 0 < n) ls → 16 * length ls ≤ taken_in ls
listed_within [] p = omega arith
listed_within (n ∷ ls) p =
    let a : taken_in (n ∷ ls) ≡ rounded_size n + taken_in ls = taken_in-cons n ls in
    let z : 0 < suc (length ls) = omega arith in
    let b : 0 < n = p zero 0 z in
    let c : 16 * length ls ≤ taken_in ls = listed_within ls (λ k d h. (let s : suc k < suc (length ls) = omega (arith, h) in p (suc k) d s)) in
    omega (arith, a, b, c)

-- one more block that fits can be listed
pub listable_more : (ls bs : List ℕ) (taken listable n : ℕ) → IsLaidOut ls bs taken listable → 0 < n → taken + rounded_size n ≤ length bs → length ls < listable
listable_more ls bs taken listable n q s h =
    let a : 16 * length ls ≤ taken_in ls = listed_within ls q.filled in
    omega (arith, a, s, h, q.taken_is, q.listed)

pub push_laid : (ls bs : List ℕ) (taken listable listable2 n r : ℕ) → IsLaidOut ls bs taken listable → 0 < n → r ≡ rounded_size n → taken + r ≤ length bs → listable ≤ listable2
    → IsLaidOut (ls ++ n ∷ []) bs (taken + r) listable2
push_laid ls bs taken listable listable2 n r q s e h l =
    let a : taken_in (ls ++ n ∷ []) ≡ taken_in ls + taken_in (n ∷ []) = taken_in-append ls (n ∷ []) in
    let b : taken_in (n ∷ []) ≡ rounded_size n + taken_in [] = taken_in-cons n [] in
    let c : taken_in [] ≡ 0 = refl in
    let d : (length bs - taken) - r ≡ length bs - (taken + r) = omega arith in
    record {
      limit = q.limit;
      taken_is = omega (arith, a, b, c, e, q.taken_is);
      within = h;
      filled = All-push (λ k. 0 < k) ls n q.filled s;
      rest_is = sym (drop-drop r taken bs) ∙ ap (λ i. drop r i) q.rest_is ∙ drop-replicate r (length bs - taken) 0 ∙ ap (λ k. replicate k 0) d;
      listed = omega (arith, l, q.listed);
    }

pub push_seen : (ls bs : List ℕ) (taken listable n : ℕ) (m : Memory) → IsKept ls bs taken listable m → taken + n ≤ length bs
    → IsPush m (memory_of (ls ++ n ∷ []) bs) record { at = taken; length = n } (replicate n 0)
push_seen ls bs taken listable n m q h =
    let f : n ≤ length bs - taken = omega (arith, h) in
    let z : take n (drop (taken_in ls) bs) ≡ replicate n 0 =
    ap (λ k. take n (drop k bs)) (sym q.laid.taken_is) ∙ ap (λ i. take n i) q.laid.rest_is ∙ take-replicate n (length bs - taken) 0 f in
    let b : blocks_in (ls ++ n ∷ []) bs ≡ m.blocks ++ replicate n 0 ∷ [] =
    blocks-append ls bs n ∙ ap (λ i. blocks_in ls bs ++ i ∷ []) z ∙ ap (λ a. a.blocks ++ replicate n 0 ∷ []) q.seen in
    record {
      pushed = ap (λ i. record { size = length bs; blocks = i }) b ∙ ap (λ k. record m { size = k; blocks = m.blocks ++ replicate n 0 ∷ [] }) (size_is ls bs taken listable m q);
      starts = mark_is ls bs taken listable m q;
      length_is = sym (length-replicate n 0);
    }

-- lengths are taken off the end until the mark
pub record IsLeft (first ls : List ℕ) (left mark : ℕ) : Type 0 where
  pub taken : left ≡ taken_in ls
  pub limit : left ≤ 65536
  pub filled : All (λ n. 0 < n) ls
  pub below : (k : ℕ) → k ≤ length first → mark ≡ taken_in (take k first) → (k ≤ length ls) × (take k ls ≡ take k first)

pub left_first : (ls : List ℕ) (left mark : ℕ) → left ≡ taken_in ls → left ≤ 65536 → All (λ n. 0 < n) ls → IsLeft ls ls left mark
left_first ls left mark t l f = record { taken = t; limit = l; filled = f; below = λ k h e. (h, refl) }

last_taken : (ls : List ℕ) (x : ℕ) → taken_in (ls ++ x ∷ []) ≡ taken_in ls + rounded_size x
last_taken ls x =
    let a : taken_in (ls ++ x ∷ []) ≡ taken_in ls + taken_in (x ∷ []) = taken_in-append ls (x ∷ []) in
    let b : taken_in (x ∷ []) ≡ rounded_size x + taken_in [] = taken_in-cons x [] in
    let c : taken_in [] ≡ 0 = refl in
    omega (arith, a, b, c)

pub last_within : (first ls rest : List ℕ) (left mark x : ℕ) → IsLeft first ls left mark → ls ≡ rest ++ x ∷ [] → rounded_size x ≤ left
last_within first ls rest left mark x q e =
    let a : taken_in ls ≡ taken_in rest + rounded_size x = ap (λ l. taken_in l) e ∙ last_taken rest x in
    omega (arith, a, q.taken)

not_last : (ls rest : List ℕ) (x k mark left : ℕ) → ls ≡ rest ++ x ∷ [] → mark < left → left ≡ taken_in ls → mark ≡ taken_in (take k ls) → k ≤ length ls → k ≤ length rest
not_last ls rest x k mark left e lt t at h = elim (cases_lt (length rest) k) as (λ _. k ≤ length rest) [
  | inl over ↦
      let n : length ls ≡ length rest + 1 = ap (λ l. length l) e ∙ length-append rest (x ∷ []) in
      let all : length ls ≤ k = omega (arith, n, over) in
      let s : taken_in (take k ls) ≡ taken_in ls = ap (λ l. taken_in l) (take_all k ls all) in
      absurd (omega (arith, lt, t, at, s))
  | inr below ↦ below
]

pub left_more : (first ls rest : List ℕ) (left mark x r : ℕ) → IsLeft first ls left mark → mark < left → ls ≡ rest ++ x ∷ [] → r ≡ rounded_size x → IsLeft first rest (left - r) mark
left_more first ls rest left mark x r q lt e i =
    let a : taken_in ls ≡ taken_in rest + rounded_size x = ap (λ l. taken_in l) e ∙ last_taken rest x in
    let t : take (length rest) ls ≡ rest = ap (λ l. take (length rest) l) e ∙ take_at rest (x ∷ []) (length rest) refl in
    record {
      taken = omega (arith, a, i, q.taken);
      limit = omega (arith, q.limit);
      filled = subst (λ l. All (λ n. 0 < n) l) t (All-take (λ n. 0 < n) (length rest) ls q.filled);
      below = λ k h m.
          let p : (k ≤ length ls) × (take k ls ≡ take k first) = q.below k h m in
          let at : mark ≡ taken_in (take k ls) = m ∙ ap (λ l. taken_in l) (sym p.1) in
          let w : k ≤ length rest = not_last ls rest x k mark left e lt q.taken at p.0 in
          (w, sym (take-append-le k rest (x ∷ []) w) ∙ ap (λ l. take k l) (sym e) ∙ p.1);
    }

-- blocks that take no more than their first ones are these
all_left : (ls : List ℕ) (k : ℕ) → All (λ n. 0 < n) ls → taken_in ls ≤ taken_in (take k ls) → take k ls ≡ ls
all_left [] zero p h = refl
all_left [] (suc k) p h = refl
all_left (n ∷ ls) zero p h =
    let a : taken_in (n ∷ ls) ≡ rounded_size n + taken_in ls = taken_in-cons n ls in
    let z : 0 < suc (length ls) = omega arith in
    let b : 0 < n = p zero 0 z in
    let c : taken_in (take zero (n ∷ ls)) ≡ 0 = refl in
    absurd (omega (arith, a, b, c, h))
all_left (n ∷ ls) (suc k) p h =
    let a : taken_in (n ∷ ls) ≡ rounded_size n + taken_in ls = taken_in-cons n ls in
    let c : taken_in (take (suc k) (n ∷ ls)) ≡ rounded_size n + taken_in (take k ls) = taken_in-cons n (take k ls) in
    let d : taken_in ls ≤ taken_in (take k ls) = omega (arith, a, c, h) in
    ap (λ l. n ∷ l) (all_left ls k (λ i d h. (let s : suc i < suc (length ls) = omega (arith, h) in p (suc i) d s)) d)

pub left_end : (first ls : List ℕ) (left mark k : ℕ) → IsLeft first ls left mark → left ≤ mark → k ≤ length first → mark ≡ taken_in (take k first) → ls ≡ take k first
left_end first ls left mark k q l h m =
    let p : (k ≤ length ls) × (take k ls ≡ take k first) = q.below k h m in
    let at : mark ≡ taken_in (take k ls) = m ∙ ap (λ l. taken_in l) (sym p.1) in
    let w : taken_in ls ≤ taken_in (take k ls) = omega (arith, at, l, q.taken) in
    sym (all_left ls k q.filled w) ∙ p.1

pub none_left : (first : List ℕ) (left mark : ℕ) → IsLeft first [] left mark → mark < left → ⊥
none_left first left mark q l = let z : taken_in [] ≡ 0 = refl in omega (arith, z, l, q.taken)

-- a block that is cleared is seen as zeros
cleared : (old : List ℕ) (n : ℕ) → n ≡ length old → with_bytes_at old 0 (replicate n 0) ≡ replicate n 0
cleared old n e =
    let l : length {A = ℕ} (replicate n 0) ≡ n = length-replicate n 0 in
    let w : length old ≤ 0 + length {A = ℕ} (replicate n 0) = omega (arith, l, e) in
    ap (λ i. replicate n 0 ++ i) (drop_all (0 + length {A = ℕ} (replicate n 0)) old w) ∙ append-nil (replicate n 0)

pub zero_seen : (ls bs : List ℕ) (taken listable : ℕ) (m : Memory) (block : Block) (number : ℕ) (old : List ℕ)
    → IsKept ls bs taken listable m → IsBlock m block number old
    → memory_of ls (with_bytes_at bs block.at (replicate block.length 0)) ≡ record m { blocks = slice_set m.blocks number (replicate block.length 0) }
zero_seen ls bs taken listable m block number old q b =
    let l : length {A = ℕ} (replicate block.length 0) ≡ block.length = length-replicate block.length 0 in
    let f : 0 + length {A = ℕ} (replicate block.length 0) ≤ block.length = omega (arith, l) in
    let z : block.at ≡ block.at + 0 = omega arith in
    ap (λ a. memory_of ls (with_bytes_at bs a (replicate block.length 0))) z
    ∙ write_seen ls bs taken listable m block 0 (replicate block.length 0) number old q f b
    ∙ ap (λ i. record m { blocks = slice_set m.blocks number i }) (cleared old block.length b.length_is)

-- a block that is cleared from a place on
cleared_from : (old : List ℕ) (at n : ℕ) → at + n ≡ length old → with_bytes_at old at (replicate n 0) ≡ take at old ++ replicate n 0
cleared_from old at n e =
    let l : length {A = ℕ} (replicate n 0) ≡ n = length-replicate n 0 in
    let w : length old ≤ at + length {A = ℕ} (replicate n 0) = omega (arith, l, e) in
    ap (λ i. take at old ++ replicate n 0 ++ i) (drop_all (at + length {A = ℕ} (replicate n 0)) old w) ∙ append-nil (take at old ++ replicate n 0)

pub zero_from_seen : (ls bs : List ℕ) (taken listable : ℕ) (m : Memory) (block : Block) (offset : ℕ) (number : ℕ) (old : List ℕ)
    → IsKept ls bs taken listable m → offset ≤ block.length → IsBlock m block number old
    → memory_of ls (with_bytes_at bs (block.at + offset) (replicate (block.length - offset) 0)) ≡ record m { blocks = slice_set m.blocks number (take offset old ++ replicate (block.length - offset) 0) }
zero_from_seen ls bs taken listable m block offset number old q h b =
    let l : length {A = ℕ} (replicate (block.length - offset) 0) ≡ block.length - offset = length-replicate (block.length - offset) 0 in
    let f : offset + length {A = ℕ} (replicate (block.length - offset) 0) ≤ block.length = omega (arith, l, h) in
    let e : offset + (block.length - offset) ≡ length old = omega (arith, h, b.length_is) in
    write_seen ls bs taken listable m block offset (replicate (block.length - offset) 0) number old q f b
    ∙ ap (λ i. record m { blocks = slice_set m.blocks number i }) (cleared_from old offset (block.length - offset) e)

-- a mark, in the lengths
pub marked : (ls bs : List ℕ) (taken listable : ℕ) (m : Memory) (mark k : ℕ) → IsKept ls bs taken listable m → mark ≡ taken_by (take k m.blocks) → mark ≡ taken_in (take k ls)
marked ls bs taken listable m mark k q e =
    e ∙ ap (λ a. taken_by (take k a.blocks)) (sym q.seen) ∙ starts_at ls bs k (within_bytes ls bs taken listable m q)

pub mark_within : (ls bs : List ℕ) (taken listable mark k : ℕ) → IsLaidOut ls bs taken listable → mark ≡ taken_in (take k ls) → mark ≤ taken
mark_within ls bs taken listable mark k q e =
    let a : taken_in (take k ls) ≤ taken_in ls = taken_in-take k ls in omega (arith, a, e, q.taken_is)

pub pop_laid : (ls bs : List ℕ) (taken listable mark k : ℕ) → IsLaidOut ls bs taken listable → mark ≡ taken_in (take k ls)
    → IsLaidOut (take k ls) (with_bytes_at bs mark (replicate (taken - mark) 0)) mark listable
pop_laid ls bs taken listable mark k q e =
    let w : mark ≤ taken = mark_within ls bs taken listable mark k q e in
    let l : length {A = ℕ} (replicate (taken - mark) 0) ≡ taken - mark = length-replicate (taken - mark) 0 in
    let i : mark + length {A = ℕ} (replicate (taken - mark) 0) ≤ length bs = omega (arith, l, w, q.within) in
    let j : (mark + 0) + length {A = ℕ} (replicate (taken - mark) 0) ≤ length bs = omega (arith, i) in
    let z : mark ≡ mark + 0 = omega arith in
    let n : length (with_bytes_at bs mark (replicate (taken - mark) 0)) ≡ length bs = length-with bs mark (replicate (taken - mark) 0) i in
    let s : mark + (0 + length {A = ℕ} (replicate (taken - mark) 0)) ≡ taken = omega (arith, l, w) in
    let t : (taken - mark) + (length bs - taken) ≡ length (with_bytes_at bs mark (replicate (taken - mark) 0)) - mark = omega (arith, n, w, q.within) in
    record {
      limit = omega (arith, n, q.limit);
      taken_is = e;
      within = omega (arith, n, w, q.within);
      filled = All-take (λ k. 0 < k) k ls q.filled;
      rest_is = ap (λ a. drop mark (with_bytes_at bs a (replicate (taken - mark) 0))) z
          ∙ drop-with_shift bs mark 0 (replicate (taken - mark) 0) j
          ∙ ap (λ i. replicate (taken - mark) 0 ++ i) (drop-drop (0 + length {A = ℕ} (replicate (taken - mark) 0)) mark bs ∙ ap (λ a. drop a bs) s ∙ q.rest_is)
          ∙ replicate-append-replicate (taken - mark) (length bs - taken) 0
          ∙ ap (λ a. replicate a 0) t;
      listed = subst (λ n. n / 16 ≤ listable) (sym n) q.listed;
    }

pub pop_seen : (ls bs : List ℕ) (taken listable : ℕ) (m : Memory) (mark k : ℕ) → IsKept ls bs taken listable m → mark ≡ taken_in (take k ls)
    → memory_of (take k ls) (with_bytes_at bs mark (replicate (taken - mark) 0)) ≡ record m { blocks = take k m.blocks }
pop_seen ls bs taken listable m mark k q e =
    let w : mark ≤ taken = mark_within ls bs taken listable mark k q.laid e in
    let l : length {A = ℕ} (replicate (taken - mark) 0) ≡ taken - mark = length-replicate (taken - mark) 0 in
    let i : mark + length {A = ℕ} (replicate (taken - mark) 0) ≤ length bs = omega (arith, l, w, q.laid.within) in
    let j : taken_in (take k ls) ≤ mark = omega (arith, e) in
    let n : length (with_bytes_at bs mark (replicate (taken - mark) 0)) ≡ m.size = length-with bs mark (replicate (taken - mark) 0) i ∙ size_is ls bs taken listable m q in
    let b : blocks_in (take k ls) (with_bytes_at bs mark (replicate (taken - mark) 0)) ≡ take k m.blocks =
    blocks-with (take k ls) bs mark (replicate (taken - mark) 0) i j ∙ sym (take-blocks k ls bs) ∙ ap (λ a. take k a.blocks) q.seen in
    ap (λ a. record { size = a; blocks = blocks_in (take k ls) (with_bytes_at bs mark (replicate (taken - mark) 0)) }) n ∙ ap (λ a. record m { blocks = a }) b
