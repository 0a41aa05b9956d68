-- Laws of a temporary block.
use Rattle.std.proofs.Common.{ℕ, zero, suc, ◌+◌, ◌-◌, ◌<◌, ◌≤◌, ◌≡◌, ◌≢◌, List, [], ◌∷◌, ◌++◌, Bool, true, false, length, replicate, nat_le, if◌then◌else◌, Option, Some, None, IfSome, MatchOption, slice_get, slice_set, refl, ap, sym, ◌∙◌, subst, arith, inl, inr}
use Rattle.std.proofs.lemmas.Bool.{le-leb, lt-leb}
use Rattle.std.proofs.lemmas.List.{length-replicate}
use Rattle.std.proofs.lemmas.Option.{slice_get_within}
use Rattle.sgx_base.specs.Bytes.{rounded_size}
use Rattle.enclave_memory.specs.declared.Block.{Block}
use Rattle.enclave_memory.specs.Memory.{Memory, taken_by, room_of, IsPush}
use Rattle.enclave_memory.proofs.Blocks.{taken_by-cons, taken_by-append, pushed_block}
use Rattle.body_vm.specs.State.{State, with_new_block}
use Rattle.body_vm.specs.Places.{bytes_at, blocks_in, IsNumbered, AreNumbered, IsAbsent, AreApart, IsHeld, IsPast, AreBehind, AreAsLong}
use Rattle.body_vm.specs.Moments.{IsBegun}
use Rattle.body_vm.proofs.PlaceLaws.{still_numbered, behind_same}

get_more : (xs ys : List (List ℕ)) (n : ℕ) (b : List ℕ) → slice_get xs n ≡ Some b → slice_get (xs ++ ys) n ≡ Some b
get_more [] ys n b e = absurd (cc)
get_more (x ∷ xs) ys zero b e = e
get_more (x ∷ xs) ys (suc n) b e = get_more xs ys n b e

get_end : (xs : List (List ℕ)) (b : List ℕ) → slice_get (xs ++ b ∷ []) (length xs) ≡ Some b
get_end [] b = refl
get_end (x ∷ xs) b = get_end xs b

numbered_set : (m : Memory) (blocks : List (Option Block)) (numbers : List (Option ℕ)) (place : ℕ) (block : Option Block) (number : Option ℕ)
    → AreNumbered m blocks numbers → IsNumbered m block number → AreNumbered m (slice_set blocks place block) (slice_set numbers place number)
numbered_set m [] [] place block number h i = tt
numbered_set m [] (n ∷ numbers) place block number h i = absurd h
numbered_set m (b ∷ blocks) [] place block number h i = absurd h
numbered_set m (b ∷ blocks) (n ∷ numbers) zero block number h i = (i, h.1)
numbered_set m (b ∷ blocks) (n ∷ numbers) (suc place) block number h i = (h.0, numbered_set m blocks numbers place block number h.1 i)

-- a number past all blocks is none of theirs
fresh : (m : Memory) (blocks : List (Option Block)) (numbers : List (Option ℕ)) (n : ℕ) → AreNumbered m blocks numbers → length m.blocks ≤ n → IsAbsent n numbers
fresh m [] [] n h l = tt
fresh m [] (x ∷ numbers) n h l = absurd h
fresh m (b ∷ blocks) [] n h l = absurd h
fresh m (None ∷ blocks) (None ∷ numbers) n h l = ((λ e. cc), fresh m blocks numbers n h.1 l)
fresh m (None ∷ blocks) (Some k ∷ numbers) n h l = absurd h.0
fresh m (Some b ∷ blocks) (None ∷ numbers) n h l = absurd h.0
fresh m (Some b ∷ blocks) (Some k ∷ numbers) n h l =
    let (bytes, is) = h.0 in
    let w : k < length m.blocks = slice_get_within m.blocks k bytes is.bytes_are in
    ((λ e. let same : k ≡ n = cc in omega (arith, same, w, l)), fresh m blocks numbers n h.1 l)

absent_null : (n place : ℕ) (numbers : List (Option ℕ)) → IsAbsent n numbers → IsAbsent n (slice_set numbers place None)
absent_null n place [] a = tt
absent_null n zero (x ∷ numbers) a = ((λ e. cc), a.1)
absent_null n (suc place) (x ∷ numbers) a = (a.0, absent_null n place numbers a.1)

absent_set : (n k place : ℕ) (numbers : List (Option ℕ)) → IsAbsent n numbers → n ≢ k → IsAbsent n (slice_set numbers place (Some k))
absent_set n k place [] a h = tt
absent_set n k zero (x ∷ numbers) a h = ((λ e. h (let same : k ≡ n = cc in sym same)), a.1)
absent_set n k (suc place) (x ∷ numbers) a h = (a.0, absent_set n k place numbers a.1 h)

apart_null : (numbers : List (Option ℕ)) (place : ℕ) → AreApart numbers → AreApart (slice_set numbers place None)
apart_null [] place a = tt
apart_null (None ∷ numbers) zero a = a
apart_null (Some n ∷ numbers) zero a = a.1
apart_null (None ∷ numbers) (suc place) a = apart_null numbers place a
apart_null (Some n ∷ numbers) (suc place) a = (absent_null n place numbers a.0, apart_null numbers place a.1)

apart_set : (numbers : List (Option ℕ)) (place k : ℕ) → AreApart numbers → IsAbsent k numbers → AreApart (slice_set numbers place (Some k))
apart_set [] place k a h = tt
apart_set (None ∷ numbers) zero k a h = (h.1, a)
apart_set (Some n ∷ numbers) zero k a h = (h.1, a.1)
apart_set (None ∷ numbers) (suc place) k a h = apart_set numbers place k a h.1
apart_set (Some n ∷ numbers) (suc place) k a h = (absent_set n k place numbers a.0 (λ same. h.0 (ap (λ i. Some i) same)), apart_set numbers place k a.1 h.1)

behind_set : (count : ℕ) (numbers : List (Option ℕ)) (place : ℕ) (number : Option ℕ) → IsPast count number → AreBehind count numbers (slice_set numbers place number)
behind_set count [] place number p = tt
behind_set count (n ∷ numbers) zero number p = (inr p, behind_same count numbers)
behind_set count (n ∷ numbers) (suc place) number p = (inl refl, behind_set count numbers place number p)

blocks_set : (m : Memory) (numbers : List (Option ℕ)) (place : ℕ) (number : Option ℕ) → blocks_in m (slice_set numbers place number) ≡ slice_set (blocks_in m numbers) place (bytes_at m number)
blocks_set m [] place number = refl
blocks_set m (n ∷ numbers) zero number = refl
blocks_set m (n ∷ numbers) (suc place) number = ap (λ bs. bytes_at m n ∷ bs) (blocks_set m numbers place number)

blocks_more : (before after : Memory) (blocks : List (Option Block)) (numbers : List (Option ℕ)) → ((n : ℕ) (b : List ℕ) → slice_get before.blocks n ≡ Some b → slice_get after.blocks n ≡ Some b)
    → AreNumbered before blocks numbers → blocks_in after numbers ≡ blocks_in before numbers
blocks_more before after [] [] f h = refl
blocks_more before after [] (n ∷ numbers) f h = absurd h
blocks_more before after (b ∷ blocks) [] f h = absurd h
blocks_more before after (None ∷ blocks) (None ∷ numbers) f h = ap (λ bs. None ∷ bs) (blocks_more before after blocks numbers f h.1)
blocks_more before after (None ∷ blocks) (Some n ∷ numbers) f h = absurd h.0
blocks_more before after (Some b ∷ blocks) (None ∷ numbers) f h = absurd h.0
blocks_more before after (Some b ∷ blocks) (Some n ∷ numbers) f h =
    let (bytes, is) = h.0 in
    ap (λ x. x ∷ blocks_in after numbers) (f n bytes is.bytes_are ∙ sym is.bytes_are) ∙ ap (λ bs. slice_get before.blocks n ∷ bs) (blocks_more before after blocks numbers f h.1)

-- a place with a new block, where it fits or does not
new_state : (s : State) (place n : ℕ) (fits : Bool) → nat_le (rounded_size n) s.room ≡ fits
    → with_new_block s place n ≡ (if fits then record s { blocks = slice_set s.blocks place (Some (replicate n 0)); room = s.room - rounded_size n } else record s { blocks = slice_set s.blocks place None })
new_state s place n fits e = ap (λ (b : Bool). if b then record s { blocks = slice_set s.blocks place (Some (replicate n 0)); room = s.room - rounded_size n } else record s { blocks = slice_set s.blocks place None }) e

not_begun : (m : Memory) (blocks : List (Option Block)) (numbers : List (Option ℕ)) (place n : ℕ) → IsHeld m blocks numbers → room_of m < rounded_size n
    → IsBegun m m (slice_set blocks place None) numbers place n
not_begun m blocks numbers place n held h = record {
  later = slice_set numbers place None;
  held = record { numbered = numbered_set m blocks numbers place None None held.numbered tt; apart = apart_null numbers place held.apart };
  kept = record { size = refl; lengths = λ k bytes e. (bytes, e, refl); others = λ k bytes e a. e; behind = behind_set (length m.blocks) numbers place None tt };
  state = λ registers values.
      ap (λ bs. record { registers = registers; values = values; blocks = bs; room = room_of m }) (blocks_set m numbers place None)
      ∙ sym (new_state (record { registers = registers; values = values; blocks = blocks_in m numbers; room = room_of m }) place n false (lt-leb (rounded_size n) (room_of m) h));
}

pushed : (before after : Memory) (blocks : List (Option Block)) (numbers : List (Option ℕ)) (place n : ℕ) (block : Block) → IsHeld before blocks numbers → IsPush before after block (replicate n 0)
    → rounded_size n ≤ room_of before → IsBegun before after (slice_set blocks place (Some block)) numbers place n
pushed before after blocks numbers place n block held push fits =
    let count : ℕ = length before.blocks in
    let more : (k : ℕ) (b : List ℕ) → slice_get before.blocks k ≡ Some b → slice_get after.blocks k ≡ Some b = λ k b e. ap (λ (m : Memory). slice_get m.blocks k) push.pushed ∙ get_more before.blocks (replicate n 0 ∷ []) k b e in
    let last : slice_get after.blocks count ≡ Some (replicate n 0) = ap (λ (m : Memory). slice_get m.blocks count) push.pushed ∙ get_end before.blocks (replicate n 0) in
    let long : AreAsLong before.blocks after.blocks = λ k b e. (b, more k b e, refl) in
    let room : room_of after ≡ room_of before - rounded_size n = ap (λ m. room_of m) push.pushed ∙ room_less before.size before.blocks n in
    record {
      later = slice_set numbers place (Some count);
      held = record {
        numbered = numbered_set after blocks numbers place (Some block) (Some count) (still_numbered before after blocks numbers long held.numbered) (replicate n 0, pushed_block before after block (replicate n 0) push);
        apart = apart_set numbers place count held.apart (fresh before blocks numbers count held.numbered (omega arith));
      };
      kept = record { size = ap (λ (m : Memory). m.size) push.pushed; lengths = long; others = λ k bytes e a. more k bytes e; behind = behind_set count numbers place (Some count) (omega arith) };
      state = λ registers values.
          ap (λ bs. record { registers = registers; values = values; blocks = bs; room = room_of after })
          (blocks_set after numbers place (Some count) ∙ ap (λ bs. slice_set bs place (slice_get after.blocks count)) (blocks_more before after blocks numbers more held.numbered) ∙ ap (λ b. slice_set (blocks_in before numbers) place b) last)
          ∙ ap (λ r. record { registers = registers; values = values; blocks = slice_set (blocks_in before numbers) place (Some (replicate n 0)); room = r }) room
          ∙ sym (new_state (record { registers = registers; values = values; blocks = blocks_in before numbers; room = room_of before }) place n true (le-leb (rounded_size n) (room_of before) fits));
    }
  where
    room_less : (size : ℕ) (bs : List (List ℕ)) (n : ℕ) → size - taken_by (bs ++ replicate n 0 ∷ []) ≡ (size - taken_by bs) - rounded_size n
    room_less size bs n =
        let e : taken_by (bs ++ replicate n 0 ∷ []) ≡ taken_by bs + taken_by (replicate n 0 ∷ []) = taken_by-append bs (replicate n 0 ∷ []) in
        let f : taken_by (replicate n 0 ∷ []) ≡ rounded_size (length {A = ℕ} (replicate n 0)) + taken_by [] = taken_by-cons (replicate n 0) [] in
        let g : rounded_size (length {A = ℕ} (replicate n 0)) ≡ rounded_size n = ap (λ i. rounded_size i) (length-replicate {A = ℕ} n 0) in
        let z : taken_by [] ≡ 0 = refl in
        omega (arith, e, f, g, z)

-- a push, or none
pub begun : (before after : Memory) (blocks now : List (Option Block)) (numbers : List (Option ℕ)) (place n : ℕ) (result : Option Block) → IsHeld before blocks numbers
    → MatchOption result ((after ≡ before) × (room_of before < rounded_size n)) (λ block. IsPush before after block (replicate n 0)) → IfSome result (λ block. rounded_size n ≤ room_of before)
    → now ≡ slice_set blocks place result → IsBegun before after now numbers place n
begun before after blocks now numbers place n None held p fits e =
    subst (λ bs. IsBegun before after bs numbers place n) (sym e) (subst (λ m. IsBegun before m (slice_set blocks place None) numbers place n) (sym p.0) (not_begun before blocks numbers place n held p.1))
begun before after blocks now numbers place n (Some block) held p fits e =
    subst (λ bs. IsBegun before after bs numbers place n) (sym e) (pushed before after blocks numbers place n block held p fits)
