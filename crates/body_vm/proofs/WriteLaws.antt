-- Laws of blocks that are written byte by byte.
use Rattle.std.proofs.Common.{ℕ, zero, suc, ◌+◌, ◌<◌, ◌≡◌, ◌≢◌, List, [], ◌∷◌, ◌++◌, length, take, drop, min, get_or, Some, slice_get, slice_set, refl, ap, sym, ◌∙◌, arith}
use Rattle.std.proofs.lemmas.List.{take-append-drop}
use Rattle.sgx_base.specs.Bytes.{with_bytes_at}
use Rattle.enclave_memory.specs.declared.Block.{Block}
use Rattle.enclave_memory.specs.Memory.{Memory, IsBlock}
use Rattle.enclave_memory.proofs.Blocks.{written_block}
use Rattle.body_vm.specs.State.{overlay}
use Rattle.body_vm.proofs.PlaceLaws.{set_same, set_twice, other_block}

-- one byte written over the bytes from its place on
pub with_byte : (xs : List ℕ) (i y : ℕ) → i < length xs → with_bytes_at xs i (y ∷ []) ≡ slice_set xs i y
with_byte [] i y h = absurd (omega (arith, h))
with_byte (x ∷ xs) zero y h = refl
with_byte (x ∷ xs) (suc i) y h =
    let e : suc i + 1 ≡ suc (i + 1) = omega arith in
    ap (λ n. x ∷ (take i xs ++ y ∷ []) ++ drop n (x ∷ xs)) e ∙ ap (λ ys. x ∷ ys) (with_byte xs i y (omega (arith, h)))

-- one more byte of the new list
pub one_more : (new old : List ℕ) (k d : ℕ) → length new ≡ length old → k < length old → slice_set (take k new ++ drop k old) k (get_or new k d) ≡ take (k + 1) new ++ drop (k + 1) old
one_more [] old k d l h = absurd (omega (arith, l, h))
one_more (x ∷ new) [] k d l h = absurd (omega (arith, h))
one_more (x ∷ new) (y ∷ old) zero d l h = refl
one_more (x ∷ new) (y ∷ old) (suc k) d l h =
    let e : suc k + 1 ≡ suc (k + 1) = omega arith in
    ap (λ ys. x ∷ ys) (one_more new old k d (omega (arith, l)) (omega (arith, h))) ∙ ap (λ n. take n (x ∷ new) ++ drop n (y ∷ old)) (sym e)

length_partly : (new old : List ℕ) (k : ℕ) → length new ≡ length old → length (take k new ++ drop k old) ≡ length old
length_partly new old zero l = refl
length_partly [] [] (suc k) l = refl
length_partly [] (y ∷ old) (suc k) l = absurd (omega (arith, l))
length_partly (x ∷ new) [] (suc k) l = absurd (omega (arith, l))
length_partly (x ∷ new) (y ∷ old) (suc k) l = ap (λ n. suc n) (length_partly new old k (omega (arith, l)))

take_all : (new old : List ℕ) (k : ℕ) → length new ≡ length old → k ≡ length old → take k new ++ drop k old ≡ new
take_all [] [] k l e = rw e refl
take_all [] (y ∷ old) k l e = absurd (omega (arith, l))
take_all (x ∷ new) [] k l e = absurd (omega (arith, l))
take_all (x ∷ new) (y ∷ old) zero l e = absurd (omega (arith, e))
take_all (x ∷ new) (y ∷ old) (suc k) l e = ap (λ ys. x ∷ ys) (take_all new old k (omega (arith, l)) (omega (arith, e)))

-- a block whose first bytes are those of a new list
pub record IsPartly (before now : Memory) (number k : ℕ) (old new : List ℕ) : Type 0 where
  pub long : length new ≡ length old
  pub was : slice_get before.blocks number ≡ Some old
  pub is : now ≡ record before { blocks = slice_set before.blocks number (take k new ++ drop k old) }

pub partly_first : (before : Memory) (block : Block) (number : ℕ) (old new : List ℕ) → IsBlock before block number old → length new ≡ length old → IsPartly before before number 0 old new
partly_first before block number old new b l = record { long = l; was = b.bytes_are; is = ap (λ bs. record before { blocks = bs }) (sym (set_same before.blocks number old b.bytes_are)) }

pub partly_block : (before now : Memory) (block : Block) (number k : ℕ) (old new : List ℕ) → IsBlock before block number old → IsPartly before now number k old new
    → IsBlock now block number (take k new ++ drop k old)
partly_block before now block number k old new b p = written_block before now block number old (take k new ++ drop k old) b (length_partly new old k p.long) p.is

-- another block stays
pub partly_other : (before now : Memory) (block : Block) (number other k : ℕ) (old new bytes : List ℕ) → IsPartly before now number k old new → number ≢ other
    → IsBlock before block other bytes → IsBlock now block other bytes
partly_other before now block number other k old new bytes p h b = other_block before now block number other old (take k new ++ drop k old) bytes p.was (length_partly new old k p.long) p.is h b

pub partly_more : (before now after : Memory) (number k byte : ℕ) (old new : List ℕ) → IsPartly before now number k old new → k < length old → byte ≡ get_or new k 0
    → after ≡ record now { blocks = slice_set now.blocks number (slice_set (take k new ++ drop k old) k byte) } → IsPartly before after number (k + 1) old new
partly_more before now after number k byte old new p h e f = record {
  long = p.long;
  was = p.was;
  is = f ∙ ap (λ (m : Memory). record m { blocks = slice_set m.blocks number (slice_set (take k new ++ drop k old) k byte) }) p.is
      ∙ ap (λ bs. record before { blocks = bs }) (set_twice before.blocks number (take k new ++ drop k old) (slice_set (take k new ++ drop k old) k byte))
      ∙ ap (λ b. record before { blocks = slice_set before.blocks number (slice_set (take k new ++ drop k old) k b) }) e
      ∙ ap (λ b. record before { blocks = slice_set before.blocks number b }) (one_more new old k 0 p.long h);
}

pub partly_end : (before now : Memory) (number k : ℕ) (old new : List ℕ) → IsPartly before now number k old new → k ≡ length old → now ≡ record before { blocks = slice_set before.blocks number new }
partly_end before now number k old new p e = p.is ∙ ap (λ b. record before { blocks = slice_set before.blocks number b }) (take_all new old k p.long e)

nothing_left : (those : List ℕ) → drop {A = ℕ} (length those) [] ≡ []
nothing_left [] = refl
nothing_left (y ∷ those) = refl

-- overlaid bytes are as many as before
pub length_overlay : (these those : List ℕ) → length (overlay these those) ≡ length these
length_overlay [] those = ap (λ (xs : List ℕ). length xs) (nothing_left those)
length_overlay (x ∷ these) [] = refl
length_overlay (x ∷ these) (y ∷ those) = ap (λ n. suc n) (length_overlay these those)

-- a byte of both is one of the second
pub overlay_at : (these those : List ℕ) (k : ℕ) → k < length these → k < length those → get_or (overlay these those) k 0 ≡ get_or those k 0
overlay_at [] those k h i = absurd (omega (arith, h))
overlay_at (x ∷ these) [] k h i = absurd (omega (arith, i))
overlay_at (x ∷ these) (y ∷ those) zero h i = refl
overlay_at (x ∷ these) (y ∷ those) (suc k) h i = overlay_at these those k (omega (arith, h)) (omega (arith, i))

-- once as many as both have are copied, all is
pub overlay_done : (these those : List ℕ) (k : ℕ) → k ≡ min (length these) (length those) → take k (overlay these those) ++ drop k these ≡ overlay these those
overlay_done [] those k e = ap (λ (xs : List ℕ). take k xs ++ drop {A = ℕ} k []) (nothing_left those) ∙ take-append-drop {A = ℕ} k [] ∙ sym (nothing_left those)
overlay_done (x ∷ these) [] k e = take-append-drop k (x ∷ these)
overlay_done (x ∷ these) (y ∷ those) zero e = absurd (omega (arith, e))
overlay_done (x ∷ these) (y ∷ those) (suc k) e = ap (λ ys. y ∷ ys) (overlay_done these those k (omega (arith, e)))

-- bytes over themselves
pub overlay_self : (these : List ℕ) → overlay these these ≡ these
overlay_self these = take-append-drop (length these) these

-- nothing over them
pub overlay_none : (these : List ℕ) → overlay these [] ≡ these
overlay_none [] = refl
overlay_none (x ∷ these) = refl
