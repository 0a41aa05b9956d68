-- The arena after an OCALL, by the places of a body's blocks: the blocks at other places stay, and so does each length.
use Rattle.std.proofs.Common.{ℕ, zero, suc, ◌+◌, ◌-◌, ◌≡◌, ◌≢◌, ◌≤◌, List, [], ◌∷◌, length, map, take, Option, Some, None, option_map, slice_get, slice_set, refl, ap, sym, ◌∙◌, subst, arith, length-set}
use Rattle.std.specs.Prelude.{unwrap_or, option_and_then}
use Rattle.std.proofs.lemmas.List.{length-map}
use Rattle.sgx_base.specs.Bytes.{rounded_size}
use Rattle.edl_interface.specs.declared.Param.{Param}
use Rattle.enclave_memory.specs.declared.Block.{Block}
use Rattle.enclave_memory.specs.declared.Arg.{Arg}
use Rattle.enclave_memory.specs.declared.Arg.TheVariants.{Bytes as arg_bytes}
use Rattle.enclave_memory.specs.Memory.{Memory, taken_by, room_of}
use Rattle.enclave_memory.proofs.Blocks.{taken_by-cons}
use Rattle.enclave_memory.specs.Arguments.{Argument, bytes, argument_of, Passed, by_number, by_place, places_in, IsPassed, ArePassed, blocks_of, arguments_in}
use Rattle.body_vm.specs.Places.{blocks_in, IsNumbered, AreNumbered, IsAbsent, AreApart, AreAsLong, IsHeld, IsKept}
use Rattle.body_vm.specs.Moments.{handed}
use Rattle.body_vm.proofs.PlaceLaws.{get_set_other, still_numbered, absent_other, behind_same}
use Rattle.ocall_frames.specs.Frames.{block_after, blocks_after, IsArenaAfter}
use Rattle.ocall_frames.specs.Replies.{KeepsBlocks}

-- the bytes at a place, null where there is none
abbrev at_place : List (Option (List ℕ)) → ℕ → Option (List ℕ)
at_place blocks n = unwrap_or (slice_get blocks n) None

-- the bytes at these places
abbrev picked : List (Option (List ℕ)) → List (Option ℕ) → List (Option (List ℕ))
picked blocks [] = []
picked blocks (None ∷ numbers) = None ∷ picked blocks numbers
picked blocks (Some n ∷ numbers) = at_place blocks n ∷ picked blocks numbers

-- the number of the block at a place, null where there is none
abbrev number_at : List (Option ℕ) → ℕ → Option ℕ
number_at numbers place = unwrap_or (slice_get numbers place) None

abbrev number_of : List (Option ℕ) → Option ℕ → Option ℕ
number_of numbers None = None
number_of numbers (Some place) = number_at numbers place

-- the argument with its block named by its number
abbrev pub numbered : List (Option ℕ) → Passed → Passed
numbered numbers (by_number n) = by_number n
numbered numbers (by_place place) = by_place (number_of numbers place)

-- ---- one block

at_map : (xs : List (List ℕ)) (n : ℕ) → at_place (map (λ b. Some b) xs) n ≡ slice_get xs n
at_map [] n = refl
at_map (x ∷ xs) zero = refl
at_map (x ∷ xs) (suc n) = at_map xs n

picked_in : (m : Memory) (numbers : List (Option ℕ)) → picked (blocks_of m) numbers ≡ blocks_in m numbers
picked_in m [] = refl
picked_in m (None ∷ numbers) = ap (λ l. None ∷ l) (picked_in m numbers)
picked_in m (Some n ∷ numbers) = ap (λ b. b ∷ picked (blocks_of m) numbers) (at_map m.blocks n) ∙ ap (λ l. slice_get m.blocks n ∷ l) (picked_in m numbers)

at_same : (xs : List (Option (List ℕ))) (n : ℕ) (g : List ℕ → List ℕ) → at_place (slice_set xs n (option_map g (at_place xs n))) n ≡ option_map g (at_place xs n)
at_same [] n g = refl
at_same (x ∷ xs) zero g = refl
at_same (x ∷ xs) (suc n) g = at_same xs n g

at_other : (xs : List (Option (List ℕ))) (n j : ℕ) (y : Option (List ℕ)) → j ≢ n → at_place (slice_set xs n y) j ≡ at_place xs j
at_other xs n j y h = ap (λ b. unwrap_or b None) (get_set_other xs n j y h)

picked_absent : (xs : List (Option (List ℕ))) (n : ℕ) (y : Option (List ℕ)) (numbers : List (Option ℕ)) → IsAbsent n numbers → picked (slice_set xs n y) numbers ≡ picked xs numbers
picked_absent xs n y [] a = refl
picked_absent xs n y (None ∷ numbers) a = ap (λ l. None ∷ l) (picked_absent xs n y numbers a.1)
picked_absent xs n y (Some k ∷ numbers) a =
    ap (λ b. b ∷ picked (slice_set xs n y) numbers) (at_other xs n k y (λ e. a.0 (ap (λ i. Some i) e))) ∙ ap (λ l. at_place xs k ∷ l) (picked_absent xs n y numbers a.1)

found_at : (numbers : List (Option ℕ)) (k n : ℕ) → number_at numbers k ≡ Some n → slice_get numbers k ≡ Some (Some n)
found_at [] k n e = absurd cc
found_at (x ∷ numbers) zero n e = ap (λ i. Some i) e
found_at (x ∷ numbers) (suc k) n e = found_at numbers k n e

-- a change of the block of the number is one of the block at its place
picked_set : (xs : List (Option (List ℕ))) (numbers : List (Option ℕ)) (k n : ℕ) (g : List ℕ → List ℕ) → AreApart numbers → number_at numbers k ≡ Some n
    → picked (slice_set xs n (option_map g (at_place xs n))) numbers ≡ slice_set (picked xs numbers) k (option_map g (at_place (picked xs numbers) k))
picked_set xs [] k n g a e = absurd cc
picked_set xs (None ∷ numbers) zero n g a e = absurd cc
picked_set xs (Some j ∷ numbers) zero n g a e =
    let same : j ≡ n = cc in
    ap (λ b. b ∷ picked (slice_set xs n (option_map g (at_place xs n))) numbers)
    (subst (λ i. at_place (slice_set xs i (option_map g (at_place xs i))) j ≡ option_map g (at_place xs j)) same (at_same xs j g))
    ∙ ap (λ l. option_map g (at_place xs j) ∷ l) (picked_absent xs n (option_map g (at_place xs n)) numbers (subst (λ i. IsAbsent i numbers) same a.0))
picked_set xs (None ∷ numbers) (suc k) n g a e = ap (λ l. None ∷ l) (picked_set xs numbers k n g a e)
picked_set xs (Some j ∷ numbers) (suc k) n g a e =
    ap (λ b. b ∷ picked (slice_set xs n (option_map g (at_place xs n))) numbers) (at_other xs n j (option_map g (at_place xs n)) (absent_other j n k numbers a.0 (found_at numbers k n e)))
    ∙ ap (λ l. at_place xs j ∷ l) (picked_set xs numbers k n g a.1 e)

picked_null : (xs : List (Option (List ℕ))) (numbers : List (Option ℕ)) (k : ℕ) (g : List ℕ → List ℕ) → number_at numbers k ≡ None
    → picked xs numbers ≡ slice_set (picked xs numbers) k (option_map g (at_place (picked xs numbers) k))
picked_null xs [] k g e = refl
picked_null xs (None ∷ numbers) zero g e = refl
picked_null xs (Some j ∷ numbers) zero g e = absurd cc
picked_null xs (None ∷ numbers) (suc k) g e = ap (λ l. None ∷ l) (picked_null xs numbers k g e)
picked_null xs (Some j ∷ numbers) (suc k) g e = ap (λ l. at_place xs j ∷ l) (picked_null xs numbers k g e)

-- ---- all blocks

one_back : (numbers : List (Option ℕ)) (apart : AreApart numbers) (p : Param) (params : List Param) (k : ℕ) (others places : List (Option ℕ)) (these : Option (List ℕ))
    (loaded : List (Option (List ℕ))) (xs : List (Option (List ℕ)))
    → ((ys : List (Option (List ℕ))) → picked (blocks_after params others loaded ys) numbers ≡ blocks_after params places loaded (picked ys numbers))
    → (n : Option ℕ) → number_at numbers k ≡ n
    → picked (blocks_after (p ∷ params) (n ∷ others) (these ∷ loaded) xs) numbers ≡ blocks_after (p ∷ params) (Some k ∷ places) (these ∷ loaded) (picked xs numbers)
one_back numbers apart p params k others places these loaded xs more None e =
    more xs ∙ ap (λ ys. blocks_after params places loaded ys) (picked_null xs numbers k (block_after p.class these) e)
one_back numbers apart p params k others places these loaded xs more (Some n) e =
    more (slice_set xs n (option_map (block_after p.class these) (at_place xs n)))
    ∙ ap (λ ys. blocks_after params places loaded ys) (picked_set xs numbers k n (block_after p.class these) apart e)

all_back : (numbers : List (Option ℕ)) (apart : AreApart numbers) (params : List Param) (places : List (Option ℕ)) (loaded : List (Option (List ℕ))) (xs : List (Option (List ℕ)))
    → picked (blocks_after params (map (number_of numbers) places) loaded xs) numbers ≡ blocks_after params places loaded (picked xs numbers)
all_back numbers apart [] places loaded xs = refl
all_back numbers apart (p ∷ params) [] loaded xs = refl
all_back numbers apart (p ∷ params) (None ∷ places) [] xs = refl
all_back numbers apart (p ∷ params) (None ∷ places) (these ∷ loaded) xs = all_back numbers apart params places loaded xs
all_back numbers apart (p ∷ params) (Some k ∷ places) [] xs = none_back (number_at numbers k)
  where
    none_back : (n : Option ℕ) → picked (blocks_after (p ∷ params) (n ∷ map (number_of numbers) places) [] xs) numbers ≡ picked xs numbers
    none_back None = refl
    none_back (Some n) = refl
all_back numbers apart (p ∷ params) (Some k ∷ places) (these ∷ loaded) xs =
    one_back numbers apart p params k (map (number_of numbers) places) places these loaded xs (all_back numbers apart params places loaded) (number_at numbers k) refl

places_are : (numbers : List (Option ℕ)) (passed : List Passed) → places_in (map (numbered numbers) passed) ≡ map (number_of numbers) (places_in passed)
places_are numbers [] = refl
places_are numbers (by_number n ∷ passed) = places_are numbers passed
places_are numbers (by_place place ∷ passed) = ap (λ l. number_of numbers place ∷ l) (places_are numbers passed)

-- a block without one of the numbers stays
others_stay : (params : List Param) (numbers : List (Option ℕ)) (loaded xs : List (Option (List ℕ))) (n : ℕ) → IsAbsent n numbers → slice_get (blocks_after params numbers loaded xs) n ≡ slice_get xs n
others_stay [] numbers loaded xs n a = refl
others_stay (p ∷ params) [] loaded xs n a = refl
others_stay (p ∷ params) (None ∷ numbers) [] xs n a = refl
others_stay (p ∷ params) (Some k ∷ numbers) [] xs n a = refl
others_stay (p ∷ params) (None ∷ numbers) (these ∷ loaded) xs n a = others_stay params numbers loaded xs n a.1
others_stay (p ∷ params) (Some k ∷ numbers) (these ∷ loaded) xs n a =
    others_stay params numbers loaded (slice_set xs k (option_map (block_after p.class these) (at_place xs k))) n a.1
    ∙ get_set_other xs k n (option_map (block_after p.class these) (at_place xs k)) (λ e. a.0 (ap (λ i. Some i) (sym e)))

absent_at : (n k : ℕ) (numbers : List (Option ℕ)) → IsAbsent n numbers → number_at numbers k ≢ Some n
absent_at n k [] a = λ e. cc
absent_at n zero (x ∷ numbers) a = a.0
absent_at n (suc k) (x ∷ numbers) a = absent_at n k numbers a.1

all_absent : (n : ℕ) (numbers : List (Option ℕ)) → IsAbsent n numbers → (places : List (Option ℕ)) → IsAbsent n (map (number_of numbers) places)
all_absent n numbers a [] = tt
all_absent n numbers a (None ∷ places) = ((λ e. cc), all_absent n numbers a places)
all_absent n numbers a (Some k ∷ places) = (absent_at n k numbers a, all_absent n numbers a places)

count_after : (params : List Param) (numbers : List (Option ℕ)) (loaded xs : List (Option (List ℕ))) → length (blocks_after params numbers loaded xs) ≡ length xs
count_after [] numbers loaded xs = refl
count_after (p ∷ params) [] loaded xs = refl
count_after (p ∷ params) (None ∷ numbers) [] xs = refl
count_after (p ∷ params) (Some k ∷ numbers) [] xs = refl
count_after (p ∷ params) (None ∷ numbers) (these ∷ loaded) xs = count_after params numbers loaded xs
count_after (p ∷ params) (Some k ∷ numbers) (these ∷ loaded) xs =
    count_after params numbers loaded (slice_set xs k (option_map (block_after p.class these) (at_place xs k))) ∙ length-set xs k (option_map (block_after p.class these) (at_place xs k))

-- ---- rooms

same_taken : (xs ys : List (List ℕ)) → AreAsLong xs ys → length ys ≡ length xs → taken_by ys ≡ taken_by xs
same_taken [] [] h e = refl
same_taken [] (y ∷ ys) h e = absurd cc
same_taken (x ∷ xs) [] h e = absurd cc
same_taken (x ∷ xs) (y ∷ ys) h e =
    let (now, is, l) = h zero x refl in
    let same : y ≡ now = cc in
    let one : length y ≡ length x = ap (λ (b : List ℕ). length b) same ∙ l in
    let count : length ys ≡ length xs = omega (arith, e) in
    let more : taken_by ys ≡ taken_by xs = same_taken xs ys (λ n these found. h (suc n) these found) count in
    taken_by-cons y ys ∙ ap (λ n. rounded_size n + taken_by ys) one ∙ ap (λ n. rounded_size (length x) + n) more ∙ sym (taken_by-cons x xs)

-- ---- arguments

at_picked : (xs : List (Option (List ℕ))) (numbers : List (Option ℕ)) (k : ℕ) → option_and_then (λ n. at_place xs n) (number_at numbers k) ≡ at_place (picked xs numbers) k
at_picked xs [] k = refl
at_picked xs (None ∷ numbers) zero = refl
at_picked xs (Some n ∷ numbers) zero = refl
at_picked xs (None ∷ numbers) (suc k) = at_picked xs numbers k
at_picked xs (Some n ∷ numbers) (suc k) = at_picked xs numbers k

one_argument : (xs : List (Option (List ℕ))) (numbers : List (Option ℕ)) (p : Passed) → argument_of xs (numbered numbers p) ≡ argument_of (picked xs numbers) p
one_argument xs numbers (by_number n) = refl
one_argument xs numbers (by_place None) = refl
one_argument xs numbers (by_place (Some k)) = ap (λ b. bytes b) (at_picked xs numbers k)

all_arguments : (xs : List (Option (List ℕ))) (numbers : List (Option ℕ)) (passed : List Passed) → map (argument_of xs) (map (numbered numbers) passed) ≡ map (argument_of (picked xs numbers)) passed
all_arguments xs numbers [] = refl
all_arguments xs numbers (p ∷ passed) =
    ap (λ a. a ∷ map (argument_of xs) (map (numbered numbers) passed)) (one_argument xs numbers p) ∙ ap (λ l. argument_of (picked xs numbers) p ∷ l) (all_arguments xs numbers passed)

-- the blocks of a body as an OCALL is handed them
pub arguments_are : (m : Memory) (numbers : List (Option ℕ)) (passed : List Passed) → arguments_in m (map (numbered numbers) passed) ≡ map (argument_of (blocks_in m numbers)) passed
arguments_are m numbers passed = all_arguments (blocks_of m) numbers passed ∙ ap (λ b. map (argument_of b) passed) (picked_in m numbers)

numbered_at : (m : Memory) (blocks : List (Option Block)) (numbers : List (Option ℕ)) (k : ℕ) → AreNumbered m blocks numbers → IsNumbered m (unwrap_or (slice_get blocks k) None) (number_at numbers k)
numbered_at m [] [] k h = tt
numbered_at m [] (n ∷ numbers) k h = absurd h
numbered_at m (b ∷ blocks) [] k h = absurd h
numbered_at m (b ∷ blocks) (n ∷ numbers) zero h = h.0
numbered_at m (b ∷ blocks) (n ∷ numbers) (suc k) h = numbered_at m blocks numbers k h.1

passed_by : (m : Memory) (b : Option Block) (n : Option ℕ) → IsNumbered m b n → IsPassed m (arg_bytes b) (by_place n)
passed_by m None None h = tt
passed_by m None (Some n) h = absurd h
passed_by m (Some b) None h = absurd h
passed_by m (Some b) (Some n) h = h

one_passed : (m : Memory) (blocks : List (Option Block)) (numbers : List (Option ℕ)) (p : Passed) → AreNumbered m blocks numbers → IsPassed m (handed blocks p) (numbered numbers p)
one_passed m blocks numbers (by_number n) h = refl
one_passed m blocks numbers (by_place None) h = tt
one_passed m blocks numbers (by_place (Some k)) h = passed_by m (unwrap_or (slice_get blocks k) None) (number_at numbers k) (numbered_at m blocks numbers k h)

pub all_passed : (m : Memory) (blocks : List (Option Block)) (numbers : List (Option ℕ)) (passed : List Passed) → AreNumbered m blocks numbers
    → ArePassed m (map (handed blocks) passed) (map (numbered numbers) passed)
all_passed m blocks numbers [] h = tt
all_passed m blocks numbers (p ∷ passed) h = (one_passed m blocks numbers p h, all_passed m blocks numbers passed h)

-- ---- after the OCALL

module _ (before after : Memory) (blocks : List (Option Block)) (numbers : List (Option ℕ)) (params : List Param) (passed : List Passed) (loaded : List (Option (List ℕ)))
    (held : IsHeld before blocks numbers) (back : IsArenaAfter params (map (numbered numbers) passed) loaded before after) (keeps : KeepsBlocks before after) where
  as_long : AreAsLong before.blocks after.blocks
  as_long = λ n these e.
      let b : Block = record { at = taken_by (take n before.blocks); length = length these } in
      let (now, is, l) = keeps.blocks b n these record { starts = refl; bytes_are = e; length_is = refl } in
      (now, is.bytes_are, l)

  pub held_after : IsHeld after blocks numbers
  held_after = record { numbered = still_numbered before after blocks numbers as_long held.numbered; apart = held.apart }

  back_at : blocks_of after ≡ blocks_after params (map (number_of numbers) (places_in passed)) loaded (blocks_of before)
  back_at = back.blocks_are ∙ ap (λ places. blocks_after params places loaded (blocks_of before)) (places_are numbers passed)

  pub kept_after : IsKept before after numbers numbers
  kept_after = record {
    size = keeps.size;
    lengths = as_long;
    others = λ n these e absent.
        sym (at_map after.blocks n) ∙ ap (λ (xs : List (Option (List ℕ))). at_place xs n) back_at
        ∙ ap (λ b. unwrap_or b None) (others_stay params (map (number_of numbers) (places_in passed)) loaded (blocks_of before) n (all_absent n numbers absent (places_in passed)))
        ∙ at_map before.blocks n ∙ e;
    behind = behind_same (length before.blocks) numbers;
  }

  count_same : length after.blocks ≡ length before.blocks
  count_same =
      sym (length-map after.blocks (λ b. Some b)) ∙ ap (λ (xs : List (Option (List ℕ))). length xs) back_at
      ∙ count_after params (map (number_of numbers) (places_in passed)) loaded (blocks_of before) ∙ length-map before.blocks (λ b. Some b)

  pub room_after : room_of after ≡ room_of before
  room_after =
      ap (λ n. after.size - n) (same_taken before.blocks after.blocks as_long count_same) ∙ ap (λ n. n - taken_by before.blocks) keeps.size

  pub bytes_after : blocks_in after numbers ≡ blocks_after params (places_in passed) loaded (blocks_in before numbers)
  bytes_after =
      sym (picked_in after numbers) ∙ ap (λ (xs : List (Option (List ℕ))). picked xs numbers) back_at
      ∙ all_back numbers held.apart params (places_in passed) loaded (blocks_of before)
      ∙ ap (λ xs. blocks_after params (places_in passed) loaded xs) (picked_in before numbers)
