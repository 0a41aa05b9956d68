-- Laws of a body's blocks as blocks of an arena.
use Rattle.std.proofs.Common.{ℕ, zero, suc, ◌+◌, ◌-◌, ◌<◌, ◌≡◌, ◌≢◌, ◌⊎◌, List, [], ◌∷◌, length, take, Option, Some, None, option_map, unwrap_or, slice_get, slice_set, refl, ap, sym, ◌∙◌, subst, arith, inl, inr}
use Rattle.sgx_base.specs.Bytes.{rounded_size}
use Rattle.enclave_memory.specs.declared.Block.{Block}
use Rattle.enclave_memory.specs.Memory.{Memory, taken_by, IsBlock}
use Rattle.enclave_memory.proofs.Blocks.{taken_by-cons}
use Rattle.body_vm.specs.Places.{bytes_at, blocks_in, AreNumbered, IsAbsent, AreApart, IsHeld, AreBehind, AreAsLong, IsKept, IsChanged}

-- the block at a place, with its number and bytes
pub record IsPlaced (m : Memory) (numbers : List (Option ℕ)) (place : ℕ) (block : Block) : Type 0 where
  pub number : ℕ
  pub bytes : List ℕ
  pub found : slice_get numbers place ≡ Some (Some number)
  pub block_is : IsBlock m block number bytes

pub placed : (m : Memory) (blocks : List (Option Block)) (numbers : List (Option ℕ)) (place : ℕ) (block : Block)
    → AreNumbered m blocks numbers → slice_get blocks place ≡ Some (Some block) → IsPlaced m numbers place block
placed m [] numbers place block h e = absurd (cc)
placed m (b ∷ blocks) [] place block h e = absurd h
placed m (None ∷ blocks) (n ∷ numbers) zero block h e = absurd (cc)
placed m (Some b ∷ blocks) (None ∷ numbers) zero block h e = absurd h.0
placed m (Some b ∷ blocks) (Some n ∷ numbers) zero block h e =
    let same : b ≡ block = cc in
    record { number = n; bytes = h.0.0; found = refl; block_is = subst (λ x. IsBlock m x n h.0.0) same h.0.1 }
placed m (b ∷ blocks) (n ∷ numbers) (suc place) block h e =
    let p : IsPlaced m numbers place block = placed m blocks numbers place block h.1 e in
    record { number = p.number; bytes = p.bytes; found = p.found; block_is = p.block_is }

-- a place of null has no number
pub null_place : (m : Memory) (blocks : List (Option Block)) (numbers : List (Option ℕ)) (place : ℕ)
    → AreNumbered m blocks numbers → slice_get blocks place ≡ Some None → slice_get numbers place ≡ Some None
null_place m [] numbers place h e = absurd (cc)
null_place m (b ∷ blocks) [] place h e = absurd h
null_place m (None ∷ blocks) (None ∷ numbers) zero h e = refl
null_place m (None ∷ blocks) (Some n ∷ numbers) zero h e = absurd h.0
null_place m (Some b ∷ blocks) (n ∷ numbers) zero h e = absurd (cc)
null_place m (b ∷ blocks) (n ∷ numbers) (suc place) h e = null_place m blocks numbers place h.1 e

-- what the bytes at a place are
pub bytes_in : (m : Memory) (numbers : List (Option ℕ)) (place : ℕ) (number : Option ℕ) → slice_get numbers place ≡ Some number → slice_get (blocks_in m numbers) place ≡ Some (bytes_at m number)
bytes_in m [] place number e = absurd (cc)
bytes_in m (n ∷ numbers) zero number e = let same : n ≡ number = cc in ap (λ x. Some (bytes_at m x)) same
bytes_in m (n ∷ numbers) (suc place) number e = bytes_in m numbers place number e

-- the bytes of a block that is there
pub block_bytes : (m : Memory) (numbers : List (Option ℕ)) (place : ℕ) (block : Block) (p : IsPlaced m numbers place block) → slice_get (blocks_in m numbers) place ≡ Some (Some p.bytes)
block_bytes m numbers place block p = bytes_in m numbers place (Some p.number) p.found ∙ ap (λ x. Some x) p.block_is.bytes_are

pub get_set_other : {X : Type 0} (xs : List X) (k n : ℕ) (y : X) → n ≢ k → slice_get (slice_set xs k y) n ≡ slice_get xs n
get_set_other [] k n y h = refl
get_set_other (x ∷ xs) zero zero y h = absurd (h refl)
get_set_other (x ∷ xs) zero (suc n) y h = refl
get_set_other (x ∷ xs) (suc k) zero y h = refl
get_set_other (x ∷ xs) (suc k) (suc n) y h = get_set_other xs k n y (λ e. h (ap (λ i. suc i) e))

pub get_set_same : {X : Type 0} (xs : List X) (k : ℕ) (x y : X) → slice_get xs k ≡ Some x → slice_get (slice_set xs k y) k ≡ Some y
get_set_same [] k x y e = absurd (cc)
get_set_same (z ∷ xs) zero x y e = refl
get_set_same (z ∷ xs) (suc k) x y e = get_set_same xs k x y e

pub set_same : {X : Type 0} (xs : List X) (k : ℕ) (x : X) → slice_get xs k ≡ Some x → slice_set xs k x ≡ xs
set_same [] k x e = refl
set_same (z ∷ xs) zero x e = let same : x ≡ z = cc in ap (λ y. y ∷ xs) same
set_same (z ∷ xs) (suc k) x e = ap (λ ys. z ∷ ys) (set_same xs k x e)

pub set_twice : {X : Type 0} (xs : List X) (k : ℕ) (x y : X) → slice_set (slice_set xs k x) k y ≡ slice_set xs k y
set_twice [] k x y = refl
set_twice (z ∷ xs) zero x y = refl
set_twice (z ∷ xs) (suc k) x y = ap (λ ys. z ∷ ys) (set_twice xs k x y)

as_long_set : (xs : List (List ℕ)) (k : ℕ) (old new : List ℕ) → slice_get xs k ≡ Some old → length new ≡ length old → AreAsLong xs (slice_set xs k new)
as_long_set [] k old new e l n bytes f = absurd (cc)
as_long_set (x ∷ xs) zero old new e l zero bytes f = let same : old ≡ bytes = cc in (new, refl, l ∙ ap (λ b. length b) same)
as_long_set (x ∷ xs) zero old new e l (suc n) bytes f = (bytes, f, refl)
as_long_set (x ∷ xs) (suc k) old new e l zero bytes f = (bytes, f, refl)
as_long_set (x ∷ xs) (suc k) old new e l (suc n) bytes f = as_long_set xs k old new e l n bytes f

taken_set : (xs : List (List ℕ)) (k : ℕ) (old new : List ℕ) → slice_get xs k ≡ Some old → length new ≡ length old → taken_by (slice_set xs k new) ≡ taken_by xs
taken_set [] k old new e l = absurd (cc)
taken_set (x ∷ xs) zero old new e l =
    let same : old ≡ x = cc in
    taken_by-cons new xs ∙ ap (λ i. rounded_size i + taken_by xs) (l ∙ ap (λ b. length b) same) ∙ sym (taken_by-cons x xs)
taken_set (x ∷ xs) (suc k) old new e l =
    taken_by-cons x (slice_set xs k new) ∙ ap (λ i. rounded_size (length x) + i) (taken_set xs k old new e l) ∙ sym (taken_by-cons x xs)

-- blocks that are as long begin where they did
starts_same : (xs ys : List (List ℕ)) (k : ℕ) (b : List ℕ) → AreAsLong xs ys → slice_get xs k ≡ Some b → taken_by (take k ys) ≡ taken_by (take k xs)
starts_same [] ys k b h e = absurd (cc)
starts_same (x ∷ xs) ys zero b h e = refl
starts_same (x ∷ xs) [] (suc k) b h e = let (now, f, l) = h zero x refl in absurd (cc)
starts_same (x ∷ xs) (y ∷ ys) (suc k) b h e =
    let (now, f, l) = h zero x refl in
    let same : y ≡ now = cc in
    taken_by-cons y (take k ys)
    ∙ ap (λ i. rounded_size i + taken_by (take k ys)) (ap (λ b. length b) same ∙ l)
    ∙ ap (λ i. rounded_size (length x) + i) (starts_same xs ys k b (λ n c f. h (suc n) c f) e)
    ∙ sym (taken_by-cons x (take k xs))

-- another block stays where one gets as many bytes
pub other_block : (before after : Memory) (block : Block) (number other : ℕ) (old new bytes : List ℕ) → slice_get before.blocks number ≡ Some old → length new ≡ length old
    → after ≡ record before { blocks = slice_set before.blocks number new } → number ≢ other → IsBlock before block other bytes → IsBlock after block other bytes
other_block before after block number other old new bytes e l f h b =
    let there : slice_get (slice_set before.blocks number new) other ≡ slice_get before.blocks other = get_set_other before.blocks number other new (λ same. h (sym same)) in
    subst (λ m. IsBlock m block other bytes) (sym f) record {
      starts = b.starts ∙ sym (starts_same before.blocks (slice_set before.blocks number new) other bytes (as_long_set before.blocks number old new e l) b.bytes_are);
      bytes_are = there ∙ b.bytes_are;
      length_is = b.length_is;
    }

-- such blocks keep their numbers
pub still_numbered : (before after : Memory) (blocks : List (Option Block)) (numbers : List (Option ℕ)) → AreAsLong before.blocks after.blocks
    → AreNumbered before blocks numbers → AreNumbered after blocks numbers
still_numbered before after [] [] a h = tt
still_numbered before after [] (n ∷ numbers) a h = absurd h
still_numbered before after (b ∷ blocks) [] a h = absurd h
still_numbered before after (None ∷ blocks) (None ∷ numbers) a h = (tt, still_numbered before after blocks numbers a h.1)
still_numbered before after (None ∷ blocks) (Some n ∷ numbers) a h = absurd h.0
still_numbered before after (Some b ∷ blocks) (None ∷ numbers) a h = absurd h.0
still_numbered before after (Some b ∷ blocks) (Some n ∷ numbers) a h =
    let (bytes, is) = h.0 in
    let (now, there, long) = a n bytes is.bytes_are in (
      (now, record { starts = is.starts ∙ sym (starts_same before.blocks after.blocks n bytes a is.bytes_are); bytes_are = there; length_is = is.length_is ∙ sym long }),
      still_numbered before after blocks numbers a h.1,
    )

-- a number that is absent is none that is there
pub absent_other : (n k place : ℕ) (numbers : List (Option ℕ)) → IsAbsent n numbers → slice_get numbers place ≡ Some (Some k) → n ≢ k
absent_other n k place [] a e = absurd (cc)
absent_other n k zero (x ∷ numbers) a e = λ same. a.0 (let here : x ≡ Some k = cc in here ∙ ap (λ i. Some i) (sym same))
absent_other n k (suc place) (x ∷ numbers) a e = absent_other n k place numbers a.1 e

unchanged : (before after : Memory) (numbers : List (Option ℕ)) (n : ℕ) → ((k : ℕ) → k ≢ n → slice_get after.blocks k ≡ slice_get before.blocks k)
    → IsAbsent n numbers → blocks_in after numbers ≡ blocks_in before numbers
unchanged before after [] n h a = refl
unchanged before after (None ∷ numbers) n h a = ap (λ bs. None ∷ bs) (unchanged before after numbers n h a.1)
unchanged before after (Some k ∷ numbers) n h a =
    ap (λ b. b ∷ blocks_in after numbers) (h k (λ same. a.0 (ap (λ i. Some i) same))) ∙ ap (λ bs. slice_get before.blocks k ∷ bs) (unchanged before after numbers n h a.1)

-- where one number has new bytes, so has its place
changed_blocks : (before after : Memory) (numbers : List (Option ℕ)) (place n : ℕ) (new : List ℕ) → ((k : ℕ) → k ≢ n → slice_get after.blocks k ≡ slice_get before.blocks k)
    → slice_get after.blocks n ≡ Some new → AreApart numbers → slice_get numbers place ≡ Some (Some n)
    → blocks_in after numbers ≡ slice_set (blocks_in before numbers) place (Some new)
changed_blocks before after [] place n new h g a e = absurd (cc)
changed_blocks before after (None ∷ numbers) zero n new h g a e = absurd (cc)
changed_blocks before after (Some k ∷ numbers) zero n new h g a e =
    let same : k ≡ n = cc in
    ap (λ b. b ∷ blocks_in after numbers) (ap (λ i. slice_get after.blocks i) same ∙ g)
    ∙ ap (λ bs. Some new ∷ bs) (unchanged before after numbers n h (subst (λ i. IsAbsent i numbers) same a.0))
changed_blocks before after (None ∷ numbers) (suc place) n new h g a e = ap (λ bs. None ∷ bs) (changed_blocks before after numbers place n new h g a e)
changed_blocks before after (Some k ∷ numbers) (suc place) n new h g a e =
    ap (λ b. b ∷ blocks_in after numbers) (h k (absent_other k n place numbers a.0 e))
    ∙ ap (λ bs. slice_get before.blocks k ∷ bs) (changed_blocks before after numbers place n new h g a.1 e)

pub behind_same : (count : ℕ) (numbers : List (Option ℕ)) → AreBehind count numbers numbers
behind_same count [] = tt
behind_same count (n ∷ numbers) = (inl refl, behind_same count numbers)

-- nothing changed
pub kept_same : (m : Memory) (numbers : List (Option ℕ)) → IsKept m m numbers numbers
kept_same m numbers = record { size = refl; lengths = λ n bytes e. (bytes, e, refl); others = λ n bytes e a. e; behind = behind_same (length m.blocks) numbers }

-- a block that got as many bytes
pub write_changed : (before after : Memory) (blocks : List (Option Block)) (numbers : List (Option ℕ)) (place : ℕ) (block : Block) (change : List ℕ → List ℕ) (p : IsPlaced before numbers place block)
    → IsHeld before blocks numbers → after ≡ record before { blocks = slice_set before.blocks p.number (change p.bytes) } → length (change p.bytes) ≡ length p.bytes
    → IsChanged before after blocks numbers place change
write_changed before after blocks numbers place block change p held e l =
    let now : Memory = record before { blocks = slice_set before.blocks p.number (change p.bytes) } in
    let long : AreAsLong before.blocks now.blocks = as_long_set before.blocks p.number p.bytes (change p.bytes) p.block_is.bytes_are l in
    let other : (k : ℕ) → k ≢ p.number → slice_get now.blocks k ≡ slice_get before.blocks k = λ k h. get_set_other before.blocks p.number k (change p.bytes) h in
    let there : slice_get now.blocks p.number ≡ Some (change p.bytes) = get_set_same before.blocks p.number p.bytes (change p.bytes) p.block_is.bytes_are in
    subst (λ m. IsChanged before m blocks numbers place change) (sym e) record {
      held = record { numbered = still_numbered before now blocks numbers long held.numbered; apart = held.apart };
      kept = record {
        size = refl;
        lengths = long;
        others = λ n bytes f a. other n (absent_other n p.number place numbers a p.found) ∙ f;
        behind = behind_same (length before.blocks) numbers;
      };
      blocks_are = changed_blocks before now numbers place p.number (change p.bytes) other there held.apart p.found
          ∙ ap (λ (b : Option (Option (List ℕ))). slice_set (blocks_in before numbers) place (option_map change (unwrap_or b None))) (sym (block_bytes before numbers place block p));
      room = ap (λ i. before.size - i) (taken_set before.blocks p.number p.bytes (change p.bytes) p.block_is.bytes_are l);
    }

-- a block that got its own bytes
pub same_changed : (m : Memory) (blocks : List (Option Block)) (numbers : List (Option ℕ)) (place : ℕ) (block : Block) (change : List ℕ → List ℕ) (p : IsPlaced m numbers place block)
    → IsHeld m blocks numbers → change p.bytes ≡ p.bytes → IsChanged m m blocks numbers place change
same_changed m blocks numbers place block change p held e =
    let there : slice_get (blocks_in m numbers) place ≡ Some (Some p.bytes) = block_bytes m numbers place block p in
    record {
      held = held;
      kept = kept_same m numbers;
      blocks_are = sym (ap (λ (b : Option (Option (List ℕ))). slice_set (blocks_in m numbers) place (option_map change (unwrap_or b None))) there
          ∙ ap (λ b. slice_set (blocks_in m numbers) place (Some b)) e ∙ set_same (blocks_in m numbers) place (Some p.bytes) there);
      room = refl;
    }

-- a place of null
pub null_changed : (m : Memory) (blocks : List (Option Block)) (numbers : List (Option ℕ)) (place : ℕ) (change : List ℕ → List ℕ)
    → IsHeld m blocks numbers → slice_get blocks place ≡ Some None → IsChanged m m blocks numbers place change
null_changed m blocks numbers place change held e =
    let none : slice_get (blocks_in m numbers) place ≡ Some None = bytes_in m numbers place None (null_place m blocks numbers place held.numbered e) in
    record {
      held = held;
      kept = kept_same m numbers;
      blocks_are = sym (ap (λ (b : Option (Option (List ℕ))). slice_set (blocks_in m numbers) place (option_map change (unwrap_or b None))) none ∙ set_same (blocks_in m numbers) place None none);
      room = refl;
    }

-- two places have two numbers
pub places_apart : (numbers : List (Option ℕ)) (i j n k : ℕ) → AreApart numbers → i ≢ j → slice_get numbers i ≡ Some (Some n) → slice_get numbers j ≡ Some (Some k) → n ≢ k
places_apart [] i j n k a h e f = absurd (cc)
places_apart (x ∷ numbers) zero zero n k a h e f = absurd (h refl)
places_apart (None ∷ numbers) zero (suc j) n k a h e f = absurd (cc)
places_apart (Some m ∷ numbers) zero (suc j) n k a h e f = let same : m ≡ n = cc in subst (λ i. i ≢ k) same (absent_other m k j numbers a.0 f)
places_apart (None ∷ numbers) (suc i) zero n k a h e f = absurd (cc)
places_apart (Some m ∷ numbers) (suc i) zero n k a h e f = let same : m ≡ k = cc in λ other. absent_other m n i numbers a.0 e (same ∙ sym other)
places_apart (None ∷ numbers) (suc i) (suc j) n k a h e f = places_apart numbers i j n k a (λ same. h (ap (λ x. suc x) same)) e f
places_apart (Some m ∷ numbers) (suc i) (suc j) n k a h e f = places_apart numbers i j n k a.1 (λ same. h (ap (λ x. suc x) same)) e f

-- a place within the blocks is null or has a block
pub place_cases : (blocks : List (Option Block)) (place : ℕ) → place < length blocks → (slice_get blocks place ≡ Some None) ⊎ ((block : Block) × (slice_get blocks place ≡ Some (Some block)))
place_cases [] place h = absurd (omega (arith, h))
place_cases (None ∷ blocks) zero h = inl refl
place_cases (Some b ∷ blocks) zero h = inr (b, refl)
place_cases (b ∷ blocks) (suc place) h = place_cases blocks place (omega (arith, h))

-- the bytes of a block that is there, as an action reads them
pub read_bytes : (m : Memory) (numbers : List (Option ℕ)) (place : ℕ) (block : Block) (p : IsPlaced m numbers place block) → unwrap_or (unwrap_or (slice_get (blocks_in m numbers) place) None) [] ≡ p.bytes
read_bytes m numbers place block p = ap (λ (b : Option (Option (List ℕ))). unwrap_or (unwrap_or b None) []) (block_bytes m numbers place block p)

-- a null block has none
pub read_none : (m : Memory) (blocks : List (Option Block)) (numbers : List (Option ℕ)) (place : ℕ) → AreNumbered m blocks numbers → slice_get blocks place ≡ Some None
    → unwrap_or (unwrap_or (slice_get (blocks_in m numbers) place) None) [] ≡ []
read_none m blocks numbers place h e = ap (λ (b : Option (Option (List ℕ))). unwrap_or (unwrap_or b None) []) (bytes_in m numbers place None (null_place m blocks numbers place h e))
