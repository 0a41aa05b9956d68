-- The blocks of parameters as blocks of an arena: each was pushed behind all others; and null ones behind them.
use Rattle.std.proofs.Common.{ℕ, zero, suc, ◌+◌, ◌<◌, ◌≤◌, ◌≡◌, List, [], ◌∷◌, ◌++◌, length, drop, replicate, Option, Some, None, slice_get, refl, ap, sym, ◌∙◌, subst, arith, length-append}
use Rattle.std.proofs.lemmas.Option.{slice_get_within}
use Rattle.enclave_memory.specs.declared.Block.{Block}
use Rattle.enclave_memory.specs.Memory.{Memory}
use Rattle.enclave_memory.proofs.Blocks.{pushed_block, push_keeps}
use Rattle.body_vm.specs.Places.{bytes_at, blocks_in, IsNumbered, AreNumbered, IsAbsent, AreApart, IsHeld}
use Rattle.call_machine.specs.Entry.{AreBehind, HasBlock, HasBlocks, HasGrown, IsPushed}

-- blocks with numbers have the bytes of these numbers
pub have_numbered : (m : Memory) (blocks : List (Option Block)) (numbers : List (Option ℕ)) → AreNumbered m blocks numbers → HasBlocks m blocks (blocks_in m numbers)
have_numbered m [] [] h = tt
have_numbered m [] (n ∷ numbers) h = absurd h
have_numbered m (b ∷ blocks) [] h = absurd h
have_numbered m (None ∷ blocks) (None ∷ numbers) h = (tt, have_numbered m blocks numbers h.1)
have_numbered m (None ∷ blocks) (Some n ∷ numbers) h = absurd h.0
have_numbered m (Some b ∷ blocks) (None ∷ numbers) h = absurd h.0
have_numbered m (Some b ∷ blocks) (Some n ∷ numbers) h =
    let (bytes, is) = h.0 in
    (subst (λ x. HasBlock m (Some b) x) (sym is.bytes_are) (n, is), have_numbered m blocks numbers h.1)

pub numbered_count : (m : Memory) (blocks : List (Option Block)) (numbers : List (Option ℕ)) → AreNumbered m blocks numbers → length blocks ≡ length (blocks_in m numbers)
numbered_count m [] [] h = refl
numbered_count m [] (n ∷ numbers) h = absurd h
numbered_count m (b ∷ blocks) [] h = absurd h
numbered_count m (b ∷ blocks) (n ∷ numbers) h = ap (λ k. suc k) (numbered_count m blocks numbers h.1)

-- ---- lists put together

numbered_append : (m : Memory) (xs ys : List (Option Block)) (ns ks : List (Option ℕ)) → AreNumbered m xs ns → AreNumbered m ys ks → AreNumbered m (xs ++ ys) (ns ++ ks)
numbered_append m [] ys [] ks p q = q
numbered_append m [] ys (n ∷ ns) ks p q = absurd p
numbered_append m (x ∷ xs) ys [] ks p q = absurd p
numbered_append m (x ∷ xs) ys (n ∷ ns) ks p q = (p.0, numbered_append m xs ys ns ks p.1 q)

absent_append : (n : ℕ) (xs ys : List (Option ℕ)) → IsAbsent n xs → IsAbsent n ys → IsAbsent n (xs ++ ys)
absent_append n [] ys p q = q
absent_append n (x ∷ xs) ys p q = (p.0, absent_append n xs ys p.1 q)

blocks_append : (m : Memory) (xs ys : List (Option ℕ)) → blocks_in m (xs ++ ys) ≡ blocks_in m xs ++ blocks_in m ys
blocks_append m [] ys = refl
blocks_append m (x ∷ xs) ys = ap (λ l. bytes_at m x ∷ l) (blocks_append m xs ys)

-- ---- null ones

null_blocks : (m : Memory) (t : ℕ) → blocks_in m (replicate t None) ≡ replicate t None
null_blocks m zero = refl
null_blocks m (suc t) = ap (λ l. None ∷ l) (null_blocks m t)

null_numbered : (m : Memory) (t : ℕ) → AreNumbered m (replicate t None) (replicate t None)
null_numbered m zero = tt
null_numbered m (suc t) = (tt, null_numbered m t)

null_absent : (n t : ℕ) → IsAbsent n (replicate t None)
null_absent n zero = tt
null_absent n (suc t) = ((λ e. cc), null_absent n t)

null_apart : (t : ℕ) (numbers : List (Option ℕ)) → AreApart numbers → AreApart (numbers ++ replicate t None)
null_apart zero [] a = tt
null_apart (suc t) [] a = null_apart t [] a
null_apart t (None ∷ numbers) a = null_apart t numbers a
null_apart t (Some n ∷ numbers) a = (absent_append n numbers (replicate t None) a.0 (null_absent n t), null_apart t numbers a.1)

module _ (m : Memory) (blocks : List (Option Block)) (numbers : List (Option ℕ)) (t : ℕ) where
  pub held_nulls : IsHeld m blocks numbers → IsHeld m (blocks ++ replicate t None) (numbers ++ replicate t None)
  held_nulls held = record {
    numbered = numbered_append m blocks (replicate t None) numbers (replicate t None) held.numbered (null_numbered m t);
    apart = null_apart t numbers held.apart;
  }

  pub blocks_nulls : blocks_in m (numbers ++ replicate t None) ≡ blocks_in m numbers ++ replicate t None
  blocks_nulls = blocks_append m numbers (replicate t None) ∙ ap (λ l. blocks_in m numbers ++ l) (null_blocks m t)

  pub absent_nulls : (n : ℕ) → IsAbsent n numbers → IsAbsent n (numbers ++ replicate t None)
  absent_nulls n a = absent_append n numbers (replicate t None) a (null_absent n t)

-- ---- one more that was pushed, or none

-- a number past all blocks is none of theirs
fresh : (m : Memory) (blocks : List (Option Block)) (numbers : List (Option ℕ)) → AreNumbered m blocks numbers → IsAbsent (length m.blocks) numbers
fresh m [] [] h = tt
fresh m [] (n ∷ numbers) h = absurd h
fresh m (b ∷ blocks) [] h = absurd h
fresh m (None ∷ blocks) (None ∷ numbers) h = ((λ e. cc), fresh m blocks numbers h.1)
fresh m (None ∷ blocks) (Some k ∷ numbers) h = absurd h.0
fresh m (Some b ∷ blocks) (None ∷ numbers) h = absurd h.0
fresh m (Some b ∷ blocks) (Some k ∷ numbers) h =
    let (bytes, is) = h.0 in
    let within : k < length m.blocks = slice_get_within m.blocks k bytes is.bytes_are in
    ((λ e. let same : k ≡ length m.blocks = cc in omega (arith, within, same)), fresh m blocks numbers h.1)

apart_end : (numbers : List (Option ℕ)) (n : ℕ) → AreApart numbers → IsAbsent n numbers → AreApart (numbers ++ Some n ∷ [])
apart_end [] n a h = (tt, tt)
apart_end (None ∷ numbers) n a h = apart_end numbers n a h.1
apart_end (Some k ∷ numbers) n a h = (absent_append k numbers (Some n ∷ []) a.0 ((λ e. h.0 (sym e)), tt), apart_end numbers n a.1 h.1)

-- the number of a block that is pushed on these
abbrev pub number_on : Memory → Option Block → Option ℕ
number_on m None = None
number_on m (Some block) = Some (length m.blocks)

numbered_kept : (before after : Memory) (block other : Option Block) (bytes : Option (List ℕ)) (number : Option ℕ) → IsPushed before after block bytes → IsNumbered before other number → IsNumbered after other number
numbered_kept before after block None bytes None p h = tt
numbered_kept before after block None bytes (Some n) p h = absurd h
numbered_kept before after block (Some other) bytes None p h = absurd h
numbered_kept before after None (Some other) None (Some n) p h = subst (λ m. IsNumbered m (Some other) (Some n)) (sym p) h
numbered_kept before after (Some block) (Some other) (Some bytes) (Some n) p h = (h.0, push_keeps before after block other bytes h.0 n p h.1)
numbered_kept before after None (Some other) (Some bytes) (Some n) p h = absurd p
numbered_kept before after (Some block) (Some other) None (Some n) p h = absurd p

bytes_kept : (before after : Memory) (other : Option Block) (number : Option ℕ) → IsNumbered before other number → IsNumbered after other number
    → ((n : ℕ) (these : List ℕ) → slice_get before.blocks n ≡ Some these → slice_get after.blocks n ≡ Some these) → bytes_at after number ≡ bytes_at before number
bytes_kept before after None None h k more = refl
bytes_kept before after None (Some n) h k more = absurd h
bytes_kept before after (Some b) None h k more = absurd h
bytes_kept before after (Some b) (Some n) h k more = more n h.0 h.1.bytes_are ∙ sym h.1.bytes_are

pub more_bytes : (xs ys : List (List ℕ)) (n : ℕ) (these : List ℕ) → slice_get xs n ≡ Some these → slice_get (xs ++ ys) n ≡ Some these
more_bytes [] ys n these e = absurd cc
more_bytes (x ∷ xs) ys zero these e = e
more_bytes (x ∷ xs) ys (suc n) these e = more_bytes xs ys n these e

pushed_more : (before after : Memory) (block : Option Block) (bytes : Option (List ℕ)) → IsPushed before after block bytes
    → (n : ℕ) (these : List ℕ) → slice_get before.blocks n ≡ Some these → slice_get after.blocks n ≡ Some these
pushed_more before after None None p n these e = subst (λ (m : Memory). slice_get m.blocks n ≡ Some these) (sym p) e
pushed_more before after (Some block) (Some bytes) p n these e = ap (λ (m : Memory). slice_get m.blocks n) p.pushed ∙ more_bytes before.blocks (bytes ∷ []) n these e
pushed_more before after None (Some bytes) p n these e = absurd p
pushed_more before after (Some block) None p n these e = absurd p

module _ (before after : Memory) (block : Option Block) (bytes : Option (List ℕ)) (pushed : IsPushed before after block bytes) where
  all_kept : (blocks : List (Option Block)) (numbers : List (Option ℕ)) → AreNumbered before blocks numbers → AreNumbered after blocks numbers
  all_kept [] [] h = tt
  all_kept [] (n ∷ numbers) h = absurd h
  all_kept (b ∷ blocks) [] h = absurd h
  all_kept (b ∷ blocks) (n ∷ numbers) h = (numbered_kept before after block b bytes n pushed h.0, all_kept blocks numbers h.1)

  blocks_kept : (blocks : List (Option Block)) (numbers : List (Option ℕ)) → AreNumbered before blocks numbers → blocks_in after numbers ≡ blocks_in before numbers
  blocks_kept [] [] h = refl
  blocks_kept [] (n ∷ numbers) h = absurd h
  blocks_kept (b ∷ blocks) [] h = absurd h
  blocks_kept (b ∷ blocks) (n ∷ numbers) h =
      ap (λ x. x ∷ blocks_in after numbers) (bytes_kept before after b n h.0 (numbered_kept before after block b bytes n pushed h.0) (pushed_more before after block bytes pushed))
      ∙ ap (λ l. bytes_at before n ∷ l) (blocks_kept blocks numbers h.1)

new_numbered : (before after : Memory) (block : Option Block) (bytes : Option (List ℕ)) → IsPushed before after block bytes → IsNumbered after block (number_on before block)
new_numbered before after None None p = tt
new_numbered before after (Some block) (Some bytes) p = (bytes, pushed_block before after block bytes p)
new_numbered before after None (Some bytes) p = absurd p
new_numbered before after (Some block) None p = absurd p

new_bytes : (before after : Memory) (block : Option Block) (bytes : Option (List ℕ)) → IsPushed before after block bytes → bytes_at after (number_on before block) ≡ bytes
new_bytes before after None None p = refl
new_bytes before after (Some block) (Some bytes) p = (pushed_block before after block bytes p).bytes_are
new_bytes before after None (Some bytes) p = absurd p
new_bytes before after (Some block) None p = absurd p

new_apart : (m : Memory) (blocks : List (Option Block)) (numbers : List (Option ℕ)) (block : Option Block) → IsHeld m blocks numbers → AreApart (numbers ++ number_on m block ∷ [])
new_apart m blocks numbers None held = null_apart 1 numbers held.apart
new_apart m blocks numbers (Some block) held = apart_end numbers (length m.blocks) held.apart (fresh m blocks numbers held.numbered)

new_behind : (m : Memory) (count : ℕ) (numbers : List (Option ℕ)) (block : Option Block) → count ≤ length m.blocks → AreBehind count numbers → AreBehind count (numbers ++ number_on m block ∷ [])
new_behind m count numbers None le b = λ n lt. absent_append n numbers (None ∷ []) (b n lt) ((λ e. cc), tt)
new_behind m count numbers (Some block) le b = λ n lt. absent_append n numbers (Some (length m.blocks) ∷ []) (b n lt) ((λ e. let same : length m.blocks ≡ n = cc in omega (arith, le, lt, same)), tt)

grown_count : (before now : Memory) → HasGrown before now → length before.blocks ≤ length now.blocks
grown_count before now g =
    let all : length now.blocks ≡ length (before.blocks ++ g.pushed) = ap (λ (m : Memory). length m.blocks) g.grown in
    let sum : length (before.blocks ++ g.pushed) ≡ length before.blocks + length g.pushed = length-append before.blocks g.pushed in
    omega (arith, all, sum)

module _ (first before after : Memory) (blocks : List (Option Block)) (numbers : List (Option ℕ)) (block : Option Block) (bytes : Option (List ℕ))
    (held : IsHeld before blocks numbers) (pushed : IsPushed before after block bytes) where
  pub held_more : IsHeld after (blocks ++ block ∷ []) (numbers ++ number_on before block ∷ [])
  held_more = record {
    numbered = numbered_append after blocks (block ∷ []) numbers (number_on before block ∷ []) (all_kept before after block bytes pushed blocks numbers held.numbered)
        (new_numbered before after block bytes pushed, tt);
    apart = new_apart before blocks numbers block held;
  }

  pub blocks_more : blocks_in after (numbers ++ number_on before block ∷ []) ≡ blocks_in before numbers ++ bytes ∷ []
  blocks_more =
      blocks_append after numbers (number_on before block ∷ [])
      ∙ ap (λ l. l ++ bytes_at after (number_on before block) ∷ []) (blocks_kept before after block bytes pushed blocks numbers held.numbered)
      ∙ ap (λ b. blocks_in before numbers ++ b ∷ []) (new_bytes before after block bytes pushed)

  pub behind_more : HasGrown first before → AreBehind (length first.blocks) numbers → AreBehind (length first.blocks) (numbers ++ number_on before block ∷ [])
  behind_more g b = new_behind before (length first.blocks) numbers block (grown_count first before g) b

-- ---- blocks that a body leaves

begins_alike : (xs ys : List (List ℕ)) → ((n : ℕ) (these : List ℕ) → slice_get xs n ≡ Some these → slice_get ys n ≡ Some these) → ys ≡ xs ++ drop (length xs) ys
begins_alike [] ys h = refl
begins_alike (x ∷ xs) [] h = let e = h zero x refl in absurd cc
begins_alike (x ∷ xs) (y ∷ ys) h =
    let same : y ≡ x = (let e = h zero x refl in cc) in
    ap (λ z. z ∷ ys) same ∙ ap (λ l. x ∷ l) (begins_alike xs ys (λ n these e. h (suc n) these e))

-- an arena has still grown, where all of its blocks but those behind stay
pub still_grown : (before now after : Memory) (numbers : List (Option ℕ)) → HasGrown before now → AreBehind (length before.blocks) numbers → after.size ≡ now.size
    → ((n : ℕ) (these : List ℕ) → slice_get now.blocks n ≡ Some these → IsAbsent n numbers → slice_get after.blocks n ≡ Some these) → HasGrown before after
still_grown before now after numbers g behind size others =
    let alike : after.blocks ≡ before.blocks ++ drop (length before.blocks) after.blocks =
    begins_alike before.blocks after.blocks (λ n these e.
    others n these (ap (λ (m : Memory). slice_get m.blocks n) g.grown ∙ more_bytes before.blocks g.pushed n these e) (behind n (slice_get_within before.blocks n these e))) in
    let same : after.size ≡ before.size = size ∙ ap (λ (m : Memory). m.size) g.grown in
    record {
      pushed = drop (length before.blocks) after.blocks;
      grown = ap (λ (l : List (List ℕ)). record after { blocks = l }) alike
          ∙ ap (λ n. record { size = n; blocks = before.blocks ++ drop (length before.blocks) after.blocks }) same;
    }
