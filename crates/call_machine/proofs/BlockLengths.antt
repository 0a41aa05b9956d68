-- Blocks that stay as long as they were.
use Rattle.std.proofs.Common.{ℕ, zero, suc, ◌-◌, ◌≡◌, ◌≤◌, ◌<◌, Bool, true, false, if◌then◌else◌, nat_le, List, [], ◌∷◌, ◌++◌, length, replicate, Option, Some, None, option_map, slice_get, slice_set, refl, ap, sym, ◌∙◌, subst, arith, length-append, length-take, length-drop}
use Rattle.std.specs.Prelude.{unwrap_or}
use Rattle.sgx_base.specs.Bytes.{rounded_size, is_divisible}
use Rattle.edl_interface.specs.declared.Function.{Function}
use Rattle.edl_interface.specs.declared.Param.{Param}
use Rattle.enclave_memory.specs.declared.Block.{Block}
use Rattle.enclave_memory.specs.Memory.{Memory}
use Rattle.body_vm.specs.Places.{blocks_in, AreNumbered, AreAsLong}
use Rattle.body_vm.specs.State.{State, with_block, with_new_block, overlay}
use Rattle.call_machine.specs.Bodies.{block_length, KeepLengths}
use Rattle.call_machine.specs.Ecall.{shape_of}
use Rattle.call_machine.specs.Entry.{IsCopyOf, AreCopiesOf}

pub keep_same : (blocks : List (Option (List ℕ))) → KeepLengths blocks blocks
keep_same [] = tt
keep_same (x ∷ blocks) = (refl, keep_same blocks)

pub keep_then : (xs ys zs : List (Option (List ℕ))) → KeepLengths xs ys → KeepLengths ys zs → KeepLengths xs zs
keep_then [] ys zs p q = tt
keep_then (x ∷ xs) [] zs p q = absurd p
keep_then (x ∷ xs) (y ∷ ys) [] p q = absurd q
keep_then (x ∷ xs) (y ∷ ys) (z ∷ zs) p q = (q.0 ∙ p.0, keep_then xs ys zs p.1 q.1)

pub keep_more : (xs ys : List (Option (List ℕ))) → KeepLengths xs (xs ++ ys)
keep_more [] ys = tt
keep_more (x ∷ xs) ys = (refl, keep_more xs ys)

-- a block of the same length in one place
pub keep_set : (xs ys : List (Option (List ℕ))) (k : ℕ) (now : Option (List ℕ)) → KeepLengths xs ys
    → block_length now ≡ block_length (unwrap_or (slice_get ys k) None) → KeepLengths xs (slice_set ys k now)
keep_set [] ys k now h e = tt
keep_set (x ∷ xs) [] k now h e = absurd h
keep_set (x ∷ xs) (y ∷ ys) zero now h e = (e ∙ h.0, h.1)
keep_set (x ∷ xs) (y ∷ ys) (suc k) now h e = (h.0, keep_set xs ys k now h.1 e)

-- a block in a place behind them
keep_behind : (xs ys : List (Option (List ℕ))) (k : ℕ) (now : Option (List ℕ)) → KeepLengths xs ys → length xs ≤ k → KeepLengths xs (slice_set ys k now)
keep_behind [] ys k now h le = tt
keep_behind (x ∷ xs) [] k now h le = absurd h
keep_behind (x ∷ xs) (y ∷ ys) zero now h le = absurd (omega (arith, le))
keep_behind (x ∷ xs) (y ∷ ys) (suc k) now h le = (h.0, keep_behind xs ys k now h.1 (omega (arith, le)))

pub change_length : (change : List ℕ → List ℕ) → ((bytes : List ℕ) → length (change bytes) ≡ length bytes) → (b : Option (List ℕ)) → block_length (option_map change b) ≡ block_length b
change_length change same None = refl
change_length change same (Some bytes) = ap (λ n. Some n) (same bytes)

pub overlay_length : (these those : List ℕ) → length (overlay these those) ≡ length these
overlay_length these those = grind (arith, length-append, length-take, length-drop)

module _ (first : List (Option (List ℕ))) (s : State) (kept : KeepLengths first s.blocks) where
  pub changed_keeps : (place : ℕ) (change : List ℕ → List ℕ) → ((bytes : List ℕ) → length (change bytes) ≡ length bytes) → KeepLengths first (with_block s place change).blocks
  changed_keeps place change same =
      keep_set first s.blocks place (option_map change (unwrap_or (slice_get s.blocks place) None)) kept (change_length change same (unwrap_or (slice_get s.blocks place) None))

  pub new_keeps : (place n : ℕ) → length first ≤ place → KeepLengths first (with_new_block s place n).blocks
  new_keeps place n le = by_room (nat_le (rounded_size n) s.room)
    where
      by_room : (fits : Bool) → KeepLengths first (if fits then record s { blocks = slice_set s.blocks place (Some (replicate n 0)); room = s.room - rounded_size n }
          else record s { blocks = slice_set s.blocks place None }).blocks
      by_room true = keep_behind first s.blocks place (Some (replicate n 0)) kept le
      by_room false = keep_behind first s.blocks place None kept le

same_copy : (f : Function) (frame : List ℕ) (p : Param) (bytes now : List ℕ) → block_length (Some now) ≡ block_length (Some bytes) → IsCopyOf f frame p bytes → IsCopyOf f frame p now
same_copy f frame p bytes now e is =
    let same : length now ≡ length bytes = ap (λ n. unwrap_or n 0) e in
    record {
      not_null = is.not_null;
      some = subst (λ n. 0 < n) (sym same) is.some;
      length_is = same ∙ is.length_is;
      whole = subst (λ n. is_divisible n (shape_of p.class).unit ≡ true) (sym same) is.whole;
    }

-- blocks that are as long as the copies of parameters may go back in their place
pub still_copies : (f : Function) (frame : List ℕ) (params : List Param) (copies now : List (Option (List ℕ))) → KeepLengths copies now
    → AreCopiesOf f frame params copies → AreCopiesOf f frame params now
still_copies f frame [] copies now k are = tt
still_copies f frame (p ∷ params) [] now k are = absurd are
still_copies f frame (p ∷ params) (x ∷ copies) [] k are = absurd k
still_copies f frame (p ∷ params) (None ∷ copies) (None ∷ now) k are = still_copies f frame params copies now k.1 are
still_copies f frame (p ∷ params) (None ∷ copies) (Some bytes ∷ now) k are = let e = k.0 in absurd cc
still_copies f frame (p ∷ params) (Some bytes ∷ copies) (None ∷ now) k are = let e = k.0 in absurd cc
still_copies f frame (p ∷ params) (Some these ∷ copies) (Some bytes ∷ now) k are = (same_copy f frame p these bytes k.0 are.0, still_copies f frame params copies now k.1 are.1)

-- blocks that stay as long in their arena
pub still_long : (before after : Memory) (blocks : List (Option Block)) (numbers : List (Option ℕ)) → AreAsLong before.blocks after.blocks → AreNumbered before blocks numbers
    → KeepLengths (blocks_in before numbers) (blocks_in after numbers)
still_long before after [] [] long h = tt
still_long before after [] (n ∷ numbers) long h = absurd h
still_long before after (b ∷ blocks) [] long h = absurd h
still_long before after (None ∷ blocks) (None ∷ numbers) long h = (refl, still_long before after blocks numbers long h.1)
still_long before after (None ∷ blocks) (Some n ∷ numbers) long h = absurd h.0
still_long before after (Some b ∷ blocks) (None ∷ numbers) long h = absurd h.0
still_long before after (Some b ∷ blocks) (Some n ∷ numbers) long h =
    let (these, is) = h.0 in
    let (now, found, same) = long n these is.bytes_are in
    (ap (λ x. block_length x) found ∙ ap (λ k. Some k) same ∙ sym (ap (λ x. block_length x) is.bytes_are), still_long before after blocks numbers long h.1)
