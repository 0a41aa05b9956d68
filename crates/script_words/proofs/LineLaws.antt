-- How many lines a text has.
use Rattle.std.proofs.Common.{arith, ℕ, suc, ◌+◌, ◌≤◌, ◌≡◌, Bool, true, false, List, [], ◌∷◌, length, refl}
use Rattle.std.specs.Prelude.{◌==◌}
use Rattle.call_script.specs.Spelling.{lines, with_line_byte, words, means_nothing, numbered_from}

length_with : (b : ℕ) (ls : List (List ℕ)) → length (with_line_byte b ls) ≤ suc (length ls)
length_with b ls = go (b == 10) refl ls
  where
    go : (t : Bool) → (b == 10) ≡ t → (ls : List (List ℕ)) → length (with_line_byte b ls) ≤ suc (length ls)
    go true e ls = rw e (omega arith)
    go false e [] = rw e (omega arith)
    go false e (l ∷ ls) = rw e (omega arith)

-- no more than its bytes
pub few_lines : (bytes : List ℕ) → length (lines bytes) ≤ length bytes
unfolding lines
few_lines [] = omega arith
few_lines (b ∷ bytes) = omega (arith, length_with b (lines bytes), few_lines bytes)

-- no more lines that mean something than lines
pub few_numbered : (n : ℕ) (ls : List (List ℕ)) → length (numbered_from n ls) ≤ length ls
few_numbered n [] = omega arith
few_numbered n (l ∷ ls) = go (means_nothing (words l)) refl (few_numbered (n + 1) ls)
  where
    go : (t : Bool) → means_nothing (words l) ≡ t → length (numbered_from (n + 1) ls) ≤ length ls
        → length (numbered_from n (l ∷ ls)) ≤ suc (length ls)
    go true e h = rw e (omega arith)
    go false e h = rw e (omega arith)
