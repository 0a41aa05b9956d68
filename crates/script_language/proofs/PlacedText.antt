-- The lines of a text in two parts, and their numbers.
use Rattle.std.proofs.Common.{arith, ℕ, ◌≡◌, ◌+◌, ◌≤◌, ◌<◌, Bool, true, false, List, [], ◌∷◌, ◌++◌, length, refl, ◌∙◌, ap}
use Rattle.std.specs.Prelude.{if◌then◌else◌}
use Rattle.call_script.specs.Spelling.{NumberedLine, numbered_from, means_nothing, words}
use Rattle.call_script.specs.Block.{Block, placed, placed_from, open_after}
use Rattle.script_laws.proofs.FirstFault.{end_of}
use Rattle.script_language.proofs.FirstLines.{AreOfKind}

numbered-splits : (n : ℕ) (xs ys : List (List ℕ))
    → numbered_from n (xs ++ ys) ≡ numbered_from n xs ++ numbered_from (n + length xs) ys
numbered-splits n [] ys = ap (λ m. numbered_from m ys) (omega arith)
numbered-splits n (x ∷ xs) ys =
    go (means_nothing (words x))
    (numbered-splits (n + 1) xs ys
    ∙ ap (λ m. numbered_from (n + 1) xs ++ numbered_from m ys) (omega arith))
  where
    go : (t : Bool)
        → numbered_from (n + 1) (xs ++ ys) ≡ numbered_from (n + 1) xs ++ numbered_from (n + length (x ∷ xs)) ys
        → (if t then numbered_from (n + 1) (xs ++ ys)
        else record { number = n; words = words x } ∷ numbered_from (n + 1) (xs ++ ys))
        ≡ (if t then numbered_from (n + 1) xs else record { number = n; words = words x } ∷ numbered_from (n + 1) xs)
        ++ numbered_from (n + length (x ∷ xs)) ys
    go true rest = rest
    go false rest = ap (λ ls. record { number = n; words = words x } ∷ ls) rest

placed-splits : (around : List Block) (xs ys : List NumberedLine)
    → placed_from around (xs ++ ys) ≡ placed_from around xs ++ placed_from (end_of around xs) ys
unfolding end_of
placed-splits around [] ys = refl
placed-splits around (x ∷ xs) ys =
    ap (λ ls. placed around x ∷ ls) (placed-splits (open_after (placed around x)) xs ys)

pub text-splits : (around : List Block) (n : ℕ) (xs ys : List (List ℕ))
    → placed_from around (numbered_from n (xs ++ ys))
    ≡ placed_from around (numbered_from n xs)
    ++ placed_from (end_of around (numbered_from n xs)) (numbered_from (n + length xs) ys)
text-splits around n xs ys =
    ap (placed_from around) (numbered-splits n xs ys)
    ∙ placed-splits around (numbered_from n xs) (numbered_from (n + length xs) ys)

-- the numbers of the lines run from the first on
pub numbers-run : (kind : ℕ → Type 0) (around : List Block) (n : ℕ) (ls : List (List ℕ))
    → ((m : ℕ) → n ≤ m → m < n + length ls → kind m) → AreOfKind kind (placed_from around (numbered_from n ls))
unfolding AreOfKind
numbers-run kind around n [] h = tt
numbers-run kind around n (l ∷ ls) h =
    go (means_nothing (words l)) (numbers-run kind around (n + 1) ls (λ m k j. h m (omega arith) (omega arith)))
    (numbers-run kind (open_after (placed around line)) (n + 1) ls (λ m k j. h m (omega arith) (omega arith)))
  where
    line : NumberedLine
    line = record { number = n; words = words l }

    go : (t : Bool) → AreOfKind kind (placed_from around (numbered_from (n + 1) ls))
        → AreOfKind kind (placed_from (open_after (placed around line)) (numbered_from (n + 1) ls))
        → AreOfKind kind (placed_from around (if t then numbered_from (n + 1) ls else line ∷ numbered_from (n + 1) ls))
    go true silent spoken = silent
    go false silent spoken = (h n (omega arith) (omega arith), spoken)
