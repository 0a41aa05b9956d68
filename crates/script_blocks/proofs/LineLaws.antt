-- The lines of blocks, one after another.
use Rattle.std.proofs.Common.{arith, ℕ, ◌≡◌, ◌<◌, ◌≤◌, ◌-◌, get_or, take, drop, Bool, true, false, eq-eqb, ne_eqb, List, [], ◌∷◌, ◌++◌, length, Option, Some, None, refl, ap, sym, subst, ◌∙◌, append_assoc, append-nil, length-append}
use Rattle.std.proofs.lemmas.Bool.{lt-ltb, le-ltb}
use Rattle.std.specs.Prelude.{◌==◌, if◌then◌else◌, nat_lt, map, unwrap_or, slice_get, option_map}
use Rattle.std.specs.List.{AllByRecursion, cons_option}
use Rattle.call_script.specs.Spelling.{numbered_lines}
use Rattle.call_script.specs.Line.{Line}
use Rattle.call_script.specs.Block.{Block, PlacedLine, placed_from, placed_lines, home}
use Rattle.script_lines.specs.declared.places.PlacedLines.{PlacedLines}
use Rattle.script_lines.specs.Nesting.{open_blocks, innermost}
use Rattle.script_lines.specs.Places.{IsTaken, placed_left}
use Rattle.script_blocks.specs.declared.lines.BlockLine.{BlockLine}
use Rattle.script_blocks.specs.Blocks.{HomeLine, home_line, AreInPlace, kept_by, block_lines, in_block, inside}

-- ---- all lines

abbrev home_in : List Block → ℕ
home_in blocks = unwrap_or (innermost blocks) 0

home-is : (number : ℕ) (blocks : List Block) (line : Option Line)
    → home (record { number = number; blocks = blocks; line = line }) ≡ home_in blocks
home-is number [] line = refl
home-is number (b ∷ blocks) line = refl

pub start : (p : PlacedLines) (bytes : List ℕ) → open_blocks p.blocks ≡ [] → p.lines ≡ numbered_lines bytes
    → block_lines (placed_left p) ≡ block_lines (placed_lines bytes)
unfolding placed_lines
start p bytes e f =
    ap (λ around. block_lines (placed_from around p.lines)) e ∙ ap (λ ls. block_lines (placed_from [] ls)) f

pub end : (p : PlacedLines) (xs all : List HomeLine) → p.lines ≡ [] → xs ++ block_lines (placed_left p) ≡ all
    → xs ≡ all
unfolding block_lines
end p xs all e h =
    sym (ap (λ ls. xs ++ block_lines (placed_from (open_blocks p.blocks) ls)) e ∙ append-nil xs) ∙ h

module _ (old new : PlacedLines) (n : ℕ) (o : Option Line) (t : IsTaken old new n o) where
  pub turn : (xs ys : List HomeLine) → ys ≡ xs ++ cons_option (kept_by n (home_in (open_blocks old.blocks)) o) []
      → ys ++ block_lines (placed_left new) ≡ xs ++ block_lines (placed_left old)
  unfolding block_lines
  turn xs ys e =
      ap (λ zs. zs ++ block_lines (placed_left new)) e
      ∙ go (kept_by n (home_in (open_blocks old.blocks)) o)
      ∙ ap (λ h. xs ++ cons_option (kept_by n h o) (block_lines (placed_left new)))
      (sym (home-is n (open_blocks old.blocks) o))
      ∙ ap (λ ls. xs ++ block_lines ls) (sym t.first)
    where
      go : (k : Option HomeLine) → (xs ++ cons_option k []) ++ block_lines (placed_left new)
          ≡ xs ++ cons_option k (block_lines (placed_left new))
      go None = ap (λ zs. zs ++ block_lines (placed_left new)) (append-nil xs)
      go (Some a) = append_assoc xs (a ∷ []) (block_lines (placed_left new))

  pub fewer : length (placed_left new) < length (placed_left old)
  fewer = let e = ap length t.first in omega arith

-- ---- one block

module _ (n : ℕ) (l : HomeLine) (rest : List HomeLine) where
  pub outside : l.home < n → inside n (l ∷ rest) ≡ []
  unfolding inside
  outside h = rw (lt-ltb l.home n h) refl

  pub one_more : n ≤ l.home → inside n (l ∷ rest) ≡ in_block n (l ∷ []) ++ inside n rest
  unfolding inside in_block
  one_more h = rw (le-ltb l.home n h) (go (l.home == n))
    where
      go : (t : Bool) → (if t then l ∷ inside n rest else inside n rest)
          ≡ (if t then l ∷ [] else []) ++ inside n rest
      go true = refl
      go false = refl

  pub own : l.home ≡ n → in_block n (l ∷ []) ≡ l ∷ []
  unfolding in_block
  own e = rw (eq-eqb l.home n e) refl

  pub other : (l.home ≡ n → ⊥) → in_block n (l ∷ []) ≡ []
  unfolding in_block
  other e = rw (ne_eqb l.home n e) refl

-- ---- the first line of a slice, and those behind it

all-taken : {A : Type 0} (xs : List A) → take (length xs) xs ≡ xs
all-taken [] = refl
all-taken (x ∷ xs) = ap (λ zs. x ∷ zs) (all-taken xs)

parted : {A : Type 0} (xs : List A) (x : A) → 1 ≤ length xs → x ≡ get_or xs 0 x
    → xs ≡ x ∷ take (length xs - 1) (drop 1 xs)
parted [] x long is = absurd (omega arith)
parted (y ∷ ys) x long is =
    let same : x ≡ y = is in
    let count : length (y ∷ ys) - 1 ≡ length ys = omega arith in
    ap (λ z. z ∷ ys) (sym same) ∙ ap (λ zs. x ∷ zs) (sym (ap (λ n. take n ys) count ∙ all-taken ys))

module _ (left : List BlockLine) (x : BlockLine) (long : 1 ≤ length left) (is : x ≡ get_or left 0 x) where
  pub parts : map home_line left ≡ home_line x ∷ map home_line (take (length left - 1) (drop 1 left))
  parts = ap (map home_line) (parted left x long is)

  pub stops : (n : ℕ) → x.home < n → inside n (map home_line left) ≡ []
  stops n h = ap (inside n) parts ∙ outside n (home_line x) (map home_line (take (length left - 1) (drop 1 left))) h

  pub first_holds : (P : HomeLine → Type 0) → AllByRecursion P (map home_line left)
      → P (home_line x) × AllByRecursion P (map home_line (take (length left - 1) (drop 1 left)))
  first_holds P h = subst (AllByRecursion P) parts h

  pub first_placed : (all : List HomeLine) → AreInPlace all (map home_line left)
      → (in_block x.number all ≡ inside x.number (map home_line (take (length left - 1) (drop 1 left))))
      × AreInPlace all (map home_line (take (length left - 1) (drop 1 left)))
  unfolding AreInPlace
  first_placed all h = subst (AreInPlace all) parts h

pub none_left : (left : List BlockLine) → length left < 1 → map home_line left ≡ []
none_left [] h = refl
none_left (x ∷ left) h = absurd (omega arith)

pub ends : (n : ℕ) (left : List BlockLine) → length left < 1 → inside n (map home_line left) ≡ []
unfolding inside
ends n left h = ap (inside n) (none_left left h)
