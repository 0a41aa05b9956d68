-- The repeats in blocks of which the first is the outermost.
use Rattle.std.proofs.Common.{arith, ℕ, zero, suc, ◌≡◌, ◌+◌, ◌-◌, ◌*◌, ◌≤◌, ◌<◌, ◌^◌, Bool, true, false, length, drop, take, List, [], ◌∷◌, ◌++◌, refl, sym, ◌∙◌, ap}
use Rattle.std.specs.Prelude.{◌==◌, is_none, min, map, fold, cond, nat_le, count_by, slice_index_or}
use Rattle.std.proofs.lemmas.Bool.{leb-true, leb-false, ne_eqb}
use Rattle.std.proofs.lemmas.List.{reverse-append}
use Rattle.std.proofs.lemmas.List.Sums.{fold-append, sum_by-append}
use Rattle.std.proofs.Math.Seq.{take-length}
use Rattle.std.proofs.Math.Nat.{mul-le-mul_right, le-mul_of_pos_right, min-eq_left, min-eq_right}
use Rattle.call_script.specs.Block as block
use Rattle.call_script.specs.Standing.{is_repeat, times_of}
use Rattle.script_lines.specs.declared.blocks.Block.{Block}
use Rattle.script_lines.specs.Openings.{opening_of, block_of, blocks_of}
use Rattle.script_lines.specs.Nesting.{innermost}

blocks_of-front : (b : Block) (bs : List Block) → blocks_of (b ∷ bs) ≡ blocks_of bs ++ block_of b ∷ []
unfolding blocks_of
blocks_of-front b bs = reverse-append (block_of b ∷ []) (map block_of bs)

no_blocks : blocks_of [] ≡ []
unfolding blocks_of
no_blocks = refl

openings-end : (bs : List block.Block) (b : block.Block)
    → map (λ x. x.opening) (bs ++ b ∷ []) ≡ map (λ x. x.opening) bs ++ b.opening ∷ []
openings-end [] b = refl
openings-end (c ∷ bs) b = ap (λ ls. c.opening ∷ ls) (openings-end bs b)

repeats_front : (b : Block) (bs : List Block)
    → count_by is_repeat (map (λ x. x.opening) (blocks_of (b ∷ bs)))
    ≡ count_by is_repeat (map (λ x. x.opening) (blocks_of bs)) + cond (is_repeat (opening_of b.opening)) 1 0
repeats_front b bs =
    ap (λ xs. count_by is_repeat (map (λ x. x.opening) xs)) (blocks_of-front b bs)
    ∙ ap (count_by is_repeat) (openings-end (blocks_of bs) (block_of b))
    ∙ omega (arith, sum_by-append (λ l. cond (is_repeat l) 1 0) (map (λ x. x.opening) (blocks_of bs)) (opening_of b.opening ∷ []))

product_front : (b : Block) (bs : List Block)
    → fold (λ n x. n * times_of x.opening) 1 (blocks_of (b ∷ bs))
    ≡ fold (λ n x. n * times_of x.opening) 1 (blocks_of bs) * times_of (opening_of b.opening)
product_front b bs =
    ap (fold (λ n x. n * times_of x.opening) 1) (blocks_of-front b bs)
    ∙ fold-append (λ n x. n * times_of x.opening) 1 (blocks_of bs) (block_of b ∷ [])

cut : (p t most : ℕ) → most ≤ p → min (min p most * t) most ≡ min (p * t) most
cut p zero most h = omega arith
cut p (suc k) most h =
    let more : most * suc k ≤ p * suc k = mul-le-mul_right (suc k) h in
    let least : most ≤ most * suc k = le-mul_of_pos_right most (omega arith) in
    let same : min p most ≡ most = min-eq_right h in
    rw same (omega arith)

-- a product that is cut off before is cut off alike
pub cut_product : (p t most : ℕ) → min (min p most * t) most ≡ min (p * t) most
cut_product p t most = go (nat_le p most) refl
  where
    go : (x : Bool) → nat_le p most ≡ x → min (min p most * t) most ≡ min (p * t) most
    go true e = ap (λ n. min (n * t) most) (min-eq_left (leb-true p most e))
    go false e = cut p t most (let above = leb-false p most e in omega arith)

tail-is : (b : Block) (bs : List Block) → take (length (b ∷ bs) - 1) bs ≡ bs
tail-is b bs =
    let n : length (b ∷ bs) - 1 ≡ length bs = omega arith in ap (λ a. take a bs) n ∙ take-length bs

abbrev repeats : List block.Block → ℕ
repeats bs = count_by is_repeat (map (λ x. x.opening) bs)

pub no_repeats : (bs : List Block) (left : ℕ) → length bs < 1 → left ≡ left - repeats (blocks_of bs)
no_repeats [] left h = rw no_blocks (omega arith)
no_repeats (b ∷ bs) left h = absurd (omega arith)

pub repeats_step : (bs : List Block) (d : Block) (left rest new : ℕ) (t : Bool) → 1 ≤ length bs
    → rest ≡ left - repeats (blocks_of (take (length bs - 1) (drop 1 bs))) → t ≡ is_repeat (opening_of (slice_index_or bs 0 d).opening)
    → new ≡ rest - cond t 1 0 → new ≡ left - repeats (blocks_of bs)
repeats_step [] d left rest new t h e f g = absurd (omega arith)
repeats_step (b ∷ bs) d left rest new t h e f g =
    let one : new ≡ rest - cond (is_repeat (opening_of b.opening)) 1 0 = g ∙ ap (λ x. rest - cond x 1 0) f in
    let more : rest ≡ left - repeats (blocks_of bs) = e ∙ ap (λ xs. left - repeats (blocks_of xs)) (tail-is b bs) in
    omega (arith, repeats_front b bs)

abbrev product : List block.Block → ℕ
product bs = fold (λ n x. n * times_of x.opening) 1 bs

pub no_product : (bs : List Block) → length bs < 1 → 1 ≡ min (product (blocks_of bs)) (2 ^ 64 - 1)
no_product [] h = rw no_blocks refl
no_product (b ∷ bs) h = absurd (omega arith)

pub product_step : (bs : List Block) (d : Block) (inside times new : ℕ) → 1 ≤ length bs
    → inside ≡ min (product (blocks_of (take (length bs - 1) (drop 1 bs)))) (2 ^ 64 - 1)
    → times ≡ times_of (opening_of (slice_index_or bs 0 d).opening)
    → new ≡ min (inside * times) (2 ^ 64 - 1) → new ≡ min (product (blocks_of bs)) (2 ^ 64 - 1)
product_step [] d inside times new h e f g = absurd (omega arith)
product_step (b ∷ bs) d inside times new h e f g =
    g
    ∙ ap (λ n. min (n * times) (2 ^ 64 - 1))
    (e ∙ ap (λ xs. min (product (blocks_of xs)) (2 ^ 64 - 1)) (tail-is b bs))
    ∙ ap (λ n. min (min (product (blocks_of bs)) (2 ^ 64 - 1) * n) (2 ^ 64 - 1)) f
    ∙ cut_product (product (blocks_of bs)) (times_of (opening_of b.opening)) (2 ^ 64 - 1)
    ∙ ap (λ n. min n (2 ^ 64 - 1)) (sym (product_front b bs))

-- no block is the innermost where there is none
pub no_innermost : (bs : List block.Block) → is_none (innermost bs) ≡ (length bs == 0)
no_innermost [] = refl
no_innermost (b ∷ bs) = sym (ne_eqb (length (b ∷ bs)) 0 (λ e. absurd (omega arith)))
