-- The lines of each block stand behind the line that opens it, up to the first line outside of it.
use Rattle.std.proofs.Common.{arith, ℕ, ◌≡◌, ◌+◌, ◌<◌, ◌≤◌, Bool, true, false, eq-eqb, eqb-true, List, [], ◌∷◌, ◌++◌, Option, Some, None, refl, ap, sym, ◌∙◌, append_assoc}
use Rattle.std.proofs.lemmas.Bool.{le-ltb, ltb-true, or_parts}
use Rattle.std.proofs.lemmas.List.Elements.{filter-append}
use Rattle.std.specs.Prelude.{◌==◌, nat_lt, if◌then◌else◌, filter, slice_get, option_map, unwrap_or}
use Rattle.std.specs.List.{AllByRecursion, cons_option}
use Rattle.call_script.specs.Spelling.{NumberedLine, numbered_lines, lines}
use Rattle.call_script.specs.Line.{Line}
use Rattle.call_script.specs.Block.{Block, PlacedLine, placed, placed_from, placed_lines, open_after, home}
use Rattle.script_laws.specs.FirstFault.{Rising, Below}
use Rattle.script_laws.proofs.FirstFault.{Rising-weaken, numbered-Rising, Below-weaken, behind-Below, is_number_of, beyond, not_number}
use Rattle.script_laws.proofs.BodyLines.{other-after}
use Rattle.script_blocks.specs.Blocks.{HomeLine, kept_by, kept, is_of_block, block_lines, in_block, inside, AreInPlace}

-- a line that is kept has its own number and its own home
kept-is : (l : PlacedLine) (e : HomeLine) → kept l ≡ Some e → (e.number ≡ l.number) × (e.home ≡ home l)
kept-is l e k = go l.line k
  where
    some : (t : Bool) (line : Line) → ◌≡◌ {A = Option HomeLine} (if t
        then Some (record { number = l.number; home = home l; line = line }) else None) (Some e) → (e.number ≡ l.number) × (e.home ≡ home l)
    some true line f = (ap (λ o. (unwrap_or o e).number) (sym f), ap (λ o. (unwrap_or o e).home) (sym f))
    some false line f = absurd cc

    go : (o : Option Line) → kept_by l.number (home l) o ≡ Some e → (e.number ≡ l.number) × (e.home ≡ home l)
    go None f = absurd cc
    go (Some line) f = some (is_of_block line) line f

-- the lines of blocks among these
abbrev kept_from : List Block → List NumberedLine → List HomeLine
kept_from around ls = block_lines (placed_from around ls)

module _ (n : ℕ) (positive : 1 ≤ n) where
  -- a line in other blocks has another home
  home-other : (around : List Block) (l : NumberedLine) → is_number_of n around ≡ false
      → (home (placed around l) == n) ≡ false
  home-other [] l h = not_number 0 n (λ e. absurd (omega arith))
  home-other (b ∷ around) l h = (or_parts (b.number == n) (is_number_of n around) h).0

  -- where the block is not open, none of its lines follows
  none-behind : (m : ℕ) (around : List Block) (ls : List NumberedLine) → n < m → Rising m ls
      → is_number_of n around ≡ false → in_block n (kept_from around ls) ≡ []
  unfolding Rising in_block block_lines
  none-behind m around [] p r h = refl
  none-behind m around (l ∷ ls) p r h =
      go (kept here) refl (none-behind (l.number + 1) (open_after here) ls (omega (arith, r.0)) r.1
      (other-after n around l (λ e. absurd (omega (arith, r.0))) h))
    where
      here : PlacedLine
      here = placed around l

      go : (o : Option HomeLine) → kept here ≡ o → in_block n (kept_from (open_after here) ls) ≡ []
          → in_block n (cons_option o (kept_from (open_after here) ls)) ≡ []
      go None e rest = rest
      go (Some x) e rest =
          let other : (x.home == n) ≡ false = ap (λ k. k == n) (kept-is here x e).1 ∙ home-other around l h in
          rw other rest

  -- a line outside of the block stands in blocks that were open before it
  not-open : (m : ℕ) (around : List Block) (l : NumberedLine) → Below m around → home (placed around l) < n
      → is_number_of n around ≡ false
  unfolding Below
  not-open m [] l b h = refl
  not-open m (c ∷ around) l b h =
      rw (not_number c.number n (λ e. absurd (omega (arith, h)))) (beyond c.number n around b.1 (omega (arith, h)))

  pub inside-is : (m : ℕ) (around : List Block) (ls : List NumberedLine) → n < m → Rising m ls → Below m around
      → in_block n (kept_from around ls) ≡ inside n (kept_from around ls)
  unfolding Rising in_block block_lines inside
  inside-is m around [] p r b = refl
  inside-is m around (l ∷ ls) p r b =
      go (kept here) refl (inside-is (l.number + 1) (open_after here) ls (omega (arith, r.0)) r.1
      (behind-Below l.number here.line around (Below-weaken m l.number around r.0 b)))
    where
      here : PlacedLine
      here = placed around l

      rest : List HomeLine
      rest = kept_from (open_after here) ls

      go : (o : Option HomeLine) → kept here ≡ o → in_block n rest ≡ inside n rest
          → in_block n (cons_option o rest) ≡ inside n (cons_option o rest)
      go None e h = h
      go (Some x) e h = on (nat_lt x.home n) (x.home == n) refl refl
        where
          on : (s t : Bool) → nat_lt x.home n ≡ s → (x.home == n) ≡ t
              → in_block n (x ∷ rest) ≡ inside n (x ∷ rest)
          on true t f g =
              let less : x.home < n = ltb-true x.home n f in
              let same : x.home ≡ home here = (kept-is here x e).1 in
              let other : (x.home == n) ≡ false = not_number x.home n (λ k. absurd (omega arith)) in
              let closed : is_number_of n around ≡ false = not-open m around l b (omega (arith, less, same)) in
              rw (f, other)
              (none-behind (l.number + 1) (open_after here) ls (omega (arith, r.0)) r.1
              (other-after n around l (λ k. absurd (omega (arith, r.0))) closed))
          on false true f g = rw (f, g) (ap (λ ys. x ∷ ys) h)
          on false false f g = rw (f, g) h

-- no line of a block stands before the line that opens it
abbrev IsBefore : ℕ → HomeLine → Type 0
IsBefore m l = l.home < m

before-weaken : (m k : ℕ) (ls : List HomeLine) → m ≤ k → AllByRecursion (IsBefore m) ls
    → AllByRecursion (IsBefore k) ls
before-weaken m k [] e h = tt
before-weaken m k (l ∷ ls) e h = (omega (arith, h.0), before-weaken m k ls e h.1)

before-more : (m : ℕ) (l : HomeLine) (ls : List HomeLine) → l.home < m → AllByRecursion (IsBefore m) ls
    → AllByRecursion (IsBefore m) (ls ++ l ∷ [])
before-more m l [] e h = (e, tt)
before-more m l (x ∷ ls) e h = (h.0, before-more m l ls e h.1)

none-before : (n : ℕ) (ls : List HomeLine) → AllByRecursion (IsBefore n) ls → in_block n ls ≡ []
unfolding in_block
none-before n [] h = refl
none-before n (l ∷ ls) h =
    rw (not_number l.home n (λ e. absurd (omega (arith, h.0)))) (none-before n ls h.1)

home-before : (m : ℕ) (around : List Block) (l : NumberedLine) → 1 ≤ m → Below m around → home (placed around l) < m
unfolding Below
home-before m [] l p b = omega arith
home-before m (c ∷ around) l p b = b.0

split : (n : ℕ) (xs ys : List HomeLine) → in_block n (xs ++ ys) ≡ in_block n xs ++ in_block n ys
unfolding in_block
split n xs ys = filter-append (λ k. k.home == n) xs ys

passed : (n : ℕ) (x : HomeLine) (ys : List HomeLine) → x.home < n → in_block n (x ∷ ys) ≡ in_block n ys
unfolding in_block
passed n x ys less = rw (not_number x.home n (λ k. absurd (omega (arith, less)))) refl

in-place : (all before : List HomeLine) (m : ℕ) (around : List Block) (ls : List NumberedLine) → 1 ≤ m
    → before ++ kept_from around ls ≡ all → AllByRecursion (IsBefore m) before → Below m around → Rising m ls
    → AreInPlace all (kept_from around ls)
unfolding Rising block_lines AreInPlace
in-place all before m around [] p w h b r = tt
in-place all before m around (l ∷ ls) p w h b r =
    go (kept here) refl w
    (λ ys v k. in-place all ys (l.number + 1) (open_after (placed around l)) ls (omega arith) v k
    (behind-Below l.number (placed around l).line around (Below-weaken m l.number around r.0 b)) r.1)
  where
    here : PlacedLine
    here = placed around l

    rest : List HomeLine
    rest = kept_from (open_after here) ls

    below : Below l.number around
    below = Below-weaken m l.number around r.0 b

    open-below : Below (l.number + 1) (open_after here)
    open-below = behind-Below l.number here.line around below

    earlier : AllByRecursion (IsBefore l.number) before
    earlier = before-weaken m l.number before r.0 h

    Follow : Type 0
    Follow =
        (ys : List HomeLine) → ys ++ rest ≡ all → AllByRecursion (IsBefore (l.number + 1)) ys → AreInPlace all rest

    go : (o : Option HomeLine) → kept here ≡ o → before ++ cons_option o rest ≡ all → Follow
        → AreInPlace all (cons_option o rest)
    go None e w follow = follow before w (before-weaken l.number (l.number + 1) before (omega arith) earlier)
    go (Some x) e w follow =
        let number : x.number ≡ l.number = (kept-is here x e).0 in
        let same : x.home ≡ home here = (kept-is here x e).1 in
        let inner : home here < l.number = home-before l.number around l (omega (arith, p, r.0)) below in
        let less : x.home < l.number = omega (arith, same, inner) in (
          own x number less w,
          follow (before ++ x ∷ []) (append_assoc before (x ∷ []) rest ∙ w)
              (before-more (l.number + 1) x before (omega (arith, less))
              (before-weaken l.number (l.number + 1) before (omega arith) earlier)),
        )
      where
        own : (x : HomeLine) → x.number ≡ l.number → x.home < l.number → before ++ x ∷ rest ≡ all
            → in_block x.number all ≡ inside x.number rest
        own x number less w =
            let n = l.number in
            rw number
            (ap (in_block n) (sym w) ∙ split n before (x ∷ rest)
            ∙ ap (λ ys. ys ++ in_block n (x ∷ rest)) (none-before n before earlier) ∙ passed n x rest less
            ∙ inside-is n (omega (arith, p, r.0)) (l.number + 1) (open_after here) ls (omega arith) r.1 open-below)

-- the lines of a script are in place
pub all_in_place : (bytes : List ℕ) → AreInPlace (block_lines (placed_lines bytes)) (block_lines (placed_lines bytes))
unfolding placed_lines Below
all_in_place bytes =
    in-place (kept_from [] (numbered_lines bytes)) [] 1 [] (numbered_lines bytes) (omega arith) refl tt tt
    (numbered-Rising 1 (lines bytes))

-- those that stand in no block
pub outside_all : (ls : List HomeLine) → in_block 0 ls ≡ inside 0 ls
unfolding in_block inside
outside_all [] = refl
outside_all (l ∷ ls) = rw (le-ltb l.home 0 (omega arith)) (go (l.home == 0) refl (outside_all ls))
  where
    go : (t : Bool) → (l.home == 0) ≡ t → in_block 0 ls ≡ inside 0 ls
        → (if t then l ∷ in_block 0 ls else in_block 0 ls) ≡ (if t then l ∷ inside 0 ls else inside 0 ls)
    go true e h = ap (λ ys. l ∷ ys) h
    go false e h = h
