-- The lines that are gone through, the blocks that are open and the lines that are left, one line later.
use Rattle.std.proofs.Common.{arith, ℕ, ◌≡◌, ◌+◌, ◌<◌, ◌≤◌, Bool, true, false, List, [], ◌∷◌, ◌++◌, Option, Some, None, refl}
use Rattle.std.specs.Prelude.{if◌then◌else◌, drop}
use Rattle.std.specs.List.{AllByRecursion}
use Rattle.call_script.specs.Spelling.{Word, NumberedLine, numbered_lines, lines}
use Rattle.call_script.specs.Line.{Line, Close}
use Rattle.call_script.specs.Block.{Block, PlacedLine, Scope, Outside, InBody, InHandler, InThread, InRacer, scope_of, placed, open_after, open_behind, block_at, opens, home, line_in}
use Rattle.script_laws.specs.FirstFault.{Rising, Below}
use Rattle.script_laws.proofs.FirstFault.{numbered-Rising, Below-weaken, behind-Below}
use Rattle.script_laws.proofs.ParserLaws.{All-++}
use Rattle.script_laws.proofs.BodyLines.{opens-nothing}
use Rattle.script_faults.specs.Walk.{is_body, NoneInBody, ArePlaced}

All-more : {A : Type 0} (P Q : A → Type 0) (xs : List A) → ((a : A) → P a → Q a) → AllByRecursion P xs
    → AllByRecursion Q xs
All-more P Q [] k h = tt
All-more P Q (x ∷ xs) k h = (k x h.0, All-more P Q xs k h.1)

home-below : (next : ℕ) (blocks : List Block) (l : NumberedLine) → 1 ≤ next → Below next blocks
    → home (placed blocks l) < next
unfolding Below
home-below next [] l p h = omega arith
home-below next (b ∷ blocks) l p h = h.0

-- ---- no block stands in a body

none-drop : (blocks : List Block) → NoneInBody blocks → NoneInBody (drop 1 blocks)
unfolding NoneInBody
none-drop [] h = tt
none-drop (b ∷ blocks) h = h.1

-- a line that opens a block stands in no body
pub opens-outside : (scope : Scope) (ws : List Word) (line : Line) → line_in scope ws ≡ Some line → opens line ≡ true
    → is_body scope ≡ false
opens-outside (InBody name) ws line h e = let k = opens-nothing name ws line h in absurd cc
opens-outside Outside ws line h e = refl
opens-outside (InHandler name) ws line h e = refl
opens-outside InThread ws line h e = refl
opens-outside InRacer ws line h e = refl

none-opened : (n : ℕ) (blocks : List Block) (ws : List Word) (line : Line) → line_in (scope_of blocks) ws ≡ Some line
    → NoneInBody blocks → NoneInBody (block_at n line ++ blocks)
unfolding NoneInBody
none-opened n blocks ws line h none = go (opens line) refl
  where
    go : (t : Bool) → opens line ≡ t
        → NoneInBody ((if t then record { number = n; opening = line } ∷ [] else []) ++ blocks)
    go true e = (opens-outside (scope_of blocks) ws line h e, none)
    go false e = none

none-behind : (n : ℕ) (blocks : List Block) (ws : List Word) (line : Option Line) → line_in (scope_of blocks) ws ≡ line
    → NoneInBody blocks → NoneInBody (open_behind n line blocks)
none-behind n blocks ws None h none = none
none-behind n blocks ws (Some Close) h none = none-drop blocks none
none-behind n blocks ws (Some line) h none = none-opened n blocks ws line h none

-- ---- one line later

-- the blocks around the lines so far are opened before this one
pub homes-before : (before : List PlacedLine) (blocks : List Block) (l : NumberedLine) (ls : List NumberedLine)
    → ArePlaced before blocks (l ∷ ls) → AllByRecursion (λ k. home k < l.number) (before ++ placed blocks l ∷ [])
unfolding Rising
homes-before before blocks l ls h =
    let at : h.next ≤ l.number = h.rising.0 in
    let here : home (placed blocks l) < h.next = home-below h.next blocks l h.positive h.below in
    All-++ (λ k. home k < l.number) before (placed blocks l ∷ [])
    (All-more (λ k. home k < h.next) (λ k. home k < l.number) before (λ k e. omega arith) h.homes) (omega arith, tt)

pub placed-behind : (before : List PlacedLine) (blocks : List Block) (l : NumberedLine) (ls : List NumberedLine)
    → ArePlaced before blocks (l ∷ ls)
    → ArePlaced (before ++ placed blocks l ∷ []) (open_after (placed blocks l)) ls
unfolding Rising
placed-behind before blocks l ls h = record {
  next = l.number + 1;
  positive = omega arith;
  homes =
      All-more (λ k. home k < l.number) (λ k. home k < l.number + 1) _ (λ k e. omega arith)
      (homes-before before blocks l ls h);
  below = behind-Below l.number (placed blocks l).line blocks (Below-weaken h.next l.number blocks h.rising.0 h.below);
  rising = h.rising.1;
  none_in_body = none-behind l.number blocks l.words (placed blocks l).line refl h.none_in_body;
}

pub placed-first : (bytes : List ℕ) → ArePlaced [] [] (numbered_lines bytes)
unfolding Below NoneInBody
placed-first bytes = record {
  next = 1;
  positive = omega arith;
  homes = tt;
  below = tt;
  rising = numbered-Rising 1 (lines bytes);
  none_in_body = tt;
}
