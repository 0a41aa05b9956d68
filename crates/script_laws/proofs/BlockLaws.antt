-- Which lines a block has: all those whose innermost block it is, and they have the same blocks around them.
use Rattle.std.proofs.Common.{arith, ℕ, zero, suc, ◌≡◌, ◌+◌, ◌≤◌, Bool, true, false, List, [], ◌∷◌, ◌++◌, length, Option, Some, None, refl, sym, ap, subst, ◌∙◌, append_assoc, eqb-true}
use Rattle.std.specs.Prelude.{◌==◌, drop, slice_get, unwrap_or, option_map, if◌then◌else◌}
use Rattle.std.specs.List.{AllByRecursion}
use Rattle.call_script.specs.Spelling.{NumberedLine, numbered_lines, lines}
use Rattle.call_script.specs.Line.{Line, Body, Handler, Thread, Racer, Repeat, Close}
use Rattle.call_script.specs.Block.{Block, Scope, Outside, InBody, InHandler, InThread, InRacer, PlacedLine, placed, placed_from, placed_lines, open_after, open_behind, block_at, opens, home, scope_of, scope_in, scope_in_repeat}
use Rattle.script_laws.specs.FirstFault.{Rising}
use Rattle.script_laws.proofs.FirstFault.{numbered-Rising}
use Rattle.script_laws.proofs.Forms.{IsOutside}

-- one of the lines
abbrev pub IsIn : List PlacedLine → PlacedLine → Type 0
IsIn script l = (k : ℕ) × (slice_get script k ≡ Some l)

pub at-seam : (before : List PlacedLine) (l : PlacedLine) (ls : List PlacedLine)
    → slice_get (before ++ l ∷ ls) (length before) ≡ Some l
at-seam [] l ls = refl
at-seam (x ∷ before) l ls = at-seam before l ls

pub is-in : (script before : List PlacedLine) (l : PlacedLine) (ls : List PlacedLine) → before ++ l ∷ ls ≡ script
    → IsIn script l
is-in script before l ls e = (length before, ap (λ xs. slice_get xs (length before)) (sym e) ∙ at-seam before l ls)

pub at-place : {A : Type 0} (P : A → Type 0) (xs : List A) (k : ℕ) (x : A) → AllByRecursion P xs
    → slice_get xs k ≡ Some x → P x
at-place P [] k x h e = absurd cc
at-place P (y ∷ xs) zero x h e = subst P (ap (λ o. unwrap_or o y) e) h.0
at-place P (y ∷ xs) (suc k) x h e = at-place P xs k x h.1 e

-- ---- numbers

-- the lines' numbers rise, from at least this on
unfoldable pub RiseIn : ℕ → List PlacedLine → Type 0
RiseIn n [] = Unit {0}
RiseIn n (l ∷ ls) = (n ≤ l.number) × RiseIn (l.number + 1) ls

placed-rise : (n : ℕ) (around : List Block) (ls : List NumberedLine) → Rising n ls → RiseIn n (placed_from around ls)
unfolding RiseIn Rising
placed-rise n around [] h = tt
placed-rise n around (l ∷ ls) h = (h.0, placed-rise (l.number + 1) (open_after (placed around l)) ls h.1)

at-least : (n : ℕ) (ls : List PlacedLine) (k : ℕ) (l : PlacedLine) → RiseIn n ls → slice_get ls k ≡ Some l
    → n ≤ l.number
unfolding RiseIn
at-least n [] k l h e = absurd cc
at-least n (x ∷ ls) zero l h e = let same : x ≡ l = ap (λ o. unwrap_or o x) e in subst (λ y. n ≤ y.number) same h.0
at-least n (x ∷ ls) (suc k) l h e = let more = at-least (x.number + 1) ls k l h.1 e in omega (arith, h.0)

-- lines of one number are one line
same-line : (n : ℕ) (ls : List PlacedLine) (j k : ℕ) (a b : PlacedLine) → RiseIn n ls → slice_get ls j ≡ Some a
    → slice_get ls k ≡ Some b → a.number ≡ b.number → a ≡ b
unfolding RiseIn
same-line n [] j k a b h e f s = absurd cc
same-line n (x ∷ ls) zero zero a b h e f s = ap (λ o. unwrap_or o a) (sym e ∙ f)
same-line n (x ∷ ls) zero (suc k) a b h e f s =
    let first : x.number ≡ a.number = ap (λ o. (unwrap_or o x).number) e in
    let more = at-least (x.number + 1) ls k b h.1 f in
    absurd (omega arith)
same-line n (x ∷ ls) (suc j) zero a b h e f s =
    let first : x.number ≡ b.number = ap (λ o. (unwrap_or o x).number) f in
    let more = at-least (x.number + 1) ls j a h.1 e in
    absurd (omega arith)
same-line n (x ∷ ls) (suc j) (suc k) a b h e f s = same-line (x.number + 1) ls j k a b h.1 e f s

-- ---- the blocks around a line

-- each block is opened by a line of the script, which stands in the blocks around it
unfoldable pub AreOpened : List PlacedLine → List Block → Type 0
AreOpened script [] = Unit {0}
AreOpened script (b ∷ around) =
    ((o : PlacedLine) × IsIn script o × (o.number ≡ b.number) × (o.line ≡ Some b.opening) × (o.blocks ≡ around)
    × (opens b.opening ≡ true)) × AreOpened script around

opened-drop : (script : List PlacedLine) (blocks : List Block) → AreOpened script blocks
    → AreOpened script (drop 1 blocks)
unfolding AreOpened
opened-drop script [] h = tt
opened-drop script (b ∷ blocks) h = h.1

opened-line : (script : List PlacedLine) (l : PlacedLine) (line : Line) → IsIn script l → l.line ≡ Some line
    → AreOpened script l.blocks → AreOpened script (block_at l.number line ++ l.blocks)
unfolding AreOpened
opened-line script l line among e h = go (opens line) refl
  where
    go : (t : Bool) → opens line ≡ t
        → AreOpened script ((if t then record { number = l.number; opening = line } ∷ [] else []) ++ l.blocks)
    go true o = ((l, among, refl, e, refl, o), h)
    go false o = h

opened-behind : (script : List PlacedLine) (l : PlacedLine) (line : Option Line) → IsIn script l → l.line ≡ line
    → AreOpened script l.blocks → AreOpened script (open_behind l.number line l.blocks)
opened-behind script l None among e h = h
opened-behind script l (Some Close) among e h = opened-drop script l.blocks h
opened-behind script l (Some line) among e h = opened-line script l line among e h

all-opened : (script before : List PlacedLine) (around : List Block) (ls : List NumberedLine) → before
    ++ placed_from around ls ≡ script → AreOpened script around
    → AllByRecursion (λ l. AreOpened script l.blocks) (placed_from around ls)
all-opened script before around [] e h = tt
all-opened script before around (l ∷ ls) e h = (
  h,
  all-opened script (before ++ here ∷ []) (open_after here) ls
      (append_assoc before (here ∷ []) (placed_from (open_after here) ls) ∙ e)
      (opened-behind script here here.line (is-in script before here (placed_from (open_after here) ls) e) refl h),
)
  where
    here : PlacedLine
    here = placed around l

-- lines whose numbers rise from 1 on, each in blocks that are opened
pub record AreNested (script : List PlacedLine) : Type 0 where
  pub rise : RiseIn 1 script
  pub opened : AllByRecursion (λ l. AreOpened script l.blocks) script

pub lines-nested : (bytes : List ℕ) → AreNested (placed_lines bytes)
unfolding placed_lines AreOpened
lines-nested bytes = record {
  rise = placed-rise 1 [] (numbered_lines bytes) (numbered-Rising 1 (lines bytes));
  opened = all-opened (placed_from [] (numbered_lines bytes)) [] [] (numbered_lines bytes) refl tt;
}

-- ---- the lines of a block

-- those of the block that the line of this number opens have these blocks around them
abbrev pub IsBlockOf : List PlacedLine → ℕ → List Block → Type 0
IsBlockOf script n blocks = (l : PlacedLine) → IsIn script l → (home l == n) ≡ true → l.blocks ≡ blocks

block-is : (b : Block) (n : ℕ) (line : Line) → b.number ≡ n → b.opening ≡ line
    → b ≡ record { number = n; opening = line }
block-is b n line e f =
    subst (λ m. b ≡ record { number = m; opening = line }) e
    (subst (λ x. b ≡ record { number = b.number; opening = x }) f refl)

module _ (script : List PlacedLine) (nested : AreNested script) where
  pub positive : (l : PlacedLine) → IsIn script l → 1 ≤ l.number
  positive l among = at-least 1 script among.0 l nested.rise among.1

  blocks-opened : (l : PlacedLine) → IsIn script l → AreOpened script l.blocks
  blocks-opened l among = at-place (λ x. AreOpened script x.blocks) script among.0 l nested.opened among.1

  pub outside-block : IsBlockOf script 0 []
  unfolding AreOpened
  outside-block l among e = go l.blocks (blocks-opened l among) e
    where
      go : (blocks : List Block) → AreOpened script blocks
          → (unwrap_or (option_map (λ b. b.number) (slice_get blocks 0)) 0 == 0) ≡ true → blocks ≡ []
      go [] h e = refl
      go (b ∷ blocks) h e =
          let zero' : b.number ≡ 0 = eqb-true b.number 0 e in let p = positive h.0.0 h.0.1 in let q = h.0.2 in
          absurd (omega arith)

  pub opened-block : (m : PlacedLine) (line : Line) → IsIn script m → m.line ≡ Some line
      → IsBlockOf script m.number (record { number = m.number; opening = line } ∷ m.blocks)
  unfolding AreOpened
  opened-block m line there is l among e = go l.blocks (blocks-opened l among) e
    where
      go : (blocks : List Block) → AreOpened script blocks
          → (unwrap_or (option_map (λ b. b.number) (slice_get blocks 0)) 0 == m.number) ≡ true
          → blocks ≡ record { number = m.number; opening = line } ∷ m.blocks
      go [] h e = let zero' : 0 ≡ m.number = eqb-true 0 m.number e in let p = positive m there in absurd (omega arith)
      go (b ∷ blocks) h e =
          let number : b.number ≡ m.number = eqb-true b.number m.number e in
          let same : h.0.0 ≡ m = same-line 1 script h.0.1.0 there.0 h.0.0 m nested.rise h.0.1.1 there.1 (h.0.2
          ∙ number) in
          let opening : b.opening ≡ line = ap (λ o. unwrap_or o line) (sym h.0.3 ∙ ap (λ x. x.line) same ∙ is) in
          let around : blocks ≡ m.blocks = sym h.0.4 ∙ ap (λ x. x.blocks) same in
          subst (λ xs. b ∷ blocks ≡ record { number = m.number; opening = line }
          ∷ xs) around (ap (λ x. x ∷ blocks) (block-is b m.number line number opening))

  -- a line that stands in no scope of a block is in none
  pub outside-is : (l : PlacedLine) → IsIn script l → IsOutside (scope_of l.blocks) → l.blocks ≡ []
  unfolding AreOpened
  outside-is l among out = go l.blocks (blocks-opened l among) out
    where
      in-repeat : (scope : Scope) → IsOutside (scope_in_repeat scope) → ⊥
      in-repeat Outside h = h
      in-repeat (InBody f) h = h
      in-repeat (InHandler f) h = h
      in-repeat InThread h = h
      in-repeat InRacer h = h

      none : (line : Line) (scope : Scope) → opens line ≡ true → IsOutside (scope_in line scope) → ⊥
      none (Body f) scope e h = h
      none (Handler f) scope e h = h
      none Thread scope e h = h
      none Racer scope e h = h
      none (Repeat times) scope e h = in-repeat scope h
      none line scope e h = absurd cc

      go : (blocks : List Block) → AreOpened script blocks → IsOutside (scope_of blocks) → blocks ≡ []
      go [] h o = refl
      go (b ∷ blocks) h o = absurd (none b.opening (scope_of blocks) h.0.5 o)
