-- The lines of a body, by looking ahead and from line to line.
use Rattle.std.proofs.Common.{arith, ℕ, ◌≡◌, ◌+◌, ◌<◌, Bool, true, false, List, [], ◌∷◌, ◌++◌, Option, Some, None, refl, sym, ◌∙◌, ap, subst, eq-eqb}
use Rattle.std.specs.Prelude.{◌==◌, if◌then◌else◌, drop, filter, filter_map, count_by, cond}
use Rattle.std.specs.List.{AllByRecursion, cons_option}
use Rattle.std.proofs.lemmas.List.Elements.{filter-append, filter_map-append}
use Rattle.std.proofs.lemmas.List.Sums.{sum_by-cons}
use Rattle.edl_interface.specs.declared.Interface.{Interface}
use Rattle.call_script.specs.Spelling.{Word, NumberedLine}
use Rattle.call_script.specs.Line.{Line, Body, Handler, Thread, Racer, Repeat, Close}
use Rattle.call_script.specs.Block.{Block, PlacedLine, Scope, Outside, InBody, InHandler, InThread, InRacer, scope_of, scope_in, placed, placed_from, open_after, open_behind, block_at, opens, home, line_in}
use Rattle.call_script.specs.Standing.{lines_of, is_action, temporary_name, body_name, body_function, named, names_in, names_at}
use Rattle.script_laws.specs.FirstFault.{Rising}
use Rattle.script_laws.proofs.FirstFault.{not_number, Below-weaken}
use Rattle.script_laws.proofs.BodyLines.{opens-nothing, closes, up_to_close, at_home-body}
use Rattle.script_faults.specs.declared.body.Body.{Body as Open}
use Rattle.script_faults.specs.declared.codes.BodyAround.{BodyAround}
use Rattle.script_faults.specs.Bodies.{is_close, onto_body, lines_of_body, IsBody, IsAround}
use Rattle.script_faults.specs.Codes.{IsBodyAround}
use Rattle.script_faults.specs.Walk.{innermost, of_block, is_body, NoneInBody, ArePlaced, IsWithin, standing}
use Rattle.script_faults.proofs.PlaceLaws.{opens-outside, homes-before}

-- ---- looking ahead

-- they have the same temporaries, and as many actions
abbrev Same : List Line → List Line → Type 0
Same xs ys = (filter_map temporary_name xs ≡ filter_map temporary_name ys) × (count_by is_action xs ≡ count_by is_action ys)

same-cons : (line : Line) (xs ys : List Line) → Same xs ys → Same (line ∷ xs) (line ∷ ys)
same-cons line xs ys h = (
  ap (λ ns. cons_option (temporary_name line) ns) h.0,
  sum_by-cons (λ l. cond (is_action l) 1 0) line xs
      ∙ ap (λ n. cond (is_action line) 1 0 + n) h.1
      ∙ sym (sum_by-cons (λ l. cond (is_action l) 1 0) line ys),
)

same-close : Same (Close ∷ []) []
same-close = (refl, refl)

same-none : Same [] []
same-none = (refl, refl)

ahead : (b : Block) (name : Word) (around : List Block) (ls : List NumberedLine) → b.opening ≡ Body name
    → Same (lines_of (up_to_close (placed_from (b ∷ around) ls))) (lines_of_body name ls)
unfolding lines_of_body
ahead b name around [] o = same-none
ahead b name around (l ∷ ls) o =
    subst (λ x. Same (lines_of (up_to_close (placed_from (b ∷ around) (l ∷ ls)))) (onto_body x (lines_of_body name ls)))
    (ap (λ s. line_in s l.words) scope) (go here.line refl (ahead b name around ls o))
  where
    here : PlacedLine
    here = placed (b ∷ around) l

    scope : scope_of (b ∷ around) ≡ InBody name
    scope = ap (λ x. scope_in x (scope_of around)) o

    IsSame : List Block → Type 0
    IsSame blocks = Same (lines_of (up_to_close (placed_from blocks ls))) (lines_of_body name ls)

    stays : (line : Line) → here.line ≡ Some line → IsSame (b ∷ around) → IsSame (block_at l.number line ++ b ∷ around)
    stays line e same =
        subst (λ t. IsSame ((if t then record { number = l.number; opening = line } ∷ [] else []) ++ b ∷ around))
        (sym (opens-nothing name l.words line (subst (λ s. line_in s l.words ≡ Some line) scope e))) same

    seen : (x : Option Line) (rest : List PlacedLine) (ys : List Line) → here.line ≡ x
        → Same (cons_option x (lines_of rest)) ys → Same (lines_of (here ∷ rest)) ys
    seen x rest ys e same = subst (λ y. Same (cons_option y (lines_of rest)) ys) (sym e) same

    go : (x : Option Line) → here.line ≡ x → IsSame (b ∷ around)
        → Same (lines_of (if closes x then here ∷ [] else here
        ∷ up_to_close (placed_from (open_behind l.number x (b ∷ around)) ls))) (onto_body x (lines_of_body name ls))
    go None e same = seen None (up_to_close (placed_from (b ∷ around) ls)) (lines_of_body name ls) e same
    go (Some Close) e same = seen (Some Close) [] [] e same-close
    go (Some line) e same =
        seen (Some line) (up_to_close (placed_from (block_at l.number line ++ b ∷ around) ls))
        (line ∷ lines_of_body name ls) e
        (same-cons line (lines_of (up_to_close (placed_from (block_at l.number line ++ b ∷ around) ls)))
        (lines_of_body name ls) (stays line e same))

-- the next line is taken
pub body-taken : (name : Word) (all ls : List NumberedLine) (l : NumberedLine) (o : Option Line) → all ≡ l ∷ ls
    → o ≡ line_in (InBody name) l.words → lines_of_body name all ≡ onto_body o (lines_of_body name ls)
unfolding lines_of_body
body-taken name all ls l o e f = ap (lines_of_body name) e ∙ ap (λ x. onto_body x (lines_of_body name ls)) (sym f)

pub body-ended : (name : Word) (all : List NumberedLine) → all ≡ [] → lines_of_body name all ≡ []
unfolding lines_of_body
body-ended name all e = ap (lines_of_body name) e

pub onto-close : (line : Line) (ls : List Line) → is_close line ≡ true → onto_body (Some line) ls ≡ []
onto-close Close ls e = refl
onto-close line ls e = absurd cc

pub onto-other : (line : Line) (ls : List Line) → is_close line ≡ false → onto_body (Some line) ls ≡ line ∷ ls
onto-other Close ls e = absurd cc
onto-other line ls e = refl

-- ---- the lines of a block

of_block-append : (n : ℕ) (xs ys : List PlacedLine) → of_block n (xs ++ ys) ≡ of_block n xs ++ of_block n ys
of_block-append n xs ys =
    ap lines_of (filter-append (λ l. home l == n) xs ys)
    ∙ filter_map-append (λ l. l.line) (filter (λ l. home l == n) xs) (filter (λ l. home l == n) ys)

none-of : (n : ℕ) (ls : List PlacedLine) → AllByRecursion (λ l. home l < n) ls → of_block n ls ≡ []
none-of n [] h = refl
none-of n (l ∷ ls) h = rw (not_number (home l) n (λ e. absurd (omega (arith, h.0)))) (none-of n ls h.1)

-- the line itself is of the block around it
own-line : (blocks : List Block) (l : NumberedLine) (line : Line) (rest : List PlacedLine) → (placed blocks l).line ≡ Some line
    → of_block (innermost blocks) (placed blocks l ∷ rest) ≡ line ∷ of_block (innermost blocks) rest
own-line blocks l line rest e =
    ap (λ t. lines_of (if t then placed blocks l ∷ filter (λ k. home k == innermost blocks) rest
    else filter (λ k. home k == innermost blocks) rest)) (eq-eqb (innermost blocks) (innermost blocks) refl)
    ∙ ap (λ o. cons_option o (of_block (innermost blocks) rest)) e

start : (i : Interface) (name : Word) (b : Open) (xs ys : List Line) → Same xs ys → IsBody i name [] ys b
    → IsBody i name [] xs b
start i name b xs ys same h = record {
  params = h.params;
  temporaries = h.temporaries ∙ sym same.0;
  given = h.given;
  room = h.room;
  left = h.left ∙ sym same.1;
}

module _ (i : Interface) (before : List PlacedLine) (blocks : List Block) (l : NumberedLine) (ls : List NumberedLine)
    (placed-so : ArePlaced before blocks (l ∷ ls)) where
  abbrev here : PlacedLine
  here = placed blocks l

  -- ---- a line that opens a body

  opened-lines : (name : Word)
      → Same (of_block l.number (placed_from (record { number = l.number; opening = Body name } ∷ blocks) ls)) (lines_of_body name ls)
  unfolding Rising
  opened-lines name =
      subst (λ xs. Same (lines_of xs) (lines_of_body name ls))
      (sym (at_home-body (l.number + 1) b name blocks ls refl (omega (arith, placed-so.positive, placed-so.rising.0)) (omega arith)
      (Below-weaken placed-so.next l.number blocks placed-so.rising.0 placed-so.below) placed-so.rising.1))
      (ahead b name blocks ls refl)
    where
      b : Block
      b = record { number = l.number; opening = Body name }

  none-so-far : of_block l.number (before ++ here ∷ []) ≡ []
  none-so-far = none-of l.number (before ++ here ∷ []) (homes-before before blocks l ls placed-so)

  pub within-opened : (name : Word) (new : Open) → here.line ≡ Some (Body name)
      → IsBody i name [] (lines_of_body name ls) new → IsWithin i (before ++ here ∷ []) (open_after here) ls new
  within-opened name new e h =
      subst (λ o. IsWithin i (before ++ here ∷ []) (open_behind l.number o blocks) ls new) (sym e) opened
    where
      b : Block
      b = record { number = l.number; opening = Body name }

      begun : IsBody i name (of_block l.number (before ++ here ∷ [])) (of_block l.number (placed_from (b ∷ blocks) ls)) new
      begun =
          subst (λ xs. IsBody i name xs (of_block l.number (placed_from (b ∷ blocks) ls)) new) (sym none-so-far)
          (start i name new _ _ (opened-lines name) h)

      opened : IsWithin i (before ++ here ∷ []) (b ∷ blocks) ls new
      opened other s =
          let same : name ≡ other = cc in
          subst (λ w. IsBody i w (of_block l.number (before ++ here ∷ []))
          (of_block l.number (placed_from (b ∷ blocks) ls)) new) same begun

  -- ---- any other line

  none-below : (bs : List Block) → NoneInBody bs → is_body (scope_of (drop 1 bs)) ≡ false
  unfolding NoneInBody
  none-below [] h = refl
  none-below (b ∷ bs) h = h.0

  no-body : (line : Line) (scope : Scope) → opens line ≡ true → body_name line ≡ None → is_body scope ≡ false
      → is_body (scope_in line scope) ≡ false
  no-body (Body name) scope e f g = absurd cc
  no-body (Handler name) scope e f g = refl
  no-body Thread scope e f g = refl
  no-body Racer scope e f g = refl
  no-body (Repeat times) Outside e f g = refl
  no-body (Repeat times) (InBody name) e f g = absurd cc
  no-body (Repeat times) (InHandler name) e f g = refl
  no-body (Repeat times) InThread e f g = refl
  no-body (Repeat times) InRacer e f g = refl
  no-body line scope e f g = absurd cc

  outside-body : (bs : List Block) (new : Open) → is_body (scope_of bs) ≡ false
      → IsWithin i (before ++ here ∷ []) bs ls new
  outside-body bs new e name s = let k : is_body (scope_of bs) ≡ true = ap is_body s in absurd cc

  gone_on : (x : Line) (new : Open) → here.line ≡ Some x → body_name x ≡ None
      → (open_behind l.number (Some x) blocks ≡ blocks → IsWithin i (before ++ here ∷ []) blocks ls new)
      → IsWithin i (before ++ here ∷ []) (open_behind l.number (Some x) blocks) ls new
  gone_on Close new k g stay = outside-body (drop 1 blocks) new (none-below blocks placed-so.none_in_body)
  gone_on x new k g stay = by_opening (opens x) refl
    where
      by_opening : (t : Bool) → opens x ≡ t
          → IsWithin i (before ++ here ∷ []) ((if t then record { number = l.number; opening = x } ∷ [] else []) ++ blocks) ls new
      by_opening true o =
          outside-body _ new (no-body x (scope_of blocks) o g (opens-outside (scope_of blocks) l.words x k o))
      by_opening false o =
          stay (ap (λ t. (if t then record { number = l.number; opening = x } ∷ [] else []) ++ blocks) o)

  pub within-gone_on : (line : Line) (old new : Open) → here.line ≡ Some line → body_name line ≡ None
      → ((name : Word) (bef beh : List Line) → IsBody i name bef (line ∷ beh) old → IsBody i name (bef ++ line ∷ []) beh new)
      → IsWithin i before blocks (l ∷ ls) old → IsWithin i (before ++ here ∷ []) (open_after here) ls new
  within-gone_on line old new e f step h =
      subst (λ o. IsWithin i (before ++ here ∷ []) (open_behind l.number o blocks) ls new) (sym e)
      (gone_on line new e f stays)
    where
      stays : open_behind l.number (Some line) blocks ≡ blocks → IsWithin i (before ++ here ∷ []) blocks ls new
      stays same name s =
          let after : open_after here ≡ blocks = ap (λ o. open_behind l.number o blocks) e ∙ same in
          let left : of_block (innermost blocks) (placed_from blocks (l ∷ ls)) ≡ line ∷ of_block (innermost blocks) (placed_from blocks ls) =
          own-line blocks l line (placed_from (open_after here) ls) e
          ∙ ap (λ bs. line ∷ of_block (innermost blocks) (placed_from bs ls)) after in
          subst (λ xs. IsBody i name xs (of_block (innermost blocks) (placed_from blocks ls)) new)
          (sym (of_block-append (innermost blocks) before (here ∷ [])
          ∙ ap (λ ys. of_block (innermost blocks) before ++ ys) (own-line blocks l line [] e)))
          (step name (of_block (innermost blocks) before) (of_block (innermost blocks) (placed_from blocks ls))
          (subst (λ ys. IsBody i name (of_block (innermost blocks) before) ys old) left (h name s)))

  -- ---- around a line

  pub around-line : (line : Line) (name : Word) (around : BodyAround) → here.line ≡ Some line
      → scope_of blocks ≡ InBody name
      → IsAround i name (of_block (innermost blocks) before) line
      (of_block (innermost blocks) (placed_from (open_after here) ls)) around
      → IsBodyAround i (standing before blocks l ls) around
  around-line line name around e s h =
      let whole : of_block (innermost blocks) (before ++ here ∷ placed_from (open_after here) ls)
      ≡ of_block (innermost blocks) before ++ line ∷ of_block (innermost blocks) (placed_from (open_after here) ls) =
      of_block-append (innermost blocks) before (here ∷ placed_from (open_after here) ls)
      ∙ ap (λ ys. of_block (innermost blocks) before ++ ys)
      (own-line blocks l line (placed_from (open_after here) ls) e) in
      let same : names_in (named i.ecalls name) (of_block (innermost blocks) before
      ++ line ∷ of_block (innermost blocks) (placed_from (open_after here) ls)) ≡ names_at i (standing before blocks l ls) =
      ap (λ f. names_in f (of_block (innermost blocks) before
      ++ line ∷ of_block (innermost blocks) (placed_from (open_after here) ls))) (ap (body_function i) (sym s))
      ∙ ap (names_in (body_function i (scope_of blocks))) (sym whole) in
      record {
        params = h.params ∙ ap (λ n. n.params) same;
        names = h.names ∙ same;
        temporaries = h.temporaries;
        room = h.room;
        behind = h.behind_it;
      }

  pub own-left : (line : Line) → here.line ≡ Some line
      → of_block (innermost blocks) (placed_from blocks (l ∷ ls))
      ≡ line ∷ of_block (innermost blocks) (placed_from (open_after here) ls)
  own-left line e = own-line blocks l line (placed_from (open_after here) ls) e
