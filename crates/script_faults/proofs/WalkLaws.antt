-- What is known behind a line without fault.
use Rattle.std.proofs.Common.{arith, ℕ, ◌≡◌, ◌+◌, ◌≤◌, Bool, true, false, List, [], ◌∷◌, ◌++◌, Option, Some, None, refl, sym, ◌∙◌, ap, subst, append_assoc, append-nil}
use Rattle.std.specs.Prelude.{◌&&◌, if◌then◌else◌, nat_le, cond, count_by, find, option_map}
use Rattle.std.specs.List.{AllByRecursion, cons_option}
use Rattle.std.proofs.lemmas.Bool.{leb-false}
use Rattle.edl_interface.specs.declared.Interface.{Interface}
use Rattle.call_script.specs.Spelling.{Word, NumberedLine, numbered_lines}
use Rattle.call_script.specs.Parser.{or_else}
use Rattle.call_script.specs.Line.{Line, Body, Thread}
use Rattle.call_script.specs.Block.{PlacedLine, placed, placed_from, placed_lines, open_after, open_behind}
use Rattle.call_script.specs.Block as block
use Rattle.call_script.specs.Standing.{Standing, lines_of, is_action, is_thread, body_name, standings, standings_from}
use Rattle.call_script.specs.Faults.{Row, rows, rows_of, fault_of, is_one_too_many, max_threads, line_fault, script_fault, stack_fault, stacks_do_not_fit}
use Rattle.script_laws.specs.FirstFault.{first_of, fault_with}
use Rattle.script_laws.specs.FirstFault as laws
use Rattle.script_laws.proofs.FirstFault.{first_of-cons, line_fault-is, no_broken}
use Rattle.script_laws.proofs.FineLines.{lines_of-append}
use Rattle.script_laws.proofs.LimitLaws.{within-limits}
use Rattle.script_lines.specs.Nesting.{open_blocks}
use Rattle.script_lines.specs.Nesting as nesting
use Rattle.script_faults.specs.declared.walk.SoFar.{SoFar}
use Rattle.script_faults.specs.Before.{IsBefore}
use Rattle.script_faults.specs.declared.codes.BodyAround.{BodyAround}
use Rattle.script_faults.specs.Bodies.{IsBody, IsAround, lines_of_body}
use Rattle.script_faults.specs.Codes.{first_code, IsBodyAround}
use Rattle.script_faults.specs.Walk.{innermost, of_block, ArePlaced, IsWithin, IsSoFar, IsPast, IsTurn, standing, coded}
use Rattle.script_faults.proofs.ScopeLaws.{action-in_body}
use Rattle.script_faults.proofs.PlaceLaws.{placed-behind, placed-first}
use Rattle.script_faults.proofs.BodyLaws.{within-opened, within-gone_on, around-line, own-left}
use Rattle.script_faults.proofs.RoomLaws.{count-behind}

-- ---- threads

threads-few : (line : Line) (xs : List Line) → count_by is_thread (Thread ∷ xs) ≤ 8
    → (is_thread line && nat_le 8 (count_by is_thread (Thread ∷ xs))) ≡ false
    → count_by is_thread (Thread ∷ (xs ++ line ∷ [])) ≤ 8
threads-few line xs h e = go (is_thread line) refl (count-behind is_thread (Thread ∷ xs) line)
  where
    go : (t : Bool) → is_thread line ≡ t
        → count_by is_thread (Thread ∷ (xs ++ line ∷ [])) ≡ count_by is_thread (Thread ∷ xs) + cond (is_thread line) 1 0
        → count_by is_thread (Thread ∷ (xs ++ line ∷ [])) ≤ 8
    go true k c =
        let d = rw k at c in let f = rw k at e in
        let less = leb-false 8 (count_by is_thread (Thread ∷ xs)) f in omega arith
    go false k c = let d = rw k at c in omega arith

-- ---- one line later

lines-more : (before : List PlacedLine) (l : PlacedLine) (line : Line) → l.line ≡ Some line
    → lines_of (before ++ l ∷ []) ≡ lines_of before ++ line ∷ []
lines-more before l line e =
    lines_of-append before (l ∷ []) ∙ ap (λ o. lines_of before ++ cons_option o []) e

module _ (i : Interface) (before : List PlacedLine) (l : NumberedLine) (ls : List NumberedLine) (old new : SoFar) where
  abbrev here : PlacedLine
  here = placed (open_blocks old.blocks) l

  within-behind : (line : Line) → here.line ≡ Some line → ArePlaced before (open_blocks old.blocks) (l ∷ ls)
      → ((name : Word) → line ≡ Body name → IsBody i name [] (lines_of_body name ls) new.body)
      → ((name : Word) (bef beh : List Line) → body_name line ≡ None → IsBody i name bef (line ∷ beh) old.body
      → IsBody i name (bef ++ line ∷ []) beh new.body)
      → IsWithin i before (open_blocks old.blocks) (l ∷ ls) old.body
      → IsWithin i (before ++ here ∷ []) (open_after here) ls new.body
  within-behind (Body name) e p opens goes w =
      within-opened i before (open_blocks old.blocks) l ls p name new.body e (opens name refl)
  within-behind line e p opens goes w =
      within-gone_on i before (open_blocks old.blocks) l ls p line old.body new.body e refl
      (λ name bef beh h. goes name bef beh refl h) w

  pub past : (line : Line) → here.line ≡ Some line
      → open_blocks new.blocks ≡ open_behind l.number (Some line) (open_blocks old.blocks)
      → IsSoFar i before (l ∷ ls) old
      → IsBefore (lines_of before ++ line ∷ []) new.before
      → ((name : Word) → line ≡ Body name → IsBody i name [] (lines_of_body name ls) new.body)
      → ((name : Word) (bef beh : List Line) → body_name line ≡ None → IsBody i name bef (line ∷ beh) old.body
      → IsBody i name (bef ++ line ∷ []) beh new.body)
      → is_one_too_many (standing before (open_blocks old.blocks) l ls) line ≡ false → IsPast i before l ls old new
  past line e blocks h summary opens goes limits =
      let same : open_blocks new.blocks ≡ open_after here = blocks
      ∙ ap (λ o. open_behind l.number o (open_blocks old.blocks)) (sym e) in
      let more : lines_of (before ++ here ∷ []) ≡ lines_of before ++ line ∷ [] = lines-more before here line e in
      record {
        so_far = record {
          place =
              subst (λ bs. ArePlaced (before ++ here ∷ []) bs ls) (sym same)
              (placed-behind before (open_blocks old.blocks) l ls h.place);
          summary = subst (λ xs. IsBefore xs new.before) (sym more) summary;
          within =
              subst (λ bs. IsWithin i (before ++ here ∷ []) bs ls new.body) (sym same)
              (within-behind line e h.place opens goes h.within);
          few_threads =
              subst (λ xs. count_by is_thread (Thread ∷ xs) ≤ max_threads) (sym more)
              (threads-few line (lines_of before) h.few_threads
              (within-limits (standing before (open_blocks old.blocks) l ls) line limits).threads);
        };
        blocks = same;
      }

-- before the first line
pub so-far-first : (i : Interface) (bytes : List ℕ) (s : SoFar) → open_blocks s.blocks ≡ [] → IsBefore [] s.before
    → IsSoFar i [] (numbered_lines bytes) s
so-far-first i bytes s e h = record {
  place = subst (λ bs. ArePlaced [] bs (numbered_lines bytes)) (sym e) (placed-first bytes);
  summary = h;
  within = λ name k. let outside : block.Outside ≡ block.InBody name = ap block.scope_of (sym e) ∙ k in absurd cc;
  few_threads = omega arith;
}

-- the body around an action
pub within-action : (i : Interface) (before : List PlacedLine) (l : NumberedLine) (ls : List NumberedLine) (s : SoFar)
    (line : Line) (around : BodyAround) → IsSoFar i before (l ∷ ls) s
    → block.line_in (block.scope_of (open_blocks s.blocks)) l.words ≡ Some line
    → ((name : Word) (bef beh : List Line) → is_action line ≡ true → IsBody i name bef (line ∷ beh) s.body
    → IsAround i name bef line beh around)
    → is_action line ≡ true → IsBodyAround i (standing before (open_blocks s.blocks) l ls) around
within-action i before l ls s line around h e body a =
    let blocks = open_blocks s.blocks in
    let inside = action-in_body (block.scope_of blocks) l.words line e a in
    around-line i before blocks l ls h.place line inside.0 around e inside.1
    (body inside.0 (of_block (innermost blocks) before)
    (of_block (innermost blocks) (placed_from (open_after (placed blocks l)) ls)) a
    (subst (λ ys. IsBody i inside.0 (of_block (innermost blocks) before) ys s.body)
    (own-left i before blocks l ls h.place line e) (h.within inside.0 inside.1)))

-- ---- the code of a line

pub coded-first : (n : ℕ) (rs : List Row)
    → option_map (coded n) (first_code rs) ≡ option_map (fault_of n) (find (λ r. r.broken) rs)
coded-first n rs = go (find (λ r. r.broken) rs)
  where
    go : (o : Option Row) → option_map (coded n) (option_map (λ r. r.code) o) ≡ option_map (fault_of n) o
    go None = refl
    go (Some r) = refl

module _ (i : Interface) (racing : Bool) (left : Option ℕ) (s : Standing) where
  -- what has no form has the first code
  pub told-none : s.here.line ≡ None → Some (coded s.here.number 1) ≡ fault_with i racing left s
  told-none e =
      ap (λ o. option_map (fault_of s.here.number)
      (find (λ r. r.broken) (rows_of i racing (laws.is_outermost left s.here.number) s o))) (sym e)

  pub told-some : (line : Line) (code : Option ℕ) → s.here.line ≡ Some line
      → code ≡ first_code (rows i racing (laws.is_outermost left s.here.number) s line)
      → option_map (coded s.here.number) code ≡ fault_with i racing left s
  told-some line code e f =
      ap (option_map (coded s.here.number)) f
      ∙ coded-first s.here.number (rows i racing (laws.is_outermost left s.here.number) s line)
      ∙ ap (λ o. option_map (fault_of s.here.number)
      (find (λ r. r.broken) (rows_of i racing (laws.is_outermost left s.here.number) s o))) (sym e)

  -- a line without fault passes no limit
  pub no-limit : (line : Line) (code : Option ℕ) → s.here.line ≡ Some line
      → option_map (coded s.here.number) code ≡ fault_with i racing left s → code ≡ None
      → is_one_too_many s line ≡ false
  no-limit line code e f k =
      let none : fault_with i racing left s ≡ None = sym f ∙ ap (option_map (coded s.here.number)) k in
      let all : AllByRecursion (λ r. r.broken ≡ false) (rows_of i racing (laws.is_outermost left s.here.number) s (Some line)) =
      subst (λ o. AllByRecursion (λ r. r.broken ≡ false) (rows_of i racing (laws.is_outermost left s.here.number) s o)) e
      (no_broken i racing (laws.is_outermost left s.here.number) s none) in
      all.1.1.1.1.1.1.1.1.1.1.1.1.1.1.1.0

module _ (i : Interface) (racing : Bool) (left : Option ℕ) (before : List PlacedLine) (l : NumberedLine)
    (ls : List NumberedLine) (old new : SoFar) where
  pub turn-none : block.line_in (block.scope_of (open_blocks old.blocks)) l.words ≡ None
      → IsTurn i racing left before l ls old new (Some 1)
  turn-none e = record {
    told = told-none i racing left (standing before (open_blocks old.blocks) l ls) e;
    past = λ k. absurd cc;
  }

  pub turn-some : (line : Line) (code : Option ℕ)
      → block.line_in (block.scope_of (open_blocks old.blocks)) l.words ≡ Some line
      → code ≡ first_code (rows i racing (laws.is_outermost left l.number) (standing before (open_blocks old.blocks) l ls) line)
      → (code ≡ None → is_one_too_many (standing before (open_blocks old.blocks) l ls) line ≡ false
      → IsPast i before l ls old new)
      → IsTurn i racing left before l ls old new code
  turn-some line code e f go =
      let told = told-some i racing left (standing before (open_blocks old.blocks) l ls) line code e f in
      record {
        told = told;
        past = λ k. go k (no-limit i racing left (standing before (open_blocks old.blocks) l ls) line code e told k);
      }

-- ---- the first fault of a whole script

-- so far no line has a fault
pub record IsReached (i : Interface) (racing : Bool) (left : Option ℕ) (bytes : List ℕ) (s : SoFar) (ls : List NumberedLine)
    : Type 0 where
  pub before : List PlacedLine
  pub so_far : IsSoFar i before ls s
  pub whole : before ++ placed_from (open_blocks s.blocks) ls ≡ placed_lines bytes
  pub first : line_fault i racing (placed_lines bytes)
      ≡ first_of (fault_with i racing left) (standings_from before (placed_from (open_blocks s.blocks) ls))

module _ (i : Interface) (racing : Bool) (left : Option ℕ) (bytes : List ℕ) where
  pub reached-first : (s : SoFar) → left ≡ nesting.outermost (block.left_open (placed_lines bytes))
      → open_blocks s.blocks ≡ [] → IsSoFar i [] (numbered_lines bytes) s
      → IsReached i racing left bytes s (numbered_lines bytes)
  unfolding placed_lines
  reached-first s e blocks h = record {
    before = [];
    so_far = h;
    whole = ap (λ bs. placed_from bs (numbered_lines bytes)) blocks;
    first =
        line_fault-is i racing bytes
        ∙ ap (λ o. first_of (fault_with i racing o) (standings (placed_lines bytes)))
        (sym e)
        ∙ ap (λ bs. first_of (fault_with i racing left) (standings_from [] (placed_from bs (numbered_lines bytes))))
        (sym blocks);
  }

  module _ (l : NumberedLine) (ls all : List NumberedLine) (old new : SoFar) (code : Option ℕ) (next : all ≡ l ∷ ls)
      (h : IsReached i racing left bytes old all)
      (turn : IsTurn i racing left h.before l ls old new code) where
    first-is : line_fault i racing (placed_lines bytes)
        ≡ or_else (option_map (coded l.number) code) (first_of (fault_with i racing left)
        (standings_from (h.before ++ placed (open_blocks old.blocks) l ∷ [])
        (placed_from (open_after (placed (open_blocks old.blocks) l)) ls)))
    first-is =
        h.first
        ∙ ap (λ ks. first_of (fault_with i racing left) (standings_from h.before (placed_from (open_blocks old.blocks) ks))) next
        ∙ first_of-cons (fault_with i racing left) (standing h.before (open_blocks old.blocks) l ls)
        (standings_from (h.before ++ placed (open_blocks old.blocks) l ∷ [])
        (placed_from (open_after (placed (open_blocks old.blocks) l)) ls))
        ∙ ap (λ o. or_else o (first_of (fault_with i racing left)
        (standings_from (h.before ++ placed (open_blocks old.blocks) l ∷ [])
        (placed_from (open_after (placed (open_blocks old.blocks) l)) ls)))) (sym turn.told)

    pub found-fault : (c : ℕ) → code ≡ Some c → Some (coded l.number c) ≡ script_fault i racing (placed_lines bytes)
    found-fault c e =
        sym (ap (λ o. or_else o (stack_fault racing (placed_lines bytes)))
        (first-is ∙ ap (λ o. or_else (option_map (coded l.number) o) (first_of (fault_with i racing left)
        (standings_from (h.before ++ placed (open_blocks old.blocks) l ∷ [])
        (placed_from (open_after (placed (open_blocks old.blocks) l)) ls)))) e))

    pub reached-next : code ≡ None → IsReached i racing left bytes new ls
    reached-next e =
        let past = turn.past e in
        record {
          before = h.before ++ placed (open_blocks old.blocks) l ∷ [];
          so_far = past.so_far;
          whole =
              append_assoc h.before (placed (open_blocks old.blocks) l ∷ []) (placed_from (open_blocks new.blocks) ls)
              ∙ ap (λ bs. h.before ++ placed (open_blocks old.blocks) l ∷ placed_from bs ls) past.blocks
              ∙ ap (λ ks. h.before ++ placed_from (open_blocks old.blocks) ks) (sym next)
              ∙ h.whole;
          first =
              first-is
              ∙ ap (λ o. or_else (option_map (coded l.number) o) (first_of (fault_with i racing left)
              (standings_from (h.before ++ placed (open_blocks old.blocks) l ∷ [])
              (placed_from (open_after (placed (open_blocks old.blocks) l)) ls)))) e
              ∙ ap (λ bs. first_of (fault_with i racing left)
              (standings_from (h.before ++ placed (open_blocks old.blocks) l ∷ []) (placed_from bs ls))) (sym past.blocks);
        }

  pub reached-end : (s : SoFar) (all : List NumberedLine) (h : IsReached i racing left bytes s all) → all ≡ []
      → script_fault i racing (placed_lines bytes)
      ≡ (if stacks_do_not_fit racing (lines_of h.before) then Some (coded 0 17) else None)
  reached-end s all h e =
      let none : line_fault i racing (placed_lines bytes) ≡ None =
      h.first ∙ ap (λ ks. first_of (fault_with i racing left) (standings_from h.before (placed_from (open_blocks s.blocks) ks))) e in
      let whole : h.before ≡ placed_lines bytes =
      sym (append-nil h.before) ∙ ap (λ ks. h.before ++ placed_from (open_blocks s.blocks) ks) (sym e) ∙ h.whole in
      ap (λ o. or_else o (stack_fault racing (placed_lines bytes))) none
      ∙ ap (stack_fault racing) (sym whole)
