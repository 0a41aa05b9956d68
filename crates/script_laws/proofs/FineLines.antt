-- Each line of a script without fault: what stands there, and that no rule finds fault with it.
use Rattle.std.proofs.Common.{ℕ, ◌≡◌, Bool, true, false, List, [], ◌∷◌, ◌++◌, Option, Some, None, refl, sym, ap, subst, ◌∙◌, append_assoc, append-nil}
use Rattle.std.specs.Prelude.{Ok, not, ◌||◌, filter_map, slice_get, unwrap_or}
use Rattle.std.specs.List.{list_any, AllByRecursion, cons_option}
use Rattle.std.proofs.lemmas.List.Elements.{filter_map-append}
use Rattle.std.proofs.lemmas.List.Folds.{list_any-append}
use Rattle.edl_interface.specs.declared.Interface.{Interface}
use Rattle.call_script.specs.declared.Script.{Script}
use Rattle.call_script.specs.Spelling.{Word, NumberedLine, numbered_lines}
use Rattle.call_script.specs.Parser.{or_else}
use Rattle.call_script.specs.Settings.{Setting}
use Rattle.call_script.specs.Line.{Line, Set}
use Rattle.call_script.specs.Block.{Block, PlacedLine, placed, placed_from, placed_lines, open_after, line_in, scope_at}
use Rattle.call_script.specs.Standing.{Standing, standings_from, standings, lines_of, setting_in, setting_before, set_to, is_setting}
use Rattle.call_script.specs.Faults.{Fault, rows, rows_of, fault_at, is_left_open, line_fault, stack_fault, script_fault}
use Rattle.call_script.specs.Reading.{script_of, unless_fault}
use Rattle.call_script.specs.Meaning.{script_value}
use Rattle.script_laws.proofs.FirstFault.{no_broken, or-true}

none-of : {A B : Type 0} (f : A → Option B) (xs : List A) → slice_get (filter_map f xs) 0 ≡ None
    → AllByRecursion (λ x. f x ≡ None) xs
none-of f [] e = tt
none-of f (x ∷ xs) e = go (f x) refl e (none-of f xs)
  where
    go : (o : Option _) → f x ≡ o → slice_get (cons_option o (filter_map f xs)) 0 ≡ None
        → (slice_get (filter_map f xs) 0 ≡ None → AllByRecursion (λ x. f x ≡ None) xs) → (f x ≡ None)
        × AllByRecursion (λ x. f x ≡ None) xs
    go None h e rest = (h, rest e)
    go (Some b) h e rest = absurd cc

-- a line is what its words are in its place
abbrev pub Reads : PlacedLine → Type 0
Reads l = (ws : List Word) × (line_in (scope_at l) ws ≡ l.line)

pub all-read : (around : List Block) (ls : List NumberedLine) → AllByRecursion Reads (placed_from around ls)
all-read around [] = tt
all-read around (l ∷ ls) = ((l.words, refl), all-read (open_after (placed around l)) ls)

-- a line of a script, of which no rule finds fault with it
pub record IsFine (i : Interface) (racing : Bool) (script : List PlacedLine) (s : Standing) : Type 0 where
  pub line : Line
  pub here : s.here.line ≡ Some line
  pub whole : s.before ++ s.here ∷ s.behind ≡ script
  pub words : List Word
  pub reads : line_in (scope_at s.here) words ≡ Some line
  pub rules : AllByRecursion (λ r. r.broken ≡ false) (rows i racing (is_left_open s) s line)
  -- the settings are what they are in the end
  pub settled : is_setting line ≡ false → (which : Setting)
      → setting_before s which ≡ setting_in (lines_of script) which

pub lines_of-append : (xs ys : List PlacedLine) → lines_of (xs ++ ys) ≡ lines_of xs ++ lines_of ys
lines_of-append xs ys = filter_map-append (λ l. l.line) xs ys

module _ (i : Interface) (racing : Bool) where
  abbrev HasNoFault : Standing → Type 0
  HasNoFault s = fault_at i racing s ≡ None

  broken-none : (s : Standing) (o : Option Line) → s.here.line ≡ o → HasNoFault s
      → AllByRecursion (λ r. r.broken ≡ false) (rows_of i racing (is_left_open s) s o)
  broken-none s o e h =
      subst (λ x. AllByRecursion (λ r. r.broken ≡ false) (rows_of i racing (is_left_open s) s x)) e
      (no_broken i racing (is_left_open s) s h)

  some-line : (s : Standing) (o : Option Line) → s.here.line ≡ o → HasNoFault s → (line : Line)
      × (s.here.line ≡ Some line)
  some-line s None e h = let all = broken-none s None e h in let z : true ≡ false = all.0 in absurd cc
  some-line s (Some line) e h = (line, e)

  set_to-none : (which : Setting) (line : Line) → is_setting line ≡ false → set_to which line ≡ None
  set_to-none which (Set t w) e = absurd cc
  set_to-none which line e = refl

  -- behind a line that is no setting there is none
  no-setting-behind : (which : Setting) (before ls : List PlacedLine)
      → list_any (λ line. not (is_setting line)) (lines_of before) ≡ true
      → AllByRecursion HasNoFault (standings_from before ls)
      → filter_map (set_to which) (lines_of ls) ≡ []
  no-setting-behind which before [] e h = refl
  no-setting-behind which before (l ∷ ls) e h =
      go some.0 some.1
      (no-setting-behind which (before ++ l
      ∷ []) ls (subst (λ xs. list_any (λ line. not (is_setting line)) xs ≡ true)
      (sym (lines_of-append before (l ∷ [])))
      (list_any-append (λ line. not (is_setting line)) (lines_of before) (lines_of (l ∷ []))
      ∙ ap (λ t. t || list_any (λ line. not (is_setting line)) (lines_of (l ∷ []))) e)) h.1)
    where
      s : Standing
      s = record { before = before; here = l; behind = ls }

      some : (line : Line) × (l.line ≡ Some line)
      some = some-line s l.line refl h.0

      go : (line : Line) → l.line ≡ Some line → filter_map (set_to which) (lines_of ls) ≡ []
          → filter_map (set_to which) (lines_of (l ∷ ls)) ≡ []
      go (Set t w) k rest =
          let all = broken-none s (Some (Set t w)) k h.0 in
          let late : list_any (λ line. not (is_setting line)) (lines_of before) ≡ false =
          all.1.1.1.1.1.1.1.1.1.1.1.1.1.1.1.1.1.1.0 in absurd cc
      go line k rest = rw k rest

  settled-is : (before : List PlacedLine) (l : PlacedLine) (ls : List PlacedLine) (line : Line) → l.line ≡ Some line
      → is_setting line ≡ false → AllByRecursion HasNoFault (standings_from (before ++ l ∷ []) ls)
      → (which : Setting) → setting_in (lines_of before) which ≡ setting_in (lines_of (before ++ l ∷ ls)) which
  settled-is before l ls line e n h which =
      let tested : list_any (λ x. not (is_setting x)) (lines_of (before ++ l ∷ [])) ≡ true =
      subst (λ xs. list_any (λ x. not (is_setting x)) xs ≡ true) (sym (lines_of-append before (l ∷ [])))
      (list_any-append (λ x. not (is_setting x)) (lines_of before) (lines_of (l ∷ []))
      ∙ or-true (list_any (λ x. not (is_setting x)) (lines_of before)) _ (rw e (rw n refl))) in
      let rest : filter_map (set_to which) (lines_of ls) ≡ [] = no-setting-behind which (before ++ l
      ∷ []) ls tested h in
      let none : set_to which line ≡ None = set_to-none which line n in
      let tail : filter_map (set_to which) (lines_of (l ∷ ls)) ≡ [] = rw e (rw none rest) in
      let joined : filter_map (set_to which) (lines_of (before ++ l ∷ ls))
      ≡ filter_map (set_to which) (lines_of before) =
      ap (filter_map (set_to which)) (lines_of-append before (l ∷ ls))
      ∙ filter_map-append (set_to which) (lines_of before) (lines_of (l ∷ ls))
      ∙ ap (λ xs. filter_map (set_to which) (lines_of before) ++ xs) tail
      ∙ append-nil (filter_map (set_to which) (lines_of before)) in
      ap (λ xs. unwrap_or (slice_get xs 0) which.default) (sym joined)

  fine-from : (script before ls : List PlacedLine) → before ++ ls ≡ script → AllByRecursion Reads ls
      → AllByRecursion HasNoFault (standings_from before ls)
      → AllByRecursion (IsFine i racing script) (standings_from before ls)
  fine-from script before [] w r h = tt
  fine-from script before (l ∷ ls) w r h =
      (here, fine-from script (before ++ l ∷ []) ls (append_assoc before (l ∷ []) ls ∙ w) r.1 h.1)
    where
      s : Standing
      s = record { before = before; here = l; behind = ls }

      some : (line : Line) × (l.line ≡ Some line)
      some = some-line s l.line refl h.0

      here : IsFine i racing script s
      here = record {
        line = some.0;
        here = some.1;
        whole = w;
        words = r.0.0;
        reads = r.0.1 ∙ some.1;
        rules = broken-none s (Some some.0) some.1 h.0;
        settled =
            λ n which. settled-is before l ls some.0 some.1 n h.1 which ∙ ap (λ xs. setting_in (lines_of xs) which) w;
      }

  pub fine-lines : (bytes : List ℕ) → line_fault i racing (placed_lines bytes) ≡ None
      → AllByRecursion (IsFine i racing (placed_lines bytes)) (standings (placed_lines bytes))
  unfolding placed_lines
  fine-lines bytes e =
      fine-from (placed_lines bytes) [] (placed_lines bytes) refl (all-read [] (numbered_lines bytes))
      (none-of (fault_at i racing) (standings (placed_lines bytes)) e)

-- ---- a script that was taken

none-both : {A : Type 0} (o p : Option A) → or_else o p ≡ None → (o ≡ None) × (p ≡ None)
none-both None p e = (refl, e)
none-both (Some a) p e = absurd cc

taken : (fault : Option Fault) (value s : Script) → unless_fault fault value ≡ Ok s → (fault ≡ None) × (value ≡ s)
taken None value s e = (refl, cc)
taken (Some fault) value s e = absurd cc

-- a script that was taken has no fault, and is what its lines spell
pub record IsTaken (i : Interface) (racing : Bool) (script : List PlacedLine) (s : Script) : Type 0 where
  pub lines : line_fault i racing script ≡ None
  pub stacks : stack_fault racing script ≡ None
  pub value : script_value i racing script ≡ s

pub script-taken : (i : Interface) (racing : Bool) (bytes : List ℕ) (s : Script) → script_of i racing bytes ≡ Ok s
    → IsTaken i racing (placed_lines bytes) s
unfolding script_of
script-taken i racing bytes s e =
    let t = taken (script_fault i racing (placed_lines bytes)) (script_value i racing (placed_lines bytes)) s e in
    let both = none-both (line_fault i racing (placed_lines bytes)) (stack_fault racing (placed_lines bytes)) t.0 in
    record { lines = both.0; stacks = both.1; value = t.1 }
