-- A line of a script without fault, as the line that it is: what its form and the rules say of it.
use Rattle.std.proofs.Common.{◌≡◌, ◌++◌, Bool, false, List, [], ◌∷◌, Some, sym, ap, subst, ◌∙◌}
use Rattle.std.specs.Prelude.{unwrap_or}
use Rattle.std.specs.List.{AllByRecursion, cons_option}
use Rattle.edl_interface.specs.declared.Interface.{Interface}
use Rattle.call_script.specs.Spelling.{Word}
use Rattle.call_script.specs.Settings.{Setting}
use Rattle.call_script.specs.Line.{Line}
use Rattle.call_script.specs.Block.{PlacedLine, scope_at, line_in}
use Rattle.call_script.specs.Standing.{Standing, standings_from, lines_of, setting_in, setting_before, is_setting}
use Rattle.call_script.specs.Faults.{rows, is_left_open}
use Rattle.script_laws.proofs.FineLines.{IsFine, lines_of-append}
use Rattle.script_laws.proofs.Forms.{IsLine, form-is}

-- no rule finds fault with this line in its place
pub record IsFineAs (i : Interface) (racing : Bool) (script : List PlacedLine) (s : Standing) (line : Line) : Type 0
  where
    pub whole : s.before ++ s.here ∷ s.behind ≡ script
    pub words : List Word
    pub reads : line_in (scope_at s.here) words ≡ Some line
    pub form : IsLine (scope_at s.here) line
    pub rules : AllByRecursion (λ r. r.broken ≡ false) (rows i racing (is_left_open s) s line)
    pub settled : is_setting line ≡ false → (which : Setting)
        → setting_before s which ≡ setting_in (lines_of script) which

pub fine-as : (i : Interface) (racing : Bool) (script : List PlacedLine) (s : Standing) (line : Line)
    → IsFine i racing script s → s.here.line ≡ Some line → IsFineAs i racing script s line
fine-as i racing script s line fine e =
    let same : fine.line ≡ line = ap (λ o. unwrap_or o line) (sym fine.here ∙ e) in
    record {
      whole = fine.whole;
      words = fine.words;
      reads = fine.reads ∙ ap (λ y. Some y) same;
      form = form-is (scope_at s.here) fine.words line (fine.reads ∙ ap (λ y. Some y) same);
      rules = subst (λ y. AllByRecursion (λ r. r.broken ≡ false) (rows i racing (is_left_open s) s y)) same fine.rules;
      settled =
          subst (λ y. is_setting y ≡ false → (which : Setting)
          → setting_before s which ≡ setting_in (lines_of script) which) same fine.settled;
    }

-- the lines before the next one
pub pushed : (before : List PlacedLine) (l : PlacedLine) (line : Line) → l.line ≡ Some line
    → lines_of (before ++ l ∷ []) ≡ lines_of before ++ line ∷ []
pushed before l line e = lines_of-append before (l ∷ []) ∙ ap (λ o. lines_of before ++ cons_option o []) e

module _ (i : Interface) (racing : Bool) (script : List PlacedLine) where
  abbrev pub AreFine : List PlacedLine → List PlacedLine → Type 0
  AreFine before ls = AllByRecursion (IsFine i racing script) (standings_from before ls)

  -- what is so of each line that is fine
  pub along : (P : Line → Type 0) → ((s : Standing) (line : Line) → IsFineAs i racing script s line → P line)
      → (before ls : List PlacedLine) → AreFine before ls → AllByRecursion P (lines_of ls)
  along P h before [] q = tt
  along P h before (l ∷ ls) q =
      rw q.0.here (h _ q.0.line (fine-as i racing script _ q.0.line q.0 q.0.here), along P h (before ++ l ∷ []) ls q.1)
