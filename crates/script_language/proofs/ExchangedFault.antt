-- The fault of a script with two settings, one behind the other.
use Rattle.std.proofs.Common.{ℕ, ◌≡◌, ◌+◌, ◌*◌, Bool, true, false, List, [], ◌∷◌, ◌++◌, Option, Some, None, refl, sym, ◌∙◌, ap, append_assoc}
use Rattle.std.specs.Prelude.{not, ◌||◌, cond, nat_lt, filter, filter_map, find, is_some, option_map, count_by, if◌then◌else◌}
use Rattle.std.specs.List.{list_any}
use Rattle.std.specs.Str.{bytes_eq}
use Rattle.std.proofs.lemmas.List.Folds.{list_any-append}
use Rattle.std.proofs.lemmas.List.Sums.{sum_by-cons}
use Rattle.sgx_base.specs.Numbers.{spelled_number}
use Rattle.edl_interface.specs.declared.Interface.{Interface}
use Rattle.call_script.specs.Spelling.{Word}
use Rattle.call_script.specs.Parser.{or_else}
use Rattle.call_script.specs.Settings.{Setting, is_value_of, host, stack, tworkers}
use Rattle.call_script.specs.Line.{Line, Set, Thread}
use Rattle.call_script.specs.Block.{Block, PlacedLine, left_open}
use Rattle.call_script.specs.Standing.{Standing, standings_from, lines_of, lines_before, is_setting, is_thread, is_action, set_to, temporary_name}
use Rattle.call_script.specs.Faults.{Fault, Row, row, rows_of, fault_of, fault_at, stack_fault}
use Rattle.script_laws.specs.FirstFault.{first_of}
use Rattle.script_laws.proofs.FirstFault.{first_of-cons}
use Rattle.script_language.proofs.SeenLaws.{AreAlike}
use Rattle.script_language.proofs.FirstLines.{RestAlike}
use Rattle.script_language.proofs.ExchangedLines.{setting_at, lines-append}

-- ---- the fault of a setting

-- the first rule that a setting breaks behind these lines
abbrev pub setting_row : List Line → Setting → Word → Option Row
setting_row ls s w =
    find (λ r. r.broken) (row 2 (not (is_value_of s w)) ∷ row 3 (list_any (λ line. is_some (set_to s line)) ls)
    ∷ row 20 (list_any (λ line. not (is_setting line)) ls) ∷ [])

setting-broken : (i : Interface) (racing left : Bool) (s : Standing) (which : Setting) (w : Word)
    → find (λ r. r.broken) (rows_of i racing left s (Some (Set which w))) ≡ setting_row (lines_before s) which w
setting-broken i racing left s which w = refl

or-false : (a : Bool) → (a || false) ≡ a
or-false true = refl
or-false false = refl

-- a setting before it changes nothing, but for the same setting
setting-blind : (ls : List Line) (f g : Setting) (v w : Word) → bytes_eq g.word f.word ≡ false
    → setting_row (ls ++ Set f v ∷ []) g w ≡ setting_row ls g w
setting-blind ls f g v w differ =
    let given : list_any (λ line. is_some (set_to g line)) (ls ++ Set f v ∷ []) ≡ list_any (λ line. is_some (set_to g line)) ls =
    list_any-append (λ line. is_some (set_to g line)) ls (Set f v ∷ [])
    ∙ ap (λ t. list_any (λ line. is_some (set_to g line)) ls || (is_some (if t then spelled_number v else None) || false)) differ
    ∙ or-false (list_any (λ line. is_some (set_to g line)) ls) in
    let others : list_any (λ line. not (is_setting line)) (ls ++ Set f v ∷ []) ≡ list_any (λ line. not (is_setting line)) ls =
    list_any-append (λ line. not (is_setting line)) ls (Set f v ∷ [])
    ∙ or-false (list_any (λ line. not (is_setting line)) ls) in
    λ j. find (λ r. r.broken) (row 2 (not (is_value_of g w)) ∷ row 3 (given j) ∷ row 20 (others j) ∷ [])

-- ---- what a setting is to the lines before it

actions-silent : (t : Bool) (n : ℕ) (around : List Block) (s : Setting) (w : Word) (ps : List PlacedLine)
    → count_by is_action (lines_of (cond t (setting_at n around s w ∷ ps) ps)) ≡ count_by is_action (lines_of ps)
actions-silent true n around s w ps = refl
actions-silent false n around s w ps = refl

temporaries-silent : (t : Bool) (n : ℕ) (around : List Block) (s : Setting) (w : Word) (ps : List PlacedLine)
    → filter_map temporary_name (lines_of (cond t (setting_at n around s w ∷ ps) ps))
    ≡ filter_map temporary_name (lines_of ps)
temporaries-silent true n around s w ps = refl
temporaries-silent false n around s w ps = refl

module _ (around : List Block) (f g : Setting) (v w : Word) (n m : ℕ) (behind : List PlacedLine) where
  -- one for another
  pub one-alike : RestAlike (setting_at n around f v ∷ behind) (setting_at m around g w ∷ behind)
  one-alike = record {
    ends = λ p. go behind;
    actions = λ test.
        actions-silent (test (setting_at n around f v)) n around f v (filter test behind)
        ∙ sym (actions-silent (test (setting_at m around g w)) m around g w (filter test behind));
    temporaries = λ test.
        temporaries-silent (test (setting_at n around f v)) n around f v (filter test behind)
        ∙ sym (temporaries-silent (test (setting_at m around g w)) m around g w (filter test behind));
  }
    where
      go : (ps : List PlacedLine) → left_open (setting_at n around f v ∷ ps) ≡ left_open (setting_at m around g w ∷ ps)
      go [] = refl
      go (p ∷ ps) = refl

  -- two for the second
  pub two-alike : RestAlike (setting_at n around f v ∷ setting_at m around g w ∷ behind) (setting_at m around g w ∷ behind)
  two-alike = record {
    ends = λ p. refl;
    actions = λ test.
        actions-silent (test (setting_at n around f v)) n around f v (filter test (setting_at m around g w ∷ behind));
    temporaries = λ test.
        temporaries-silent (test (setting_at n around f v)) n around f v (filter test (setting_at m around g w ∷ behind));
  }

-- ---- the whole

pub stack-alike : (racing : Bool) (xs ys : List PlacedLine) → AreAlike (lines_of xs) (lines_of ys)
    → stack_fault racing xs ≡ stack_fault racing ys
stack-alike racing xs ys h =
    let memory = h.numbers host in
    let size = h.numbers stack in
    let workers = h.numbers tworkers in
    let threads =
    sum_by-cons (λ line. cond (is_thread line) 1 0) Thread (lines_of xs)
    ∙ ap (λ n. 1 + n) (h.sums (λ line. cond (is_thread line) 1 0) (λ s w. refl))
    ∙ sym (sum_by-cons (λ line. cond (is_thread line) 1 0) Thread (lines_of ys)) in
    λ j. if nat_lt (memory j) ((threads j + (if racing then workers j else 0)) * size j)
    then Some (record { line = 0; code = 17 }) else None

pub or-moved : (a b c d e : Option Fault)
    → or_else (or_else a (or_else b (or_else c d))) e ≡ or_else a (or_else b (or_else c (or_else d e)))
or-moved None None None d e = refl
or-moved None None (Some r) d e = refl
or-moved None (Some r) c d e = refl
or-moved (Some r) b c d e = refl

pub or-moved-one : (a b d e : Option Fault)
    → or_else (or_else a (or_else b d)) e ≡ or_else a (or_else b (or_else d e))
or-moved-one None None d e = refl
or-moved-one None (Some r) d e = refl
or-moved-one (Some r) b d e = refl

module _ (i : Interface) (racing : Bool) (before : List PlacedLine) (around : List Block) (n : ℕ) where
  abbrev fault : Standing → Option Fault
  fault = fault_at i racing

  -- the fault of one setting, and what is found behind it
  pub one-setting : (f : Setting) (v : Word) (behind : List PlacedLine)
      → first_of fault (standings_from before (setting_at n around f v ∷ behind))
      ≡ or_else (option_map (fault_of n) (setting_row (lines_of before) f v))
      (first_of fault (standings_from (before ++ setting_at n around f v ∷ []) behind))
  one-setting f v behind =
      first_of-cons fault (record { before = before; here = setting_at n around f v; behind = behind })
      (standings_from (before ++ setting_at n around f v ∷ []) behind)

  pub two-settings : (f g : Setting) (v w : Word) (behind : List PlacedLine) → bytes_eq g.word f.word ≡ false
      → first_of fault (standings_from before (setting_at n around f v ∷ setting_at (n + 1) around g w ∷ behind))
      ≡ or_else (option_map (fault_of n) (setting_row (lines_of before) f v))
      (or_else (option_map (fault_of (n + 1)) (setting_row (lines_of before) g w))
      (first_of fault (standings_from (before ++ setting_at n around f v ∷ setting_at (n + 1) around g w ∷ []) behind)))
  two-settings f g v w behind differ =
      one-setting f v (setting_at (n + 1) around g w ∷ behind)
      ∙ ap (or_else (option_map (fault_of n) (setting_row (lines_of before) f v)))
      (first_of-cons fault (record { before = done; here = setting_at (n + 1) around g w; behind = behind })
      (standings_from (done ++ setting_at (n + 1) around g w ∷ []) behind)
      ∙ (λ j. or_else (option_map (fault_of (n + 1)) (own j)) (first_of fault (standings_from (joined j) behind))))
    where
      done : List PlacedLine
      done = before ++ setting_at n around f v ∷ []

      own : setting_row (lines_of done) g w ≡ setting_row (lines_of before) g w
      own =
          ap (λ ls. setting_row ls g w) (lines-append before (setting_at n around f v ∷ []))
          ∙ setting-blind (lines_of before) f g v w differ

      joined : done ++ setting_at (n + 1) around g w ∷ []
          ≡ before ++ setting_at n around f v ∷ setting_at (n + 1) around g w ∷ []
      joined = append_assoc before (setting_at n around f v ∷ []) (setting_at (n + 1) around g w ∷ [])
