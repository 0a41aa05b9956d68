-- The first line of a setting gives it.
use Rattle.std.proofs.Common.{arith, ◌≡◌, ◌<◌, ◌^◌, ℕ, Bool, true, false, List, [], ◌∷◌, ◌++◌, Option, Some, None, refl, sym, ap, subst, ◌∙◌, append_assoc, append-nil}
use Rattle.std.specs.Prelude.{if◌then◌else◌, cond, filter_map, slice_get, unwrap_or}
use Rattle.std.specs.List.{AllByRecursion, cons_option}
use Rattle.std.proofs.lemmas.List.Sums.{take_while-cons}
use Rattle.edl_interface.specs.declared.Interface.{Interface}
use Rattle.call_script.specs.declared.Settings.{Settings}
use Rattle.call_script.specs.Settings as row
use Rattle.call_script.specs.Block.{PlacedLine, placed_lines}
use Rattle.call_script.specs.Meaning.{settings}
use Rattle.call_script.specs.Sound.{IsSetTo}
use Rattle.script_laws.proofs.FineLines.{IsFine, lines_of-append}
use Rattle.script_laws.proofs.FineForms.{pushed}
use Rattle.script_value.specs.Left.{formed_lines}
use Rattle.script_value.specs.Initial.{front, AreInFront}
use Rattle.call_script.specs.Line.{Line, Set}
use Rattle.call_script.specs.Standing.{standings, standings_from, lines_of, is_setting, set_to, setting_in}

-- a line that gives a setting is one of settings
gives-setting : (s : row.Setting) (line : Line) (n : ℕ) → set_to s line ≡ Some n → is_setting line ≡ true
gives-setting s (Set t w) n e = refl
gives-setting s line n e = absurd cc

kept-in-front : (line : Line) (rest : List Line) → is_setting line ≡ true → front (line ∷ rest) ≡ line ∷ front rest
kept-in-front line rest t = take_while-cons is_setting line rest ∙ ap (λ x. cond x (line ∷ front rest) []) t

-- what the first of lines gives, by what it gives itself
number-by : (s : row.Setting) (line : Line) (rest : List Line) → is_setting line ≡ true → (o : Option ℕ)
    → set_to s line ≡ o
    → setting_in (front (line ∷ rest)) s
    ≡ unwrap_or (slice_get (cons_option o (filter_map (set_to s) (front rest))) 0) s.default
number-by s line rest t o f =
    ap (λ ls. setting_in ls s) (kept-in-front line rest t)
    ∙ ap (λ x. unwrap_or (slice_get (cons_option x (filter_map (set_to s) (front rest))) 0) s.default) f

module _ (s : row.Setting) (lines : List Line) where
  pub not_given : lines ≡ [] → s.default ≡ setting_in (front lines) s
  not_given e = rw e refl

  module _ (line : Line) (rest : List Line) (first : lines ≡ line ∷ rest) where
    pub behind_front : is_setting line ≡ false → s.default ≡ setting_in (front lines) s
    behind_front e = rw (first, e) refl

    pub passed : is_setting line ≡ true → None ≡ set_to s line
        → setting_in (front rest) s ≡ setting_in (front lines) s
    passed t e = go (set_to s line) refl e
      where
        go : (o : Option ℕ) → set_to s line ≡ o → None ≡ o → setting_in (front rest) s ≡ setting_in (front lines) s
        go None f e = sym (ap (λ ls. setting_in (front ls) s) first ∙ number-by s line rest t None f)
        go (Some n) f e = absurd cc

    pub found : (n : ℕ) → Some n ≡ set_to s line → n ≡ setting_in (front lines) s
    found n e = go (set_to s line) refl e
      where
        go : (o : Option ℕ) → set_to s line ≡ o → Some n ≡ o → n ≡ setting_in (front lines) s
        go None f e = absurd cc
        go (Some m) f e =
            let same : n ≡ m = cc in
            same
            ∙ sym (ap (λ ls. setting_in (front ls) s) first
            ∙ number-by s line rest (gives-setting s line m f) (Some m) f)

-- ---- a script without a fault

-- lines that are settings alone
abbrev AreSet : List Line → Type 0
AreSet lines = AllByRecursion (λ line. is_setting line ≡ true) lines

front-all : (before ls : List Line) → AreSet before → front (before ++ ls) ≡ before ++ front ls
front-all [] ls h = refl
front-all (line ∷ before) ls h =
    kept-in-front line (before ++ ls) h.0 ∙ ap (λ xs. line ∷ xs) (front-all before ls h.1)

set-more : (before : List Line) (line : Line) → AreSet before → is_setting line ≡ true → AreSet (before ++ line ∷ [])
set-more [] line h e = (e, tt)
set-more (x ∷ before) line h e = (h.0, set-more before line h.1 e)

module _ (i : Interface) (racing : Bool) (script : List PlacedLine) where
  in-front : (before ls : List PlacedLine) → before ++ ls ≡ script → AreSet (lines_of before)
      → AllByRecursion (IsFine i racing script) (standings_from before ls) → AreInFront (lines_of script)
  in-front before [] w h fine = λ s.
      let whole : lines_of script ≡ lines_of before = ap lines_of (sym w ∙ append-nil before) in
      let all : front (lines_of script) ≡ lines_of script =
      ap front (whole ∙ sym (append-nil (lines_of before))) ∙ front-all (lines_of before) [] h
      ∙ append-nil (lines_of before) ∙ sym whole in
      ap (λ xs. setting_in xs s) all
  in-front before (l ∷ ls) w h fine =
      go (is_setting fine.0.line) refl
      (λ more. in-front (before ++ l ∷ []) ls (append_assoc before (l ∷ []) ls ∙ w) more fine.1)
    where
      here : lines_of (before ++ l ∷ ls) ≡ lines_of before ++ fine.0.line ∷ lines_of ls
      here = lines_of-append before (l ∷ ls) ∙ ap (λ o. lines_of before ++ cons_option o (lines_of ls)) fine.0.here

      go : (t : Bool) → is_setting fine.0.line ≡ t
          → (AreSet (lines_of (before ++ l ∷ [])) → AreInFront (lines_of script)) → AreInFront (lines_of script)
      go true e follow =
          follow
          (subst AreSet (sym (pushed before l fine.0.line fine.0.here)) (set-more (lines_of before) fine.0.line h e))
      go false e follow = λ s.
          let whole : lines_of script ≡ lines_of before ++ fine.0.line ∷ lines_of ls = ap lines_of (sym w) ∙ here in
          let stop : front (fine.0.line ∷ lines_of ls) ≡ [] = rw e refl in
          let all : front (lines_of script) ≡ lines_of before =
          ap front whole ∙ front-all (lines_of before) (fine.0.line ∷ lines_of ls) h
          ∙ ap (λ xs. lines_of before ++ xs) stop ∙ append-nil (lines_of before) in
          ap (λ xs. setting_in xs s) all ∙ fine.0.settled e s

  pub settings_first : AllByRecursion (IsFine i racing script) (standings script) → AreInFront (lines_of script)
  settings_first fine = in-front [] script refl tt fine

-- ---- all settings

pub fits_in : (s : row.Setting) (m : ℕ) → IsSetTo s m → s.most < 2 ^ 32 → (n : ℕ) → n ≡ m → n < 2 ^ 32
fits_in s m h l n e = omega (arith, h.upto)

module _ (i : Interface) (racing : Bool) (bytes : List ℕ) where
  abbrev Is : ℕ → row.Setting → Type 0
  Is n s = n ≡ setting_in (formed_lines bytes) s

  abbrev AreWorkers : ℕ → row.Setting → Type 0
  AreWorkers n s = n ≡ (if racing then setting_in (formed_lines bytes) s else 0)

  pub are_settings : (host stack arena cells retries trusted untrusted slots : ℕ) → Is host row.host → Is stack row.stack
      → Is arena row.arena → Is cells row.cells → Is retries row.retries → AreWorkers trusted row.tworkers
      → AreWorkers untrusted row.uworkers → Is slots row.slots
      → ◌≡◌ {A = Settings} (record {
        host = host;
        stack = stack;
        arena = arena;
        cells = cells;
        retries = retries;
        tworkers = trusted;
        uworkers = untrusted;
        slots = slots;
      }) (settings i racing (placed_lines bytes))
  unfolding formed_lines
  are_settings a b c d e f g h ea eb ec ed ee ef eg eh = rw (ea, eb, ec, ed, ee, ef, eg, eh) refl
