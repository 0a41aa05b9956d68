-- The fault of a script with its lines numbered otherwise.
use Rattle.std.proofs.Common.{ℕ, suc, ◌≡◌, ◌*◌, Bool, true, false, List, [], ◌∷◌, ◌++◌, length, Option, Some, None, refl, sym, ◌∙◌, ap}
use Rattle.std.specs.Prelude.{◌==◌, ◌||◌, cond, if◌then◌else◌, map, filter, filter_map, find, fold, count_by, option_map}
use Rattle.std.specs.List.{cons_option, list_any}
use Rattle.std.proofs.lemmas.List.{map-append}
use Rattle.edl_interface.specs.declared.Interface.{Interface}
use Rattle.call_script.specs.Parser.{or_else}
use Rattle.call_script.specs.Block.{Block, PlacedLine, home, left_open}
use Rattle.call_script.specs.Standing.{Standing, standings_from, lines_of, temporary_name, times_of, is_action}
use Rattle.call_script.specs.Faults.{Fault, Row, rows_of, fault_of, fault_at, is_left_open, stack_fault, stacks_do_not_fit, script_fault}
use Rattle.script_laws.specs.FirstFault.{first_of}
use Rattle.script_laws.proofs.FirstFault.{first_of-cons}
use Rattle.script_language.proofs.RenumberLaws.{block_other, line_other, scope-other, open-other, lines-other, home-of-other, same-test}
use Rattle.script_language.proofs.SeenLaws.{StandAlike, same-lines, same-broken}

module _ (g : ℕ → ℕ) (only : (a b : ℕ) → g a ≡ g b → a ≡ b) (outside : g 0 ≡ 0) where
  abbrev other : PlacedLine → PlacedLine
  other = line_other g only outside

  abbrev block : Block → Block
  block = block_other g only outside

  abbrev pub fault_other : Fault → Fault
  fault_other fault = record { line = g fault.line; code = fault.code }

  abbrev standing_other : Standing → Standing
  standing_other s = record { before = map other s.before; here = other s.here; behind = map other s.behind }

  -- ---- what the rules see

  near-other : (here : PlacedLine) (ps : List PlacedLine)
      → lines_of (filter (λ l. home l == home (other here)) (map other ps))
      ≡ lines_of (filter (λ l. home l == home here) ps)
  near-other here [] = refl
  near-other here (p ∷ ps) =
      (λ j. lines_of (cond (test j) (other p ∷ all) all)) ∙ go (home p == home here) (near-other here ps)
    where
      all : List PlacedLine
      all = filter (λ l. home l == home (other here)) (map other ps)

      test : (home (other p) == home (other here)) ≡ (home p == home here)
      test =
          (λ j. home-of-other g only outside p j == home-of-other g only outside here j)
          ∙ same-test g only outside (home p) (home here)

      go : (t : Bool) → lines_of all ≡ lines_of (filter (λ l. home l == home here) ps)
          → lines_of (cond t (other p ∷ all) all)
          ≡ lines_of (cond t (p ∷ filter (λ l. home l == home here) ps) (filter (λ l. home l == home here) ps))
      go true rest = ap (cons_option p.line) rest
      go false rest = rest

  depth-other : (bs : List Block) → length (map block bs) ≡ length bs
  depth-other [] = refl
  depth-other (b ∷ bs) = ap (λ n. suc n) (depth-other bs)

  openings-other : (bs : List Block) → map (λ b. b.opening) (map block bs) ≡ map (λ b. b.opening) bs
  openings-other [] = refl
  openings-other (b ∷ bs) = ap (λ ls. b.opening ∷ ls) (openings-other bs)

  repeated-other : (n : ℕ) (bs : List Block)
      → fold (λ n b. n * times_of b.opening) n (map block bs) ≡ fold (λ n b. n * times_of b.opening) n bs
  repeated-other n [] = refl
  repeated-other n (b ∷ bs) = repeated-other (n * times_of b.opening) bs

  left-other : (p : PlacedLine) (ps : List PlacedLine) → left_open (map other (p ∷ ps)) ≡ map block (left_open (p ∷ ps))
  left-other p [] = open-other g only outside p.number p.line p.blocks
  left-other p (q ∷ ps) = left-other q ps

  among-other : (n : ℕ) (bs : List Block)
      → list_any (λ b. b.number == g n) (map block bs) ≡ list_any (λ b. b.number == n) bs
  among-other n [] = refl
  among-other n (b ∷ bs) =
      let here = same-test g only outside b.number n in
      let rest = among-other n bs in
      λ j. here j || rest j

  stand-other : (s : Standing) → StandAlike (standing_other s) s
  stand-other s = record {
    line = refl;
    left = ap (list_any (λ b. b.number == g s.here.number)) (left-other s.here s.behind)
        ∙ among-other s.here.number (left_open (s.here ∷ s.behind));
    scope = scope-other g only outside s.here.blocks;
    depth = depth-other s.here.blocks;
    openings = openings-other s.here.blocks;
    repeated = repeated-other 1 s.here.blocks;
    before = same-lines _ _ (lines-other g only outside s.before);
    near = same-lines _ _ (near-other s.here s.before);
    actions = ap (count_by is_action) (near-other s.here s.behind);
    temporaries = ap (filter_map temporary_name)
        (ap (λ ps. lines_of (filter (λ l. home l == home (other s.here)) ps))
        (sym (map-append other s.before (s.here ∷ s.behind)))
        ∙ near-other s.here (s.before ++ s.here ∷ s.behind));
  }

  -- ---- the first fault

  either-other : (a b : Option Fault)
      → or_else (option_map fault_other a) (option_map fault_other b) ≡ option_map fault_other (or_else a b)
  either-other None b = refl
  either-other (Some a) b = refl

  module _ (i : Interface) (racing : Bool) where
    fault-other : (s : Standing) → fault_at i racing (standing_other s) ≡ option_map fault_other (fault_at i racing s)
    fault-other s =
        ap (option_map (fault_of (g s.here.number))) (same-broken i (standing_other s) s (stand-other s) racing)
        ∙ go (find (λ r. r.broken) (rows_of i racing (is_left_open s) s s.here.line))
      where
        go : (o : Option Row)
            → option_map (fault_of (g s.here.number)) o
            ≡ option_map fault_other (option_map (fault_of s.here.number) o)
        go None = refl
        go (Some r) = refl

    first-other : (before ls : List PlacedLine)
        → first_of (fault_at i racing) (standings_from (map other before) (map other ls))
        ≡ option_map fault_other (first_of (fault_at i racing) (standings_from before ls))
    first-other before [] = refl
    first-other before (l ∷ ls) =
        let rest =
        ap (λ b. first_of (fault_at i racing) (standings_from b (map other ls))) (sym (map-append other before (l ∷ [])))
        ∙ first-other (before ++ l ∷ []) ls in
        let first = fault-other here in
        first_of-cons (fault_at i racing) (standing_other here)
        (standings_from (map other before ++ other l ∷ []) (map other ls))
        ∙ (λ j. or_else (first j) (rest j))
        ∙ either-other (fault_at i racing here) (first_of (fault_at i racing) (standings_from (before ++ l ∷ []) ls))
        ∙ sym (ap (option_map fault_other)
        (first_of-cons (fault_at i racing) here (standings_from (before ++ l ∷ []) ls)))
      where
        here : Standing
        here = record { before = before; here = l; behind = ls }

    stack-other : (ps : List PlacedLine) → stack_fault racing (map other ps) ≡ option_map fault_other (stack_fault racing ps)
    stack-other ps =
        ap (λ ls. if stacks_do_not_fit racing ls then Some (record { line = 0; code = 17 }) else None)
        (lines-other g only outside ps)
        ∙ go (stacks_do_not_fit racing (lines_of ps))
      where
        go : (t : Bool)
            → (if t then Some (record { line = 0; code = 17 }) else None)
            ≡ option_map fault_other (if t then Some (record { line = 0; code = 17 }) else None)
        go true = ap (λ n. Some (record { line = n; code = 17 })) (sym outside)
        go false = refl

    pub script-fault-other : (ps : List PlacedLine)
        → script_fault i racing (map other ps) ≡ option_map fault_other (script_fault i racing ps)
    script-fault-other ps =
        let lines = first-other [] ps in
        let stack = stack-other ps in
        (λ j. or_else (lines j) (stack j))
        ∙ either-other (first_of (fault_at i racing) (standings_from [] ps)) (stack_fault racing ps)
