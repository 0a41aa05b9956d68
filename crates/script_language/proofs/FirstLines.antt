-- The first fault of a script, among its first lines or else among the rest.
use Rattle.std.proofs.Common.{ℕ, ◌≡◌, ◌+◌, Bool, true, false, List, [], ◌∷◌, ◌++◌, Option, Some, None, refl, sym, ◌∙◌, ap, subst, append_assoc, append-nil}
use Rattle.std.specs.Prelude.{◌==◌, cond, filter, filter_map, find, option_map, count_by}
use Rattle.std.specs.List.{cons_option, list_any}
use Rattle.std.proofs.lemmas.List.Sums.{sum_by-cons}
use Rattle.edl_interface.specs.declared.Interface.{Interface}
use Rattle.call_script.specs.Parser.{or_else}
use Rattle.call_script.specs.Line.{Line}
use Rattle.call_script.specs.Block.{PlacedLine, home, left_open}
use Rattle.call_script.specs.Standing.{Standing, standings_from, lines_of, temporary_name, is_action}
use Rattle.call_script.specs.Faults.{Fault, rows_of, fault_of, fault_at, is_left_open}
use Rattle.script_laws.specs.FirstFault.{first_of}
use Rattle.script_laws.proofs.FirstFault.{first_of-cons}
use Rattle.script_language.proofs.LineLaws.{fault-number}
use Rattle.script_language.proofs.SeenLaws.{StandAlike, same-lines, same-broken}

-- no rule of a line before them tells the one rest of a script from the other
pub record RestAlike (xs ys : List PlacedLine) : Type 0 where
  pub ends : (p : PlacedLine) → left_open (p ∷ xs) ≡ left_open (p ∷ ys)
  pub actions : (test : PlacedLine → Bool)
      → count_by is_action (lines_of (filter test xs)) ≡ count_by is_action (lines_of (filter test ys))
  pub temporaries : (test : PlacedLine → Bool)
      → filter_map temporary_name (lines_of (filter test xs)) ≡ filter_map temporary_name (lines_of (filter test ys))

actions-more : (o : Option Line) (ls ks : List Line) → count_by is_action ls ≡ count_by is_action ks
    → count_by is_action (cons_option o ls) ≡ count_by is_action (cons_option o ks)
actions-more None ls ks e = e
actions-more (Some line) ls ks e =
    sum_by-cons (λ l. cond (is_action l) 1 0) line ls
    ∙ ap (λ n. cond (is_action line) 1 0 + n) e
    ∙ sym (sum_by-cons (λ l. cond (is_action l) 1 0) line ks)

temporaries-more : (o : Option Line) (ls ks : List Line) → filter_map temporary_name ls ≡ filter_map temporary_name ks
    → filter_map temporary_name (cons_option o ls) ≡ filter_map temporary_name (cons_option o ks)
temporaries-more None ls ks e = e
temporaries-more (Some line) ls ks e = ap (cons_option (temporary_name line)) e

pub more-alike : (zs xs ys : List PlacedLine) → RestAlike xs ys → RestAlike (zs ++ xs) (zs ++ ys)
more-alike [] xs ys h = h
more-alike (z ∷ zs) xs ys h = record {
  ends = λ p. (more-alike zs xs ys h).ends z;
  actions = λ test. actions-by test (test z) ((more-alike zs xs ys h).actions test);
  temporaries = λ test. temporaries-by test (test z) ((more-alike zs xs ys h).temporaries test);
}
  where
    actions-by : (test : PlacedLine → Bool) (t : Bool)
        → count_by is_action (lines_of (filter test (zs ++ xs)))
        ≡ count_by is_action (lines_of (filter test (zs ++ ys)))
        → count_by is_action (lines_of (cond t (z ∷ filter test (zs ++ xs)) (filter test (zs ++ xs))))
        ≡ count_by is_action (lines_of (cond t (z ∷ filter test (zs ++ ys)) (filter test (zs ++ ys))))
    actions-by test true e = actions-more z.line _ _ e
    actions-by test false e = e

    temporaries-by : (test : PlacedLine → Bool) (t : Bool)
        → filter_map temporary_name (lines_of (filter test (zs ++ xs)))
        ≡ filter_map temporary_name (lines_of (filter test (zs ++ ys)))
        → filter_map temporary_name (lines_of (cond t (z ∷ filter test (zs ++ xs)) (filter test (zs ++ xs))))
        ≡ filter_map temporary_name (lines_of (cond t (z ∷ filter test (zs ++ ys)) (filter test (zs ++ ys))))
    temporaries-by test true e = temporaries-more z.line _ _ e
    temporaries-by test false e = e

-- the number of each line is of this kind
unfoldable pub AreOfKind : (ℕ → Type 0) → List PlacedLine → Type 0
AreOfKind kind [] = Unit {0}
AreOfKind kind (p ∷ ps) = kind p.number × AreOfKind kind ps

module _ (i : Interface) (racing : Bool) where
  abbrev fault : Standing → Option Fault
  fault = fault_at i racing

  -- the first fault among these lines, where it is given what stands before and behind them
  pub first_in : List PlacedLine → List PlacedLine → List PlacedLine → Option Fault
  first_in before [] rest = None
  first_in before (p ∷ ps) rest =
      or_else (fault (record { before = before; here = p; behind = ps ++ rest })) (first_in (before ++ p ∷ []) ps rest)

  or_else-assoc : (a b c : Option Fault) → or_else (or_else a b) c ≡ or_else a (or_else b c)
  or_else-assoc None b c = refl
  or_else-assoc (Some f) b c = refl

  pub first-splits : (before ps rest : List PlacedLine)
      → first_of fault (standings_from before (ps ++ rest))
      ≡ or_else (first_in before ps rest) (first_of fault (standings_from (before ++ ps) rest))
  unfolding first_in
  first-splits before [] rest = ap (λ b. first_of fault (standings_from b rest)) (sym (append-nil before))
  first-splits before (p ∷ ps) rest =
      first_of-cons fault here (standings_from (before ++ p ∷ []) (ps ++ rest))
      ∙ ap (or_else (fault here)) (first-splits (before ++ p ∷ []) ps rest
      ∙ ap (λ b. or_else (first_in (before ++ p ∷ []) ps rest) (first_of fault (standings_from b rest)))
      (append_assoc before (p ∷ []) ps))
      ∙ sym (or_else-assoc (fault here) (first_in (before ++ p ∷ []) ps rest)
      (first_of fault (standings_from (before ++ p ∷ ps) rest)))
    where
      here : Standing
      here = record { before = before; here = p; behind = ps ++ rest }

  stands-alike : (before : List PlacedLine) (p : PlacedLine) (xs ys : List PlacedLine) → RestAlike xs ys
      → StandAlike (record { before = before; here = p; behind = xs }) (record { before = before; here = p; behind = ys })
  stands-alike before p xs ys h = record {
    line = refl;
    left = ap (list_any (λ b. b.number == p.number)) (h.ends p);
    scope = refl;
    depth = refl;
    openings = refl;
    repeated = refl;
    before = same-lines _ _ refl;
    near = same-lines _ _ refl;
    actions = h.actions (λ l. home l == home p);
    temporaries = (more-alike before (p ∷ xs) (p ∷ ys) (more-alike (p ∷ []) xs ys h)).temporaries
        (λ l. home l == home p);
  }

  -- what stands behind these lines may be exchanged for what no rule tells from it
  pub rest-exchanged : (before ps xs ys : List PlacedLine) → RestAlike xs ys
      → first_in before ps xs ≡ first_in before ps ys
  unfolding first_in
  rest-exchanged before [] xs ys h = refl
  rest-exchanged before (p ∷ ps) xs ys h =
      let first = ap (option_map (fault_of p.number)) (same-broken i (here xs) (here ys)
      (stands-alike before p (ps ++ xs) (ps ++ ys) (more-alike ps xs ys h)) racing) in
      let rest = rest-exchanged (before ++ p ∷ []) ps xs ys h in
      λ j. or_else (first j) (rest j)
    where
      here : List PlacedLine → Standing
      here rest = record { before = before; here = p; behind = ps ++ rest }

  -- ---- the line of the first fault

  fault-kind : (kind : ℕ → Type 0) (s : Standing) → kind s.here.number → (found : Fault) → fault s ≡ Some found
      → kind found.line
  fault-kind kind s h found e =
      subst kind (sym (fault-number s.here.number (find (λ r. r.broken) (rows_of i racing (is_left_open s) s s.here.line))
      found e)) h

  or-kind : (kind : ℕ → Type 0) (a b : Option Fault) → ((found : Fault) → a ≡ Some found → kind found.line)
      → ((found : Fault) → b ≡ Some found → kind found.line) → (found : Fault) → or_else a b ≡ Some found
      → kind found.line
  or-kind kind None b h k found e = k found e
  or-kind kind (Some f) b h k found e = h found e

  pub first-kind : (kind : ℕ → Type 0) (before ps rest : List PlacedLine) → AreOfKind kind ps → (found : Fault)
      → first_in before ps rest ≡ Some found → kind found.line
  unfolding first_in AreOfKind
  first-kind kind before [] rest h found e = absurd cc
  first-kind kind before (p ∷ ps) rest h found e =
      or-kind kind (fault here) (first_in (before ++ p ∷ []) ps rest) (fault-kind kind here h.0)
      (first-kind kind (before ++ p ∷ []) ps rest h.1) found e
    where
      here : Standing
      here = record { before = before; here = p; behind = ps ++ rest }

  pub rest-kind : (kind : ℕ → Type 0) (before ps : List PlacedLine) → AreOfKind kind ps → (found : Fault)
      → first_of fault (standings_from before ps) ≡ Some found → kind found.line
  unfolding AreOfKind
  rest-kind kind before [] h found e = absurd cc
  rest-kind kind before (p ∷ ps) h found e =
      or-kind kind (fault here) (first_of fault (standings_from (before ++ p ∷ []) ps)) (fault-kind kind here h.0)
      (rest-kind kind (before ++ p ∷ []) ps h.1) found
      (sym (first_of-cons fault here (standings_from (before ++ p ∷ []) ps)) ∙ e)
    where
      here : Standing
      here = record { before = before; here = p; behind = ps }
