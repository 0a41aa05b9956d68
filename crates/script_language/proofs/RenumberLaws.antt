-- The same script with its lines numbered otherwise.
use Rattle.std.proofs.Common.{ℕ, zero, suc, ◌≡◌, Bool, true, false, eqb-true, eq-eqb, List, [], ◌∷◌, Option, Some, None, refl, sym, ◌∙◌, ap}
use Rattle.std.specs.Prelude.{◌==◌, cond, if◌then◌else◌, map, filter, filter_map, find, fold, flat_map, drop, slice_get, option_map, unwrap_or}
use Rattle.std.specs.List.{cons_option, enumerate_from}
use Rattle.edl_interface.specs.declared.Interface.{Interface}
use Rattle.edl_interface.specs.declared.Function.{Function}
use Rattle.body_vm.specs.declared.Body.{Body as TheBody}
use Rattle.call_script.specs.declared.HostAct.{HostAct}
use Rattle.call_script.specs.declared.HostAct.TheVariants as does
use Rattle.call_script.specs.Arguments.{number_of}
use Rattle.call_script.specs.Spelling.{NumberedLine}
use Rattle.call_script.specs.BodyNames.{BodyNames}
use Rattle.call_script.specs.Parser.{or_else}
use Rattle.call_script.specs.Line.{Line, Set, Foreign, Bytes, Cell, Race, Body, Handler, Thread, Racer, Call, Raw, Poke, Peek, Repeat, Return, Status, Do, Temp, Ocall, Close}
use Rattle.call_script.specs.Block.{Block, PlacedLine, scope_in, scope_of, line_in, placed, placed_from, open_after, open_behind, home}
use Rattle.call_script.specs.Standing.{lines_of, setting_in, temporary_name}
use Rattle.call_script.specs.Meaning.{script_value, host_behind, cells_behind, races_in}
use Rattle.script_blocks.specs.Blocks.{HomeLine, kept, kept_by, is_of_block, block_lines, in_block}
use Rattle.script_blocks.specs.declared.thread.Kind.{Kind}
use Rattle.script_blocks.specs.declared.thread.Kind.TheVariants as kind
use Rattle.script_blocks.specs.Acts.{act_of, acts_by, acts_to, block_acts, opened_acts, opens_kind}
use Rattle.script_blocks.specs.Slots.{is_for, first_given, filled, filled_handlers, handled_at, handler_by, handlers_of, empty_slots}
use Rattle.script_blocks.specs.Bodies.{temporaries_of, names_of, action_of, actions_of, body_of, bodied_at, body_by, filled_bodies, bodies_of, no_body}
use Rattle.script_language.proofs.ValueLaws.{value-alike}

module _ (g : ℕ → ℕ) (only : (a b : ℕ) → g a ≡ g b → a ≡ b) (outside : g 0 ≡ 0) where
  -- ---- the lines with their other numbers

  abbrev pub in_other : NumberedLine → NumberedLine
  in_other l = record { number = g l.number; words = l.words }

  abbrev pub block_other : Block → Block
  block_other b = record { number = g b.number; opening = b.opening }

  abbrev pub line_other : PlacedLine → PlacedLine
  line_other l = record { number = g l.number; blocks = map block_other l.blocks; line = l.line }

  abbrev home_other : HomeLine → HomeLine
  home_other l = record { number = g l.number; home = g l.home; line = l.line }

  pub same-test : (a b : ℕ) → (g a == g b) ≡ (a == b)
  same-test a b = go (a == b) (g a == g b) refl refl
    where
      go : (t u : Bool) → (a == b) ≡ t → (g a == g b) ≡ u → u ≡ t
      go true true e k = refl
      go false false e k = refl
      go true false e k = sym k ∙ eq-eqb (g a) (g b) (ap g (eqb-true a b e))
      go false true e k = sym (eq-eqb a b (only a b (eqb-true (g a) (g b) k))) ∙ e

  -- ---- placed lines

  pub scope-other : (bs : List Block) → scope_of (map block_other bs) ≡ scope_of bs
  scope-other [] = refl
  scope-other (b ∷ bs) = ap (scope_in b.opening) (scope-other bs)

  drop-other : (bs : List Block) → drop 1 (map block_other bs) ≡ map block_other (drop 1 bs)
  drop-other [] = refl
  drop-other (b ∷ bs) = refl

  pub open-other : (n : ℕ) (o : Option Line) (bs : List Block)
      → open_behind (g n) o (map block_other bs) ≡ map block_other (open_behind n o bs)
  open-other n None bs = refl
  open-other n (Some (Set s w)) bs = refl
  open-other n (Some (Foreign a b c)) bs = refl
  open-other n (Some (Bytes a b)) bs = refl
  open-other n (Some (Cell a b)) bs = refl
  open-other n (Some (Race a b c)) bs = refl
  open-other n (Some (Body a)) bs = refl
  open-other n (Some (Handler a)) bs = refl
  open-other n (Some Thread) bs = refl
  open-other n (Some Racer) bs = refl
  open-other n (Some (Call a b)) bs = refl
  open-other n (Some (Raw a b)) bs = refl
  open-other n (Some (Poke a b)) bs = refl
  open-other n (Some (Peek a b)) bs = refl
  open-other n (Some (Repeat a)) bs = refl
  open-other n (Some (Return a)) bs = refl
  open-other n (Some (Status a)) bs = refl
  open-other n (Some (Do a)) bs = refl
  open-other n (Some (Temp a b)) bs = refl
  open-other n (Some (Ocall a b c d)) bs = refl
  open-other n (Some Close) bs = drop-other bs

  pub placed-other : (around : List Block) (ls : List NumberedLine)
      → placed_from (map block_other around) (map in_other ls) ≡ map line_other (placed_from around ls)
  placed-other around [] = refl
  placed-other around (l ∷ ls) =
      ap (λ (p : PlacedLine). p ∷ placed_from (open_after p) (map in_other ls)) here
      ∙ ap (λ bs. line_other (placed around l) ∷ placed_from bs (map in_other ls))
      (open-other l.number (placed around l).line around)
      ∙ ap (λ ps. line_other (placed around l) ∷ ps) (placed-other (open_after (placed around l)) ls)
    where
      here : placed (map block_other around) (in_other l) ≡ line_other (placed around l)
      here =
          let scope = scope-other around in
          λ j. record { number = g l.number; blocks = map block_other around; line = line_in (scope j) l.words }

  pub lines-other : (ps : List PlacedLine) → lines_of (map line_other ps) ≡ lines_of ps
  lines-other [] = refl
  lines-other (p ∷ ps) = ap (cons_option p.line) (lines-other ps)

  -- ---- lines of blocks

  pub home-of-other : (p : PlacedLine) → home (line_other p) ≡ g (home p)
  home-of-other p = go p.blocks
    where
      go : (bs : List Block)
          → unwrap_or (option_map (λ b. b.number) (slice_get (map block_other bs) 0)) 0
          ≡ g (unwrap_or (option_map (λ b. b.number) (slice_get bs 0)) 0)
      go [] = sym outside
      go (b ∷ bs) = refl

  kept-other : (n h : ℕ) (o : Option Line) → kept_by (g n) (g h) o ≡ option_map home_other (kept_by n h o)
  kept-other n h None = refl
  kept-other n h (Some line) = go (is_of_block line)
    where
      go : (t : Bool)
          → (if t then Some (record { number = g n; home = g h; line = line }) else None)
          ≡ option_map home_other (if t then Some (record { number = n; home = h; line = line }) else None)
      go true = refl
      go false = refl

  map-cons : (o : Option HomeLine) (ls : List HomeLine)
      → cons_option (option_map home_other o) (map home_other ls) ≡ map home_other (cons_option o ls)
  map-cons None ls = refl
  map-cons (Some l) ls = refl

  blocks-other : (ps : List PlacedLine) → block_lines (map line_other ps) ≡ map home_other (block_lines ps)
  unfolding block_lines
  blocks-other [] = refl
  blocks-other (p ∷ ps) =
      let here = ap (λ h. kept_by (g p.number) h p.line) (home-of-other p) ∙ kept-other p.number (home p) p.line in
      let rest = blocks-other ps in
      (λ j. cons_option (here j) (rest j)) ∙ map-cons (kept p) (filter_map kept ps)

  in-block-other : (n : ℕ) (ls : List HomeLine) → in_block (g n) (map home_other ls) ≡ map home_other (in_block n ls)
  unfolding in_block
  in-block-other n [] = refl
  in-block-other n (l ∷ ls) =
      let rest = in-block-other n ls in
      (λ j. cond (same-test l.home n j) (home_other l ∷ rest j) (rest j))
      ∙ go (l.home == n) (filter (λ k. k.home == n) ls)
    where
      go : (t : Bool) (ks : List HomeLine)
          → cond t (home_other l ∷ map home_other ks) (map home_other ks) ≡ map home_other (cond t (l ∷ ks) ks)
      go true ks = refl
      go false ks = refl

  -- ---- acts

  module _ (i : Interface) where
    act-other : (f h : ℕ → List HostAct) → ((n : ℕ) → f (g n) ≡ h n) → (n : ℕ) (line : Line)
        → act_of i f (g n) line ≡ act_of i h n line
    act-other f h e n (Set s w) = refl
    act-other f h e n (Foreign a b c) = refl
    act-other f h e n (Bytes a b) = refl
    act-other f h e n (Cell a b) = refl
    act-other f h e n (Race a b c) = refl
    act-other f h e n (Body a) = refl
    act-other f h e n (Handler a) = refl
    act-other f h e n Thread = refl
    act-other f h e n Racer = refl
    act-other f h e n (Call a b) = refl
    act-other f h e n (Raw a b) = refl
    act-other f h e n (Poke a b) = refl
    act-other f h e n (Peek a b) = refl
    act-other f h e n (Repeat a) = ap (λ acts. Some (does.Repeat (number_of a) acts)) (e n)
    act-other f h e n (Return a) = refl
    act-other f h e n (Status a) = refl
    act-other f h e n (Do a) = refl
    act-other f h e n (Temp a b) = refl
    act-other f h e n (Ocall a b c d) = refl
    act-other f h e n Close = refl

    acts-other : (f h : ℕ → List HostAct) → ((n : ℕ) → f (g n) ≡ h n) → (ls : List HomeLine)
        → acts_by i f (map home_other ls) ≡ acts_by i h ls
    acts-other f h e [] = refl
    acts-other f h e (l ∷ ls) =
        let here = act-other f h e l.number l.line in
        let rest = acts-other f h e ls in
        λ j. cons_option (here j) (rest j)

    module _ (all : List HomeLine) where
      acts_to-other : (depth n : ℕ) → acts_to i (map home_other all) depth (g n) ≡ acts_to i all depth n
      unfolding acts_to
      acts_to-other zero n = refl
      acts_to-other (suc depth) n =
          ap (acts_by i (acts_to i (map home_other all) depth)) (in-block-other n all)
          ∙ acts-other (acts_to i (map home_other all) depth) (acts_to i all depth) (acts_to-other depth) (in_block n all)

      block-other : (n : ℕ) → block_acts i (map home_other all) (g n) ≡ block_acts i all n
      unfolding block_acts
      block-other n = acts_to-other _ n

      opened-other : (kind : Kind) (ls : List HomeLine)
          → opened_acts i (map home_other all) kind (map home_other ls) ≡ opened_acts i all kind ls
      unfolding opened_acts
      opened-other kind [] = refl
      opened-other kind (l ∷ ls) = go (opens_kind kind l.line) (block-other l.number) (opened-other kind ls)
        where
          other : HomeLine → List HostAct
          other k = block_acts i (map home_other all) k.number

          own : HomeLine → List HostAct
          own k = block_acts i all k.number

          go : (t : Bool) → other (home_other l) ≡ own l
              → map other (filter (λ k. opens_kind kind k.line) (map home_other ls))
              ≡ map own (filter (λ k. opens_kind kind k.line) ls)
              → map other (cond t (home_other l ∷ filter (λ k. opens_kind kind k.line) (map home_other ls))
              (filter (λ k. opens_kind kind k.line) (map home_other ls)))
              ≡ map own (cond t (l ∷ filter (λ k. opens_kind kind k.line) ls) (filter (λ k. opens_kind kind k.line) ls))
          go true here rest = λ j. here j ∷ rest j
          go false here rest = rest

  -- ---- what functions are given

  module _ {A : Type 0} (at : HomeLine → Option ℕ) (value other : HomeLine → A)
      (same_at : (l : HomeLine) → at (home_other l) ≡ at l) (same : (l : HomeLine) → other (home_other l) ≡ value l) where
    given-other : (k : ℕ) (ls : List HomeLine)
        → first_given at other k (map home_other ls) ≡ first_given at value k ls
    given-other k [] = refl
    given-other k (l ∷ ls) =
        ap (λ (o : Option ℕ). option_map other (cond (unwrap_or (option_map (λ j. j == k) o) false)
        (Some (home_other l)) (find (is_for at other k) (map home_other ls)))) (same_at l)
        ∙ go (is_for at value k l) (given-other k ls)
      where
        go : (t : Bool)
            → option_map other (find (is_for at other k) (map home_other ls))
            ≡ option_map value (find (is_for at value k) ls)
            → option_map other (cond t (Some (home_other l)) (find (is_for at other k) (map home_other ls)))
            ≡ option_map value (cond t (Some l) (find (is_for at value k) ls))
        go true rest = ap Some (same l)
        go false rest = rest

    filled-other : (slots : List (Option A)) (ls : List HomeLine)
        → filled at other slots (map home_other ls) ≡ filled at value slots ls
    unfolding filled
    filled-other slots ls = λ j. map (λ p. or_else p.1 (given-other p.0 ls j)) (enumerate_from 0 slots)

  module _ (i : Interface) where
    handlers-other : (all : List HomeLine) → handlers_of i (map home_other all) ≡ handlers_of i all
    unfolding handlers_of filled_handlers
    handlers-other all =
        ap (map (λ slot. unwrap_or slot []))
        (filled-other (handled_at i all) (handler_by i all) (handler_by i (map home_other all)) (λ l. refl)
        (λ l. block-other i all l.number) (empty_slots (List HostAct) i.ocalls) all)

    temporaries-other : (ls : List HomeLine) → temporaries_of (map home_other ls) ≡ temporaries_of ls
    unfolding temporaries_of
    temporaries-other [] = refl
    temporaries-other (l ∷ ls) = ap (cons_option (temporary_name l.line)) (temporaries-other ls)

    actions-other : (names : BodyNames) (ls : List HomeLine) → actions_of i names (map home_other ls) ≡ actions_of i names ls
    unfolding actions_of
    actions-other names [] = refl
    actions-other names (l ∷ ls) = ap (cons_option (action_of i names l.line)) (actions-other names ls)

    body-other : (f : Option Function) (ls : List HomeLine) → body_of i f (map home_other ls) ≡ body_of i f ls
    unfolding body_of
    body-other f ls =
        ap (λ ts. record {
          actions = actions_of i (record { params = (names_of f ls).params; temporaries = ts })
              (map home_other ls);
        }) (temporaries-other ls)
        ∙ ap (λ actions. record { actions = actions }) (actions-other (names_of f ls) ls)

    bodies-other : (all : List HomeLine) → bodies_of i (map home_other all) ≡ bodies_of i all
    unfolding bodies_of filled_bodies
    bodies-other all =
        ap (map (λ slot. unwrap_or slot no_body))
        (filled-other (bodied_at i all) (body_by i all) (body_by i (map home_other all)) (λ l. refl)
        (λ l. ap (body_of i _) (in-block-other l.number all) ∙ body-other _ (in_block l.number all))
        (empty_slots TheBody i.ecalls) all)

    -- ---- the whole

    pub value-other : (racing : Bool) (ps : List PlacedLine) → script_value i racing (map line_other ps) ≡ script_value i racing ps
    value-other racing ps =
        value-alike i racing (map line_other ps) ps (λ which. ap (λ ls. setting_in ls which) (lines-other ps))
        (λ before. ap (fold host_behind before) (lines-other ps))
        (λ before. ap (fold cells_behind before) (lines-other ps)) (ap (flat_map races_in) (lines-other ps))
        (ap (bodies_of i) (blocks-other ps) ∙ bodies-other (block_lines ps))
        (ap (handlers_of i) (blocks-other ps) ∙ handlers-other (block_lines ps))
        (outside-acts (block_lines (map line_other ps)) (blocks-other ps))
        (opened (block_lines (map line_other ps)) (blocks-other ps) kind.Thread)
        (opened (block_lines (map line_other ps)) (blocks-other ps) kind.Racer)
      where
        outside-acts : (ls : List HomeLine) → ls ≡ map home_other (block_lines ps)
            → block_acts i ls 0 ≡ block_acts i (block_lines ps) 0
        outside-acts ls e =
            ap (λ ks. block_acts i ks 0) e
            ∙ ap (block_acts i (map home_other (block_lines ps))) (sym outside) ∙ block-other i (block_lines ps) 0

        opened : (ls : List HomeLine) → ls ≡ map home_other (block_lines ps) → (kind : Kind)
            → opened_acts i ls kind ls ≡ opened_acts i (block_lines ps) kind (block_lines ps)
        opened ls e kind = ap (λ ks. opened_acts i ks kind ks) e ∙ opened-other i (block_lines ps) kind (block_lines ps)
