-- What lines give to functions by their names.
use Rattle.std.proofs.Common.{arith, ◌≡◌, ◌+◌, ◌-◌, ◌<◌, ◌≤◌, get_or, take, drop, ℕ, zero, suc, Bool, true, false, eq-eqb, List, [], ◌∷◌, ◌++◌, length, map, Option, Some, None, refl, ap, sym, ◌∙◌}
use Rattle.std.proofs.lemmas.List.{reverse-reverse}
use Rattle.std.specs.Prelude.{◌==◌, find, slice_get, slice_set, filter_map, option_map, option_and_then, unwrap_or, if◌then◌else◌, cond, reverse}
use Rattle.std.specs.List.{cons_option, enumerate_from}
use Rattle.edl_interface.specs.declared.Interface.{Interface}
use Rattle.edl_interface.specs.declared.Function.{Function}
use Rattle.call_script.specs.declared.HostAct.{HostAct}
use Rattle.call_script.specs.Parser.{or_else}
use Rattle.call_script.specs.Spelling.{Word}
use Rattle.call_script.specs.Line.{Line, Handler}
use Rattle.call_script.specs.Block.{PlacedLine, home}
use Rattle.call_script.specs.Standing.{handler_name}
use Rattle.call_script.specs.Meaning as meaning
use Rattle.call_script.specs.Meaning.{ordinal_in, names_ordinal}
use Rattle.script_laws.proofs.FirstFault.{not_number}
use Rattle.script_blocks.specs.declared.lines.BlockLine.{BlockLine}
use Rattle.script_blocks.proofs.LineLaws.{parts}
use Rattle.script_blocks.specs.Blocks.{HomeLine, home_line, kept_by, kept, is_of_block, block_lines}
use Rattle.script_blocks.specs.Acts.{block_acts}
use Rattle.script_blocks.specs.Slots.{ordinal_at, is_for, first_given, filled, is_free, empty_slots, filled_handlers, handlers_of, handled_at, handler_by}
use Rattle.script_blocks.proofs.ActLaws.{acts_in-is}

same-cons : {B : Type 0} (x y : B) (xs ys : List B) → x ≡ y → xs ≡ ys → x ∷ xs ≡ y ∷ ys
same-cons x y xs ys e f = ap (λ z. z ∷ xs) e ∙ ap (λ zs. y ∷ zs) f

pub free_within : {A : Type 0} (slots : List (Option A)) (p : ℕ) → is_free (slice_get slots p) ≡ true → p < length slots
free_within [] p e = absurd cc
free_within (x ∷ slots) zero e = omega arith
free_within (x ∷ slots) (suc p) e = let less : p < length slots = free_within slots p e in omega (arith, less)

module _ {A : Type 0} (at : HomeLine → Option ℕ) (value : HomeLine → A) where
  abbrev filled_from : ℕ → List (Option A) → List HomeLine → List (Option A)
  filled_from n slots xs = map (λ p. or_else p.1 (first_given at value p.0 xs)) (enumerate_from n slots)

  module _ (l : HomeLine) (ls : List HomeLine) where
    not-for : (k j : ℕ) → at l ≡ Some j → (j ≡ k → ⊥) → first_given at value k ls ≡ first_given at value k (l ∷ ls)
    not-for k j e d = rw (e, not_number j k d) refl

    for-it : (k : ℕ) → at l ≡ Some k → Some (value l) ≡ first_given at value k (l ∷ ls)
    for-it k e = rw (e, eq-eqb k k refl) refl

    later : (n : ℕ) (slots : List (Option A)) (k : ℕ) → at l ≡ Some k → k < n
        → filled_from n slots ls ≡ filled_from n slots (l ∷ ls)
    later n [] k e h = refl
    later n (x ∷ slots) k e h =
        same-cons _ _ _ _ (ap (or_else x) (not-for n k e (λ f. absurd (omega (arith, h)))))
        (later (n + 1) slots k e (omega (arith, h)))

    elsewhere-from : (n : ℕ) (slots : List (Option A)) → at l ≡ None
        → filled_from n slots ls ≡ filled_from n slots (l ∷ ls)
    elsewhere-from n [] e = refl
    elsewhere-from n (x ∷ slots) e = same-cons _ _ _ _ (ap (or_else x) (rw e refl)) (elsewhere-from (n + 1) slots e)

    taken-from : (n : ℕ) (slots : List (Option A)) (p k : ℕ) → at l ≡ Some k → n + p ≡ k
        → is_free (slice_get slots p) ≡ false → filled_from n slots ls ≡ filled_from n slots (l ∷ ls)
    taken-from n [] p k e s h = refl
    taken-from n (None ∷ slots) zero k e s h = absurd cc
    taken-from n (Some a ∷ slots) zero k e s h =
        ap (λ xs. Some a ∷ xs) (later (n + 1) slots k e (omega (arith, s)))
    taken-from n (x ∷ slots) (suc p) k e s h =
        same-cons _ _ _ _ (ap (or_else x) (not-for n k e (λ f. absurd (omega (arith, s)))))
        (taken-from (n + 1) slots p k e (omega (arith, s)) h)

    given-from : (n : ℕ) (slots : List (Option A)) (p k : ℕ) → at l ≡ Some k → n + p ≡ k
        → is_free (slice_get slots p) ≡ true
        → filled_from n (slice_set slots p (Some (value l))) ls ≡ filled_from n slots (l ∷ ls)
    given-from n [] p k e s h = absurd cc
    given-from n (Some a ∷ slots) zero k e s h = absurd cc
    given-from n (None ∷ slots) zero k e s h =
        let same : k ≡ n = omega (arith, s) in
        same-cons _ _ _ _ (for-it n (e ∙ ap Some same)) (later (n + 1) slots k e (omega (arith, s)))
    given-from n (x ∷ slots) (suc p) k e s h =
        same-cons _ _ _ _ (ap (or_else x) (not-for n k e (λ f. absurd (omega (arith, s)))))
        (given-from (n + 1) slots p k e (omega (arith, s)) h)

    pub elsewhere : (slots : List (Option A)) → at l ≡ None → filled at value slots ls ≡ filled at value slots (l ∷ ls)
    unfolding filled
    elsewhere slots e = elsewhere-from 0 slots e

    pub taken : (slots : List (Option A)) (k : ℕ) → at l ≡ Some k → is_free (slice_get slots k) ≡ false
        → filled at value slots ls ≡ filled at value slots (l ∷ ls)
    unfolding filled
    taken slots k e h = taken-from 0 slots k k e (omega arith) h

    pub given : (slots : List (Option A)) (k : ℕ) → at l ≡ Some k → is_free (slice_get slots k) ≡ true
        → filled at value (slice_set slots k (Some (value l))) ls ≡ filled at value slots (l ∷ ls)
    unfolding filled
    given slots k e h = given-from 0 slots k k e (omega arith) h

  end-from : (n : ℕ) (slots : List (Option A)) → filled_from n slots [] ≡ slots
  end-from n [] = refl
  end-from n (None ∷ slots) = ap (λ xs. None ∷ xs) (end-from (n + 1) slots)
  end-from n (Some a ∷ slots) = ap (λ xs. Some a ∷ xs) (end-from (n + 1) slots)

  pub end : (slots : List (Option A)) → filled at value slots [] ≡ slots
  unfolding filled
  end slots = end-from 0 slots

  -- what each function is given, where none was given anything before
  module _ {B : Type 0} (f : Option A → B) (g : ℕ → Function → B) (all : List HomeLine) where
    each-from : (n : ℕ) (fs : List Function)
        → ((k p : ℕ) (h : Function) → n + p ≡ k → slice_get fs p ≡ Some h → f (first_given at value k all) ≡ g k h)
        → map f (filled_from n (empty_slots A fs) all) ≡ map (λ p. g p.0 p.1) (enumerate_from n fs)
    each-from n [] e = refl
    each-from n (h ∷ fs) e =
        same-cons _ _ _ _ (e n 0 h (omega arith) refl)
        (each-from (n + 1) fs (λ k p x s t. e k (suc p) x (omega (arith, s)) t))

    pub each : (fs : List Function)
        → ((k : ℕ) (h : Function) → slice_get fs k ≡ Some h → f (first_given at value k all) ≡ g k h)
        → map f (filled at value (empty_slots A fs) all) ≡ map (λ p. g p.0 p.1) (enumerate_from 0 fs)
    unfolding filled
    each fs e = each-from 0 fs (λ k p h s t. e k h (s-at k p h s t))
      where
        s-at : (k p : ℕ) (h : Function) → 0 + p ≡ k → slice_get fs p ≡ Some h → slice_get fs k ≡ Some h
        s-at k p h s t = let same : k ≡ p = omega (arith, s) in ap (λ j. slice_get fs j) same ∙ t

  -- what the first line gives hangs on those lines alone that name the function
  pub given_alike : (k : ℕ) (other : HomeLine → A) (ls : List HomeLine)
      → ((l : HomeLine) → is_for at value k l ≡ true → value l ≡ other l)
      → first_given at value k ls ≡ option_map other (find (is_for at value k) ls)
  given_alike k other [] e = refl
  given_alike k other (l ∷ ls) e = go (is_for at value k l) refl (given_alike k other ls e)
    where
      go : (t : Bool) → is_for at value k l ≡ t
          → first_given at value k ls ≡ option_map other (find (is_for at value k) ls)
          → option_map value (cond t (Some l) (find (is_for at value k) ls))
          ≡ option_map other (cond t (Some l) (find (is_for at value k) ls))
      go true f h = ap Some (e l f)
      go false f h = h

-- ---- the line that opens a function's block

module _ (name_of : Line → Option Word) (no_other : (line : Line) → is_of_block line ≡ false → name_of line ≡ None)
    (fs : List Function) (k : ℕ) where
  abbrev pub is_its : HomeLine → Bool
  is_its l = unwrap_or (option_map (λ j. j == k) (ordinal_at name_of fs l)) false

  pub opening-is : (script : List PlacedLine)
      → option_map (λ (l : HomeLine). l.number) (find is_its (block_lines script))
      ≡ option_map (λ (l : PlacedLine). l.number) (find (names_ordinal name_of fs k) script)
  unfolding block_lines
  opening-is [] = refl
  opening-is (l ∷ ls) = go l.line refl (opening-is ls)
    where
      placed : List PlacedLine → Option ℕ
      placed xs = option_map (λ (l : PlacedLine). l.number) (find (names_ordinal name_of fs k) xs)

      homed : List HomeLine → Option ℕ
      homed xs = option_map (λ (l : HomeLine). l.number) (find is_its xs)

      -- whether a line names the function
      is_named : Option Line → Bool
      is_named o = unwrap_or (option_map (λ j. j == k) (option_and_then (ordinal_in fs) (option_and_then name_of o))) false

      step : (o : Option Line) → l.line ≡ o
          → placed (l ∷ ls) ≡ option_map (λ (l : PlacedLine). l.number) (cond (is_named o) (Some l) (find (names_ordinal name_of fs k) ls))
      step o e =
          ap (λ x. option_map (λ (l : PlacedLine). l.number)
          (cond (is_named x) (Some l) (find (names_ordinal name_of fs k) ls))) e

      tested : (line : Line) (t : Bool) → homed (filter_map kept ls) ≡ placed ls
          → option_map (λ (l : HomeLine). l.number)
          (cond t (Some (record { number = l.number; home = home l; line = line })) (find is_its (filter_map kept ls)))
          ≡ option_map (λ (l : PlacedLine). l.number) (cond t (Some l) (find (names_ordinal name_of fs k) ls))
      tested line true h = refl
      tested line false h = h

      on : (line : Line) (s : Bool) → is_of_block line ≡ s → homed (filter_map kept ls) ≡ placed ls
          → homed (cons_option (if s then Some (record { number = l.number; home = home l; line = line })
          else None) (filter_map kept ls))
          ≡ option_map (λ (l : PlacedLine). l.number) (cond (is_named (Some line)) (Some l) (find (names_ordinal name_of fs k) ls))
      on line true d h = tested line (is_named (Some line)) h
      on line false d h = let none : name_of line ≡ None = no_other line d in rw none h

      go : (o : Option Line) → l.line ≡ o → homed (filter_map kept ls) ≡ placed ls
          → homed (cons_option (kept_by l.number (home l) o) (filter_map kept ls)) ≡ placed (l ∷ ls)
      go None e h = h ∙ sym (step None e)
      go (Some line) e h = on line (is_of_block line) refl h ∙ sym (step (Some line) e)

-- ---- handlers

no-handler : (line : Line) → is_of_block line ≡ false → handler_name line ≡ None
no-handler (Handler name) e = absurd cc
no-handler line e = refl

module _ (i : Interface) (all : List HomeLine) (l : HomeLine) (ls : List HomeLine)
    (slots : List (Option (List HostAct))) where
  pub handler_elsewhere : handled_at i all l ≡ None
      → filled_handlers i all slots ls ≡ filled_handlers i all slots (l ∷ ls)
  unfolding filled_handlers
  handler_elsewhere e = elsewhere (handled_at i all) (handler_by i all) l ls slots e

  pub handler_taken : (k : ℕ) → handled_at i all l ≡ Some k → is_free (slice_get slots k) ≡ false
      → filled_handlers i all slots ls ≡ filled_handlers i all slots (l ∷ ls)
  unfolding filled_handlers
  handler_taken k e h = taken (handled_at i all) (handler_by i all) l ls slots k e h

  pub handler_given : (k : ℕ) → handled_at i all l ≡ Some k → is_free (slice_get slots k) ≡ true
      → (acts : List HostAct) → acts ≡ block_acts i all l.number
      → filled_handlers i all (slice_set slots k (Some acts)) ls ≡ filled_handlers i all slots (l ∷ ls)
  unfolding filled_handlers
  handler_given k e h acts a =
      ap (λ x. filled (handled_at i all) (handler_by i all) (slice_set slots k (Some x)) ls) a
      ∙ given (handled_at i all) (handler_by i all) l ls slots k e h

pub handlers_end : (i : Interface) (all left : List HomeLine) (slots filling : List (Option (List HostAct)))
    → left ≡ [] → filled_handlers i all slots left ≡ filling → slots ≡ filling
unfolding filled_handlers
handlers_end i all left slots filling e h =
    sym (ap (λ ls. filled (handled_at i all) (handler_by i all) slots ls) e
    ∙ end (handled_at i all) (handler_by i all) slots) ∙ h

pub handlers_step : (i : Interface) (all : List HomeLine) (left : List BlockLine) (x : BlockLine) → 1 ≤ length left
    → x ≡ get_or left 0 x → (slots new filling : List (Option (List HostAct)))
    → ((rest : List HomeLine) → filled_handlers i all new rest ≡ filled_handlers i all slots (home_line x ∷ rest))
    → filled_handlers i all slots (map home_line left) ≡ filling
    → filled_handlers i all new (map home_line (take (length left - 1) (drop 1 left))) ≡ filling
handlers_step i all left x long is slots new filling e h =
    e (map home_line (take (length left - 1) (drop 1 left)))
    ∙ ap (λ ls. filled_handlers i all slots ls) (sym (parts left x long is)) ∙ h

pub handlers_from : (i : Interface) (all : List HomeLine) (old handlers : List (List HostAct))
    (slots turned : List (Option (List HostAct)))
    → slots ≡ filled_handlers i all (empty_slots (List HostAct) i.ocalls) all → turned ≡ reverse slots → old ≡ []
    → handlers ≡ old ++ map (λ slot. unwrap_or slot []) (reverse turned) → handlers ≡ handlers_of i all
unfolding handlers_of
handlers_from i all old handlers slots turned e t o h =
    h ∙ ap (λ xs. xs ++ map (λ slot. unwrap_or slot []) (reverse turned)) o
    ∙ ap (λ xs. map (λ slot. unwrap_or slot []) (reverse xs)) t
    ∙ ap (map (λ slot. unwrap_or slot [])) (reverse-reverse slots) ∙ ap (map (λ slot. unwrap_or slot [])) e

module _ (i : Interface) (racing : Bool) (script : List PlacedLine) where
  handler-is : (k : ℕ)
      → unwrap_or (first_given (handled_at i (block_lines script)) (handler_by i (block_lines script)) k
      (block_lines script)) []
      ≡ meaning.handler_at i racing script (meaning.opening_of i racing script handler_name i.ocalls k)
  handler-is k =
      go (find (is_its handler_name no-handler i.ocalls k) (block_lines script))
      (find (names_ordinal handler_name i.ocalls k) script) (opening-is handler_name no-handler i.ocalls k script)
    where
      go : (o : Option HomeLine) (p : Option PlacedLine)
          → option_map (λ (l : HomeLine). l.number) o ≡ option_map (λ (l : PlacedLine). l.number) p
          → unwrap_or (option_map (handler_by i (block_lines script)) o) []
          ≡ meaning.handler_at i racing script (option_map (λ l. l.number) p)
      go None None e = refl
      go None (Some p) e = absurd cc
      go (Some l) None e = absurd cc
      go (Some l) (Some p) e =
          let same : l.number ≡ p.number = ap (λ o. unwrap_or o 0) e in
          sym (acts_in-is i racing script l.number) ∙ ap (meaning.acts_in i racing script) same

  pub handlers-are : handlers_of i (block_lines script)
      ≡ map (λ p. meaning.handler_at i racing script (meaning.opening_of i racing script handler_name i.ocalls p.0))
      (enumerate_from 0 i.ocalls)
  unfolding handlers_of filled_handlers
  handlers-are =
      each (handled_at i (block_lines script)) (handler_by i (block_lines script)) (λ slot. unwrap_or slot [])
      (λ k h. meaning.handler_at i racing script (meaning.opening_of i racing script handler_name i.ocalls k))
      (block_lines script) i.ocalls (λ k h e. handler-is k)
