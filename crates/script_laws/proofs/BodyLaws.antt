-- The bodies of a script without fault are sound.
use Rattle.std.proofs.Common.{arith, ℕ, ◌≡◌, ◌+◌, ◌≤◌, Bool, true, false, List, [], ◌∷◌, ◌++◌, length, map, Option, Some, None, refl, sym, ap, subst, ◌∙◌, append_assoc, append-nil, eqb-true, leb-false}
use Rattle.std.specs.Prelude.{◌==◌, ◌&&◌, ◌||◌, filter, filter_map, find, slice_get, unwrap_or, option_map, if◌then◌else◌, count_by, nat_le}
use Rattle.std.specs.List.{AllByRecursion, AllZip, list_any, cons_option, enumerate_from}
use Rattle.std.specs.Str.{bytes_eq}
use Rattle.std.proofs.lemmas.List.Elements.{filter-append, filter_map-append}
use Rattle.std.proofs.lemmas.List.Folds.{list_any-append}
use Rattle.std.proofs.lemmas.List.Sums.{sum_by-cons, sum_by-append}
use Rattle.edl_interface.specs.declared.Function.{Function}
use Rattle.edl_interface.specs.declared.Interface.{Interface}
use Rattle.edl_interface.specs.Parameters.{is_marshalled}
use Rattle.body_vm.specs.declared.Action.{Action}
use Rattle.call_script.specs.Spelling.{Word}
use Rattle.call_script.specs.Settings.{cells}
use Rattle.call_script.specs.BodyNames.{BodyNames, is_wrong_pass, is_unknown_argument}
use Rattle.call_script.specs.Line.{Line, Body as body_line, Do, Temp, Ocall, Register}
use Rattle.call_script.specs.Parts.{is_unknown_name}
use Rattle.call_script.specs.Block.{Block, PlacedLine, home, scope_of, scope_at}
use Rattle.call_script.specs.Standing.{has_other_count, any_argument, Standing, standings, lines_of, setting_in, named, beside, whole_script, body_function, body_name, temporary_name, names_in, names_at, is_action, is_temporary, is_named_in}
use Rattle.call_script.specs.Faults.{is_left_open, max_actions, max_temporaries}
use Rattle.call_script.specs.Meaning.{names_ordinal, opening_of, action_of, body_of_lines, body_at}
use Rattle.call_script.specs.Sound.{IsSoundAction, AreSoundActions, IsSoundBody, is_temporary_action}
use Rattle.script_laws.proofs.ActionLaws.{or-false, sound_action}
use Rattle.script_laws.proofs.ArgumentLaws.{in-range}
use Rattle.script_laws.proofs.LimitLaws.{within-limits}
use Rattle.script_laws.proofs.Forms.{IsOutside}
use Rattle.script_laws.proofs.FineLines.{IsFine, lines_of-append}
use Rattle.script_laws.proofs.FineForms.{IsFineAs, AreFine, fine-as}
use Rattle.script_laws.proofs.BlockLaws.{IsIn, is-in, AreNested, IsBlockOf}
use Rattle.script_laws.proofs.ActTreeLaws.{named-at}
use Rattle.script_laws.proofs.ThreadLaws.{opening-is, zip-enumerated, own-block, fine-at}
use Rattle.script_laws.proofs.BodyActionLaws.{same-itself, temporary-is, ocall-is}

or-right : (a b : Bool) → b ≡ true → (a || b) ≡ true
or-right true b e = refl
or-right false b e = e

-- the lines of a block
abbrev of_block : ℕ → List PlacedLine → List Line
of_block n ls = lines_of (filter (λ l. home l == n) ls)

of_block-append : (n : ℕ) (xs ys : List PlacedLine) → of_block n (xs ++ ys) ≡ of_block n xs ++ of_block n ys
of_block-append n xs ys =
    ap lines_of (filter-append (λ l. home l == n) xs ys)
    ∙ lines_of-append (filter (λ l. home l == n) xs) (filter (λ l. home l == n) ys)

-- the lines beside one whose block it is
beside-is : (n : ℕ) (s : Standing) (ls : List PlacedLine) → home s.here ≡ n → beside s ls ≡ of_block n ls
beside-is n s ls e = ap (λ m. of_block m ls) e

module _ (i : Interface) (racing : Bool) (script : List PlacedLine) where
  cell_count : ℕ
  cell_count = setting_in (lines_of script) cells

  module _ (n : ℕ) (name : Word) (f : Function) (b : Block) (block : IsBlockOf script n (b ∷ []))
      (opening : b.opening ≡ body_line name) (known : named i.ecalls name ≡ Some f) where
    abbrev all_lines : List Line
    all_lines = of_block n script

    abbrev temporaries : List Word
    temporaries = filter_map temporary_name all_lines

    abbrev names : BodyNames
    names = record { params = f.params; temporaries = temporaries }

    -- what a line of the body does is sound, and makes a temporary block where the line names one
    abbrev IsDone : ℕ → Line → Action → Type 0
    IsDone left line a =
        IsSoundAction i (setting_in (lines_of script) cells) f (length temporaries) left a
        × (is_temporary_action a ≡ is_temporary line)

    same-action : (a c : Action) → ◌≡◌ {A = Option Action} (Some a) (Some c) → a ≡ c
    same-action a c e = ap (λ o. unwrap_or o a) e

    names-are : (s : Standing) (line : Line) → IsFineAs i racing script s line → s.here.blocks ≡ b ∷ []
        → home s.here ≡ n → names_at i s ≡ names
    names-are s line fine around at =
        let function : body_function i (scope_at s.here) ≡ Some f = ap (λ bs. body_function i (scope_of bs)) around
        ∙ ap (λ x. body_function i (scope_of (record { number = b.number; opening = x } ∷ []))) opening ∙ known in
        ap (λ o. names_in o (beside s (whole_script s))) function
        ∙ ap (λ ls. names_in (Some f) ls) (beside-is n s (whole_script s) at ∙ ap (of_block n) fine.whole)

    function-is : (s : Standing) → s.here.blocks ≡ b ∷ [] → body_function i (scope_at s.here) ≡ Some f
    function-is s around =
        ap (λ bs. body_function i (scope_of bs)) around
        ∙ ap (λ x. body_function i (scope_of (record { number = b.number; opening = x } ∷ []))) opening ∙ known

    temporary-known : (s : Standing) (t size : Word) → IsFineAs i racing script s (Temp t size)
        → s.here.line ≡ Some (Temp t size) → (home s.here == n) ≡ true → list_any (bytes_eq t) temporaries ≡ true
    temporary-known s t size fine is at =
        let split : all_lines ≡ of_block n s.before ++ of_block n (s.here ∷ s.behind) =
        ap (of_block n) (sym fine.whole) ∙ of_block-append n s.before (s.here ∷ s.behind) in
        let own : of_block n (s.here ∷ s.behind) ≡ Temp t size ∷ of_block n s.behind =
        ap (λ x. lines_of (if x then s.here ∷ filter (λ l. home l == n) s.behind
        else filter (λ l. home l == n) s.behind)) at ∙ ap (λ o. cons_option o (of_block n s.behind)) is in
        let two : temporaries ≡ filter_map temporary_name (of_block n s.before)
        ++ (t ∷ filter_map temporary_name (of_block n s.behind)) =
        ap (filter_map temporary_name) (split ∙ ap (λ xs. of_block n s.before ++ xs) own)
        ∙ filter_map-append temporary_name (of_block n s.before) (Temp t size ∷ of_block n s.behind) in
        let first : list_any (bytes_eq t) (t ∷ filter_map temporary_name (of_block n s.behind)) ≡ true =
        ap (λ x. x || list_any (bytes_eq t) (filter_map temporary_name (of_block n s.behind))) (same-itself t) in
        ap (list_any (bytes_eq t)) two ∙ list_any-append (bytes_eq t) (filter_map temporary_name (of_block n s.before))
        (t ∷ filter_map temporary_name (of_block n s.behind))
        ∙ or-right (list_any (bytes_eq t) (filter_map temporary_name (of_block n s.before))) _ first

    done-is : (s : Standing) (line : Line) → IsFineAs i racing script s line → s.here.line ≡ Some line
        → s.here.blocks ≡ b ∷ [] → (home s.here == n) ≡ true
        → (a : Action) → action_of i racing script names line ≡ Some a
        → IsDone (count_by is_action (of_block n s.behind)) line a
    done-is s (Do phrase) fine is around at a e =
        let here = eqb-true (home s.here) n at in
        let named-so = names-are s (Do phrase) fine around here in
        let sound = sound_action i racing (is_left_open s) s f fine.words phrase (function-is s around) fine.reads
        fine.rules in
        let temporaries-are : filter_map temporary_name (beside s (whole_script s)) ≡ temporaries =
        ap (filter_map temporary_name) (beside-is n s (whole_script s) here ∙ ap (of_block n) fine.whole) in
        let meant : phrase.meaning (names_at i s) ≡ a = ap phrase.meaning named-so
        ∙ same-action (phrase.meaning names) a e in (
          subst (λ x. IsSoundAction i (setting_in (lines_of script) cells) f (length temporaries)
              (count_by is_action (of_block n s.behind)) x) meant
              (subst (λ ts. IsSoundAction i (setting_in (lines_of script) cells) f (length ts)
              (count_by is_action (of_block n s.behind)) (phrase.meaning (names_at i s))) temporaries-are
              (subst (λ ls. IsSoundAction i (setting_in (lines_of script) cells) f
              (length (filter_map temporary_name (beside s (whole_script s)))) (count_by is_action ls)
              (phrase.meaning (names_at i s))) (beside-is n s s.behind here)
              (subst (λ c. IsSoundAction i c f (length (filter_map temporary_name (beside s (whole_script s))))
              (count_by is_action (beside s s.behind)) (phrase.meaning (names_at i s))) (fine.settled refl cells)
              sound.0))),
          subst (λ x. is_temporary_action x ≡ false) meant sound.1,
        )
    done-is s (Temp t size) fine is around at a e =
        let here = eqb-true (home s.here) n at in
        let range = in-range 1 65536 size fine.form.1 fine.rules.1.0 in
        let eleven = or-false (is_named_in temporary_name (beside s s.before) t)
        (list_any (λ p. is_marshalled p.class && bytes_eq p.name t) (names_at i s).params)
        fine.rules.1.1.1.1.1.1.1.1.1.1.0 in
        let fresh = subst (λ ns. list_any (λ p. is_marshalled p.class && bytes_eq p.name t) ns.params ≡ false)
        (names-are s (Temp t size) fine around here) eleven.1 in
        subst (IsDone (count_by is_action (of_block n s.behind)) (Temp t size)) (same-action _ a e) (
          (
            temporary-is i f temporaries (setting_in (lines_of script) cells) 0 t size fresh
                (temporary-known s t size fine is at),
            range.0,
            range.1,
          ),
          refl,
        )
    done-is s (Ocall r q g args) fine is around at a e =
        let here = eqb-true (home s.here) n at in
        let named-so = names-are s (Ocall r q g args) fine around here in
        subst (IsDone (count_by is_action (of_block n s.behind)) (Ocall r q g args)) (same-action _ a e) (
          ocall-is i f temporaries (setting_in (lines_of script) cells) 0 racing script r q g args fine.rules.0
              fine.rules.1.1.1.1.0
              (subst (λ ns. (has_other_count (named i.ocalls g) args
              || any_argument (is_wrong_pass ns) (named i.ocalls g) args) ≡ false) named-so fine.rules.1.1.1.1.1.0)
              (subst (λ ns. (is_unknown_name ns Register r || is_unknown_name ns Register q
              || any_argument (is_unknown_argument ns) (named i.ocalls g) args) ≡ false) named-so
              fine.rules.1.1.1.1.1.1.1.0),
          refl,
        )
    done-is s line fine is around at a e = absurd cc

    -- ---- all actions

    -- a line is an action where it does something
    counted : (line : Line) → length (cons_option (action_of i racing script names line) [])
        ≡ (if is_action line then 1 else 0)
    counted (Do phrase) = refl
    counted (Temp t size) = refl
    counted (Ocall r q g args) = refl
    counted line = refl

    temporary-counted : (line : Line) → length (cons_option (temporary_name line) []) ≡ (if is_temporary line then 1
        else 0)
    temporary-counted (Temp t size) = refl
    temporary-counted line = refl

    length-cons : {A : Type 0} (o : Option A) (xs : List A) → length (cons_option o xs) ≡ length (cons_option o [])
        + length xs
    length-cons None xs = omega arith
    length-cons (Some x) xs = omega arith

    count-actions : (ls : List Line) → length (filter_map (action_of i racing script names) ls) ≡ count_by is_action ls
    count-actions [] = refl
    count-actions (line ∷ ls) =
        let a = length-cons (action_of i racing script names line) (filter_map (action_of i racing script names) ls) in
        let c = sum_by-cons (λ x. if is_action x then 1 else 0) line ls in
        let d = counted line in
        let e = count-actions ls in
        omega arith

    count-temporaries : (ls : List Line) → length (filter_map temporary_name ls) ≡ count_by is_temporary ls
    count-temporaries [] = refl
    count-temporaries (line ∷ ls) =
        let a = length-cons (temporary_name line) (filter_map temporary_name ls) in
        let c = sum_by-cons (λ x. if is_temporary x then 1 else 0) line ls in
        let d = temporary-counted line in
        let e = count-temporaries ls in
        omega arith

    abbrev acts_among : List PlacedLine → List Action
    acts_among ls = filter_map (action_of i racing script names) (of_block n ls)

    -- the actions are sound, and so many of them make temporary blocks as lines name
    record AreDone (ls : List PlacedLine) : Type 0 where
      pub sound : AreSoundActions i (setting_in (lines_of script) cells) f (length temporaries) (acts_among ls)
      pub made : length (filter is_temporary_action (acts_among ls)) ≡ count_by is_temporary (of_block n ls)

    skipped : (line : Line) → action_of i racing script names line ≡ None → is_temporary line ≡ false
    skipped (Do phrase) e = absurd cc
    skipped (Temp t size) e = absurd cc
    skipped (Ocall r q g args) e = absurd cc
    skipped line e = refl

    done-cons : (ls : List PlacedLine) (line : Line) (o : Option Action) → action_of i racing script names line ≡ o
        → ((a : Action) → o ≡ Some a → IsDone (count_by is_action (of_block n ls)) line a) → AreDone ls
        → AreSoundActions i (setting_in (lines_of script) cells) f (length temporaries) (cons_option o (acts_among ls))
        × (length (filter is_temporary_action (cons_option o (acts_among ls))) ≡ count_by is_temporary (line
        ∷ of_block n ls))
    done-cons ls line None e h rest =
        let c = sum_by-cons (λ x. if is_temporary x then 1 else 0) line (of_block n ls) in
        let none : ◌≡◌ {A = ℕ} (if is_temporary line then 1 else 0) 0 = rw (skipped line e) refl in
        let made = rest.made in
        (rest.sound, omega arith)
    done-cons ls line (Some a) e h rest =
        let done = h a refl in
        let c = sum_by-cons (λ x. if is_temporary x then 1 else 0) line (of_block n ls) in
        let left = count-actions (of_block n ls) in
        let made = rest.made in (
          (
            subst (λ m. IsSoundAction i (setting_in (lines_of script) cells) f (length temporaries) m a) (sym left)
                done.0,
            rest.sound,
          ),
          ends (is_temporary_action a) done.1 c made,
        )
      where
        ends : (t : Bool) → t ≡ is_temporary line
            → count_by is_temporary (line ∷ of_block n ls) ≡ (if is_temporary line then 1 else 0)
            + count_by is_temporary (of_block n ls)
            → length (filter is_temporary_action (acts_among ls)) ≡ count_by is_temporary (of_block n ls)
            → length (if t then a ∷ filter is_temporary_action (acts_among ls)
            else filter is_temporary_action (acts_among ls)) ≡ count_by is_temporary (line ∷ of_block n ls)
        ends true k c made = let one : ◌≡◌ {A = ℕ} (if is_temporary line then 1 else 0) 1 = rw (← k) refl in omega arith
        ends false k c made =
            let one : ◌≡◌ {A = ℕ} (if is_temporary line then 1 else 0) 0 = rw (← k) refl in omega arith

    abbrev IsDoneBy : List Line → Type 0
    IsDoneBy xs =
        AreSoundActions i (setting_in (lines_of script) cells) f (length temporaries)
        (filter_map (action_of i racing script names) xs)
        × (length (filter is_temporary_action (filter_map (action_of i racing script names) xs))
        ≡ count_by is_temporary xs)

    all-done : (before ls : List PlacedLine) → before ++ ls ≡ script → AreFine i racing script before ls → AreDone ls
    all-done before [] w q = record { sound = tt; made = refl }
    all-done before (l ∷ ls) w q =
        go (home l == n) refl (all-done (before ++ l ∷ []) ls (append_assoc before (l ∷ []) ls ∙ w) q.1)
      where
        s : Standing
        s = record { before = before; here = l; behind = ls }

        go : (t : Bool) → (home l == n) ≡ t → AreDone ls → AreDone (l ∷ ls)
        go true e rest =
            let fine = fine-as i racing script s q.0.line q.0 q.0.here in
            let among : IsIn script l = is-in script before l ls w in
            let one = done-cons ls q.0.line (action_of i racing script names q.0.line) refl
            (λ a k. done-is s q.0.line fine q.0.here (block l among e) e a k) rest in
            let lines-are : q.0.line ∷ of_block n ls ≡ of_block n (l ∷ ls) =
            ap (λ o. cons_option o (of_block n ls)) (sym q.0.here)
            ∙ ap (λ x. lines_of (if x then l ∷ filter (λ l. home l == n) ls else filter (λ l. home l == n) ls))
            (sym e) in
            let both = subst IsDoneBy lines-are one in
            record { sound = both.0; made = both.1 }
        go false e rest =
            let lines-are : of_block n ls ≡ of_block n (l ∷ ls) =
            ap (λ x. lines_of (if x then l ∷ filter (λ l. home l == n) ls else filter (λ l. home l == n) ls))
            (sym e) in
            let both = subst IsDoneBy lines-are (rest.sound, rest.made) in
            record { sound = both.0; made = both.1 }

    -- ---- limits

    block-limit : (kind : Line → Bool) (most : ℕ) → ((s : Standing) (line : Line) → IsFineAs i racing script s line
        → (kind line && nat_le most (count_by kind (beside s s.before))) ≡ false)
        → (before ls : List PlacedLine) → AreFine i racing script before ls → count_by kind (of_block n before) ≤ most
        → count_by kind (of_block n before) + count_by kind (of_block n ls) ≤ most
    block-limit kind most h before [] q c = omega arith
    block-limit kind most h before (l ∷ ls) q c =
        go (home l == n) refl (block-limit kind most h (before ++ l ∷ []) ls q.1)
      where
        s : Standing
        s = record { before = before; here = l; behind = ls }

        one : (t : Bool) → kind q.0.line ≡ t → (t && nat_le most (count_by kind (of_block n before))) ≡ false
            → count_by kind (of_block n before) + (if kind q.0.line then 1 else 0) ≤ most
        one true k e = let less = leb-false most (count_by kind (of_block n before)) e in rw k (omega arith)
        one false k e = rw k (omega arith)

        go : (t : Bool) → (home l == n) ≡ t
            → (count_by kind (of_block n (before ++ l ∷ [])) ≤ most
            → count_by kind (of_block n (before ++ l ∷ [])) + count_by kind (of_block n ls) ≤ most)
            → count_by kind (of_block n before) + count_by kind (of_block n (l ∷ ls)) ≤ most
        go true e rest =
            let beside-so = beside-is n s before (eqb-true (home l) n e) in
            let now =
            one (kind q.0.line) refl (subst (λ xs. (kind q.0.line && nat_le most (count_by kind xs)) ≡ false)
            beside-so (h s q.0.line (fine-as i racing script s q.0.line q.0 q.0.here))) in
            let own : of_block n (l ∷ []) ≡ q.0.line ∷ [] = ap (λ x. lines_of (if x then l ∷ [] else [])) e
            ∙ ap (λ o. cons_option o []) q.0.here in
            let all : of_block n (l ∷ ls) ≡ q.0.line ∷ of_block n ls =
            ap (λ x. lines_of (if x then l ∷ filter (λ l. home l == n) ls else filter (λ l. home l == n) ls)) e
            ∙ ap (λ o. cons_option o (of_block n ls)) q.0.here in
            let more : count_by kind (of_block n (before ++ l ∷ [])) ≡ count_by kind (of_block n before)
            + count_by kind (q.0.line ∷ []) =
            ap (count_by kind) (of_block-append n before (l ∷ []) ∙ ap (λ xs. of_block n before ++ xs) own)
            ∙ sum_by-append (λ x. if kind x then 1 else 0) (of_block n before) (q.0.line ∷ []) in
            let single : count_by kind (q.0.line ∷ []) ≡ (if kind q.0.line then 1 else 0) =
            sum_by-cons (λ x. if kind x then 1 else 0) q.0.line [] ∙ omega arith in
            let split : count_by kind (of_block n (l ∷ ls)) ≡ (if kind q.0.line then 1 else 0)
            + count_by kind (of_block n ls) =
            ap (count_by kind) all ∙ sum_by-cons (λ x. if kind x then 1 else 0) q.0.line (of_block n ls) in
            let r = rest (omega arith) in
            omega arith
        go false e rest =
            let own : of_block n (l ∷ []) ≡ [] = ap (λ x. lines_of (if x then l ∷ [] else [])) e in
            let all : of_block n (l ∷ ls) ≡ of_block n ls =
            ap (λ x. lines_of (if x then l ∷ filter (λ l. home l == n) ls else filter (λ l. home l == n) ls)) e in
            let more : count_by kind (of_block n (before ++ l ∷ [])) ≡ count_by kind (of_block n before) =
            ap (count_by kind) (of_block-append n before (l ∷ []) ∙ ap (λ xs. of_block n before ++ xs) own
            ∙ append-nil (of_block n before)) in
            let split : count_by kind (of_block n (l ∷ ls)) ≡ count_by kind (of_block n ls) = ap (count_by kind) all in
            let r = rest (omega arith) in
            omega arith

    body-done : AllByRecursion (IsFine i racing script) (standings script)
        → IsSoundBody i (setting_in (lines_of script) cells) f (body_of_lines i racing script f all_lines)
    body-done fine =
        let done = all-done [] script refl fine in
        let many = count-temporaries all_lines in
        let some = count-actions all_lines in
        let made = done.made in
        let same : length temporaries ≡ length (filter is_temporary_action (acts_among script)) = omega arith in
        record {
          few =
              let c =
              block-limit is_action max_actions
              (λ s line g. (within-limits s line g.rules.1.1.1.1.1.1.1.1.1.1.1.1.1.1.1.0).actions) [] script fine
              (omega arith) in
              omega arith;
          few_temporaries =
              let c =
              block-limit is_temporary max_temporaries
              (λ s line g. (within-limits s line g.rules.1.1.1.1.1.1.1.1.1.1.1.1.1.1.1.0).temporaries) [] script
              fine (omega arith) in
              omega arith;
          actions =
              subst (λ m. AreSoundActions i (setting_in (lines_of script) cells) f m (acts_among script)) same
              done.sound;
        }

  -- ---- all bodies

  module _ (nested : AreNested script) (fine : AllByRecursion (IsFine i racing script) (standings script)) where
    body-line : (line : Line) (name : Word) → body_name line ≡ Some name → line ≡ body_line name
    body-line (body_line name) n e = ap (λ o. body_line (unwrap_or o name)) e
    body-line line n e = absurd cc

    body-is : (k : ℕ) (f : Function) → slice_get i.ecalls k ≡ Some f
        → IsSoundBody i (setting_in (lines_of script) cells) f
        (body_at i racing script f (opening_of i racing script body_name i.ecalls k))
    body-is k f e = go (find (names_ordinal body_name i.ecalls k) script) refl
      where
        go : (o : Option PlacedLine) → find (names_ordinal body_name i.ecalls k) script ≡ o
            → IsSoundBody i (setting_in (lines_of script) cells) f
            (body_at i racing script f (option_map (λ l. l.number) o))
        go None h = record { few = omega arith; few_temporaries = omega arith; actions = tt }
        go (Some l) h =
            let o = opening-is script body_name i.ecalls k l h in
            let is : l.line ≡ Some (body_line o.1.name) = o.1.is_line
            ∙ ap (λ x. Some x) (body-line o.1.line o.1.name o.1.is_named) in
            let g = fine-at i racing script nested fine l (body_line o.1.name) o.0 is in
            let known = named-at i.ecalls o.1.name k f o.1.is_ordinal e in
            body-done l.number o.1.name f (record { number = l.number; opening = body_line o.1.name })
            (own-block i racing script nested fine l (body_line o.1.name) o.0 is
            (subst (λ x. IsOutside (scope_at x)) g.1 g.2.form)) refl known fine

    pub sound-bodies : AllZip (IsSoundBody i (setting_in (lines_of script) cells)) i.ecalls
        (map (λ p. body_at i racing script p.1 (opening_of i racing script body_name i.ecalls p.0))
        (enumerate_from 0 i.ecalls))
    sound-bodies =
        zip-enumerated (IsSoundBody i (setting_in (lines_of script) cells))
        (λ p. body_at i racing script p.1 (opening_of i racing script body_name i.ecalls p.0)) 0 i.ecalls
        (λ k m f e g. body-is m f (subst (λ n. slice_get i.ecalls n ≡ Some f) (let z : k ≡ m = omega arith in z) g))
