-- The bodies of functions.
use Rattle.std.proofs.Common.{arith, ◌≡◌, ◌+◌, ◌^◌, ◌<◌, ◌≤◌, ◌-◌, get_or, take, drop, ℕ, zero, suc, Bool, true, false, List, [], ◌∷◌, ◌++◌, length, map, Option, Some, None, refl, ap, sym, subst, ◌∙◌, append_assoc, append-nil, eqb-true}
use Rattle.std.proofs.lemmas.List.{reverse-reverse}
use Rattle.std.specs.Prelude.{◌==◌, reverse, filter, filter_map, find, slice_get, slice_set, option_map, option_and_then, unwrap_or, nat_lt, if◌then◌else◌}
use Rattle.std.specs.List.{AllByRecursion, cons_option, enumerate_from}
use Rattle.edl_interface.specs.declared.Interface.{Interface}
use Rattle.edl_interface.specs.declared.Function.{Function}
use Rattle.edl_interface.specs.declared.Param.{Param}
use Rattle.sgx_base.specs.Stores.{max_file_size}
use Rattle.std.proofs.lemmas.List.Elements.{recursion_from_All, filter_map-append}
use Rattle.edl_interface.specs.Sound.{IsSound, IsSoundFunction}
use Rattle.script_laws.proofs.BlockLaws.{at-place}
use Rattle.body_vm.specs.declared.Action.{Action}
use Rattle.body_vm.specs.declared.Body.{Body}
use Rattle.call_script.specs.Spelling.{Word}
use Rattle.call_script.specs.BodyNames.{BodyNames}
use Rattle.call_script.specs.Line.{Line, Body as body_line, Do, Temp, Ocall}
use Rattle.call_script.specs.Block.{PlacedLine, home}
use Rattle.call_script.specs.Standing.{lines_of, params_of, names_in, temporary_name, body_name}
use Rattle.call_script.specs.Meaning as meaning
use Rattle.script_values.specs.Calls.{IsActionOf}
use Rattle.script_blocks.specs.declared.lines.BlockLine.{BlockLine}
use Rattle.script_blocks.specs.Blocks.{HomeLine, home_line, is_of_block, block_lines, in_block, inside}
use Rattle.script_blocks.specs.Slots.{empty_slots, filled, first_given, is_free, is_for}
use Rattle.script_blocks.specs.Bodies.{action_of, temporaries_of, names_of, no_body, actions_of, body_of, bodied_at, body_by, filled_bodies, bodies_of}
use Rattle.script_blocks.proofs.LineLaws.{one_more, own, other, parts}
use Rattle.script_blocks.proofs.ActLaws.{given_in_block}
use Rattle.script_blocks.proofs.SlotLaws.{elsewhere, taken, given, end, each, given_alike, opening-is, is_its}

-- ---- line by line

temporaries-append : (xs ys : List HomeLine) → temporaries_of (xs ++ ys) ≡ temporaries_of xs ++ temporaries_of ys
unfolding temporaries_of
temporaries-append xs ys = filter_map-append (λ l. temporary_name l.line) xs ys

module _ (home : ℕ) where
  pub name_turn : (l : HomeLine) (rest : List HomeLine) → home ≤ l.home → (old new : List Word)
      → new ≡ old ++ temporaries_of (in_block home (l ∷ []))
      → new ++ temporaries_of (inside home rest) ≡ old ++ temporaries_of (inside home (l ∷ rest))
  name_turn l rest h old new e =
      ap (λ xs. xs ++ temporaries_of (inside home rest)) e
      ∙ append_assoc old (temporaries_of (in_block home (l ∷ []))) (temporaries_of (inside home rest))
      ∙ ap (λ xs. old ++ xs) (sym (temporaries-append (in_block home (l ∷ [])) (inside home rest)))
      ∙ ap (λ ls. old ++ temporaries_of ls) (sym (one_more home l rest h))

  pub own_name : (l : HomeLine) → l.home ≡ home → (old new : List Word) (name : Option Word)
      → name ≡ temporary_name l.line → new ≡ old ++ cons_option name []
      → new ≡ old ++ temporaries_of (in_block home (l ∷ []))
  unfolding temporaries_of
  own_name l h old new name e f =
      f ∙ ap (λ o. old ++ cons_option o []) e ∙ ap (λ ls. old ++ temporaries_of ls) (sym (own home l [] h))

  pub other_name : (l : HomeLine) → (l.home ≡ home → ⊥) → (old : List Word)
      → old ≡ old ++ temporaries_of (in_block home (l ∷ []))
  unfolding temporaries_of
  other_name l h old = sym (ap (λ ls. old ++ temporaries_of ls) (other home l [] h) ∙ append-nil old)

  pub names_end : (left : List HomeLine) (names all : List Word) → inside home left ≡ []
      → names ++ temporaries_of (inside home left) ≡ all → names ≡ all
  unfolding temporaries_of
  names_end left names all e h = sym (ap (λ ls. names ++ temporaries_of ls) e ∙ append-nil names) ∙ h

module _ (i : Interface) (names : BodyNames) where
  actions-append : (xs ys : List HomeLine)
      → actions_of i names (xs ++ ys) ≡ actions_of i names xs ++ actions_of i names ys
  unfolding actions_of
  actions-append xs ys = filter_map-append (λ l. action_of i names l.line) xs ys

  module _ (home : ℕ) where
    pub action_turn : (l : HomeLine) (rest : List HomeLine) → home ≤ l.home → (old new : List Action)
        → new ≡ old ++ actions_of i names (in_block home (l ∷ []))
        → new ++ actions_of i names (inside home rest) ≡ old ++ actions_of i names (inside home (l ∷ rest))
    action_turn l rest h old new e =
        ap (λ xs. xs ++ actions_of i names (inside home rest)) e
        ∙ append_assoc old (actions_of i names (in_block home (l ∷ []))) (actions_of i names (inside home rest))
        ∙ ap (λ xs. old ++ xs) (sym (actions-append (in_block home (l ∷ [])) (inside home rest)))
        ∙ ap (λ ls. old ++ actions_of i names ls) (sym (one_more home l rest h))

    pub own_action : (l : HomeLine) → l.home ≡ home → (old new : List Action) (action : Option Action)
        → action ≡ action_of i names l.line → new ≡ old ++ cons_option action []
        → new ≡ old ++ actions_of i names (in_block home (l ∷ []))
    unfolding actions_of
    own_action l h old new action e f =
        f ∙ ap (λ o. old ++ cons_option o []) e ∙ ap (λ ls. old ++ actions_of i names ls) (sym (own home l [] h))

    pub other_action : (l : HomeLine) → (l.home ≡ home → ⊥) → (old : List Action)
        → old ≡ old ++ actions_of i names (in_block home (l ∷ []))
    unfolding actions_of
    other_action l h old = sym (ap (λ ls. old ++ actions_of i names ls) (other home l [] h) ∙ append-nil old)

    pub actions_end : (left : List HomeLine) (actions all : List Action) → inside home left ≡ []
        → actions ++ actions_of i names (inside home left) ≡ all → actions ≡ all
    unfolding actions_of
    actions_end left actions all e h = sym (ap (λ ls. actions ++ actions_of i names ls) e ∙ append-nil actions) ∙ h

-- ---- slices

module _ (home : ℕ) (left : List BlockLine) (x : BlockLine) (long : 1 ≤ length left) (is : x ≡ get_or left 0 x)
    (here : home ≤ x.home) where
  pub names_step : (old new all : List Word) → new ≡ old ++ temporaries_of (in_block home (home_line x ∷ []))
      → old ++ temporaries_of (inside home (map home_line left)) ≡ all
      → new ++ temporaries_of (inside home (map home_line (take (length left - 1) (drop 1 left)))) ≡ all
  names_step old new all e h =
      name_turn home (home_line x) (map home_line (take (length left - 1) (drop 1 left))) here old new e
      ∙ ap (λ ls. old ++ temporaries_of (inside home ls)) (sym (parts left x long is)) ∙ h

  pub actions_step : (i : Interface) (names : BodyNames) (old new all : List Action)
      → new ≡ old ++ actions_of i names (in_block home (home_line x ∷ []))
      → old ++ actions_of i names (inside home (map home_line left)) ≡ all
      → new ++ actions_of i names (inside home (map home_line (take (length left - 1) (drop 1 left)))) ≡ all
  actions_step i names old new all e h =
      action_turn i names home (home_line x) (map home_line (take (length left - 1) (drop 1 left))) here old new e
      ∙ ap (λ ls. old ++ actions_of i names (inside home ls)) (sym (parts left x long is)) ∙ h

-- ---- how many

few-inside : (n : ℕ) (ls : List HomeLine) → length (inside n ls) ≤ length ls
unfolding inside
few-inside n [] = omega arith
few-inside n (l ∷ ls) = go (nat_lt l.home n) (l.home == n) (few-inside n ls)
  where
    go : (s t : Bool) → length (inside n ls) ≤ length ls
        → length (if s then [] else (if t then l ∷ inside n ls else inside n ls)) ≤ length (l ∷ ls)
    go true t h = omega arith
    go false true h = omega (arith, h)
    go false false h = omega (arith, h)

few-names : (ls : List HomeLine) → length (temporaries_of ls) ≤ length ls
unfolding temporaries_of
few-names [] = omega arith
few-names (l ∷ ls) = go (temporary_name l.line) (few-names ls)
  where
    go : (o : Option Word) → length (filter_map (λ (k : HomeLine). temporary_name k.line) ls) ≤ length ls
        → length (cons_option o (filter_map (λ (k : HomeLine). temporary_name k.line) ls)) ≤ length (l ∷ ls)
    go None h = omega (arith, h)
    go (Some w) h = omega (arith, h)

pub few_temporaries : (n : ℕ) (ls : List HomeLine) → length (temporaries_of (inside n ls)) ≤ length ls
few_temporaries n ls = let a = few-names (inside n ls) in let b = few-inside n ls in omega (arith, a, b)

-- ---- slots

module _ (i : Interface) (all : List HomeLine) (l : HomeLine) (ls : List HomeLine) (slots : List (Option Body)) where
  pub body_elsewhere : bodied_at i all l ≡ None → filled_bodies i all slots ls ≡ filled_bodies i all slots (l ∷ ls)
  unfolding filled_bodies
  body_elsewhere e = elsewhere (bodied_at i all) (body_by i all) l ls slots e

  pub body_taken : (k : ℕ) → bodied_at i all l ≡ Some k → is_free (slice_get slots k) ≡ false
      → filled_bodies i all slots ls ≡ filled_bodies i all slots (l ∷ ls)
  unfolding filled_bodies
  body_taken k e h = taken (bodied_at i all) (body_by i all) l ls slots k e h

  pub body_given : (k : ℕ) → bodied_at i all l ≡ Some k → is_free (slice_get slots k) ≡ true → (body : Body)
      (f : Option Function) (lines : List HomeLine) → f ≡ slice_get i.ecalls k
      → in_block l.number all ≡ lines → body ≡ body_of i f lines
      → filled_bodies i all (slice_set slots k (Some body)) ls ≡ filled_bodies i all slots (l ∷ ls)
  unfolding filled_bodies
  body_given k e h body f lines g m b =
      let function : f ≡ option_and_then (slice_get i.ecalls) (bodied_at i all l) =
      g ∙ ap (option_and_then (slice_get i.ecalls)) (sym e) in
      let same : body ≡ body_by i all l =
      b ∙ ap (λ o. body_of i o lines) function
      ∙ ap (body_of i (option_and_then (slice_get i.ecalls) (bodied_at i all l))) (sym m) in
      ap (λ x. filled (bodied_at i all) (body_by i all) (slice_set slots k (Some x)) ls) same
      ∙ given (bodied_at i all) (body_by i all) l ls slots k e h

pub bodies_end : (i : Interface) (all left : List HomeLine) (slots filling : List (Option Body)) → left ≡ []
    → filled_bodies i all slots left ≡ filling → slots ≡ filling
unfolding filled_bodies
bodies_end i all left slots filling e h =
    sym (ap (λ ls. filled (bodied_at i all) (body_by i all) slots ls) e ∙ end (bodied_at i all) (body_by i all) slots)
    ∙ h

pub bodies_step : (i : Interface) (all : List HomeLine) (left : List BlockLine) (x : BlockLine) → 1 ≤ length left
    → x ≡ get_or left 0 x → (slots new filling : List (Option Body))
    → ((rest : List HomeLine) → filled_bodies i all new rest ≡ filled_bodies i all slots (home_line x ∷ rest))
    → filled_bodies i all slots (map home_line left) ≡ filling
    → filled_bodies i all new (map home_line (take (length left - 1) (drop 1 left))) ≡ filling
bodies_step i all left x long is slots new filling e h =
    e (map home_line (take (length left - 1) (drop 1 left)))
    ∙ ap (λ ls. filled_bodies i all slots ls) (sym (parts left x long is)) ∙ h

pub bodies_from : (i : Interface) (all : List HomeLine) (old bodies : List Body) (slots turned : List (Option Body))
    → slots ≡ filled_bodies i all (empty_slots Body i.ecalls) all → turned ≡ reverse slots → old ≡ []
    → bodies ≡ old ++ map (λ slot. unwrap_or slot no_body) (reverse turned) → bodies ≡ bodies_of i all
unfolding bodies_of
bodies_from i all old bodies slots turned e t o h =
    h ∙ ap (λ xs. xs ++ map (λ slot. unwrap_or slot no_body) (reverse turned)) o
    ∙ ap (λ xs. map (λ slot. unwrap_or slot no_body) (reverse xs)) t
    ∙ ap (map (λ slot. unwrap_or slot no_body)) (reverse-reverse slots) ∙ ap (map (λ slot. unwrap_or slot no_body)) e

pub few_behind : (left : List BlockLine) (x : BlockLine) → 1 ≤ length left → x ≡ get_or left 0 x → (most : ℕ)
    → length (map home_line left) ≤ most → length (map home_line (take (length left - 1) (drop 1 left))) ≤ most
few_behind left x long is most h = let e = ap length (parts left x long is) in omega (arith, e, h)

pub fits_names : (ps slice-ps : List Param) (ts slice : List Word) (n : ℕ) (ls : List HomeLine) → slice-ps ≡ ps
    → length ps ≤ 64 → slice ≡ ts → ts ≡ temporaries_of (inside n ls) → length ls ≤ max_file_size
    → length slice-ps + length slice < 2 ^ 32
fits_names ps slice-ps ts slice n ls a b c d e =
    let few = few_temporaries n ls in
    let same : length slice ≡ length (temporaries_of (inside n ls)) = ap length (c ∙ d) in
    let params : length slice-ps ≡ length ps = ap length a in omega (arith, few, same, params, b, e)

-- ---- the bodies of a script

fused : {B : Type 0} (g : Line → Option B) (ls : List PlacedLine)
    → filter_map g (lines_of ls) ≡ filter_map (λ l. option_and_then g l.line) ls
fused g [] = refl
fused g (l ∷ ls) = go l.line refl (fused g ls)
  where
    go : (o : Option Line) → l.line ≡ o
        → filter_map g (lines_of ls) ≡ filter_map (λ (l : PlacedLine). option_and_then g l.line) ls
        → filter_map g (lines_of (l ∷ ls)) ≡ filter_map (λ (l : PlacedLine). option_and_then g l.line) (l ∷ ls)
    go None e h = rw e h
    go (Some line) e h = rw e (ap (cons_option (g line)) h)

no-temporary : (line : Line) → is_of_block line ≡ false → temporary_name line ≡ None
no-temporary (Temp name size) e = absurd cc
no-temporary line e = refl

no-action : (i : Interface) (names : BodyNames) (line : Line) → is_of_block line ≡ false → action_of i names line ≡ None
no-action i names (Do phrase) e = absurd cc
no-action i names (Temp name size) e = absurd cc
no-action i names (Ocall r q name args) e = absurd cc
no-action i names line e = refl

no-body : (line : Line) → is_of_block line ≡ false → body_name line ≡ None
no-body (body_line name) e = absurd cc
no-body line e = refl

module _ (i : Interface) (racing : Bool) (script : List PlacedLine) where
  same-action : (names : BodyNames) (line : Line) → meaning.action_of i racing script names line ≡ action_of i names line
  same-action names (Do phrase) = refl
  same-action names (Temp name size) = refl
  same-action names (Ocall r q name args) = refl
  same-action names line = refl

  same-actions : (names : BodyNames) (ls : List Line)
      → filter_map (meaning.action_of i racing script names) ls ≡ filter_map (action_of i names) ls
  same-actions names [] = refl
  same-actions names (line ∷ ls) = rw (same-action names line) (ap (cons_option (action_of i names line)) (same-actions names ls))

  abbrev its_lines : ℕ → List Line
  its_lines n = lines_of (meaning.lines_in i racing script n)

  temporaries-are : (n : ℕ)
      → filter_map temporary_name (its_lines n) ≡ temporaries_of (in_block n (block_lines script))
  unfolding temporaries_of
  temporaries-are n =
      fused temporary_name (meaning.lines_in i racing script n)
      ∙ given_in_block (λ m line. temporary_name line) (λ m line e. no-temporary line e) n script

  actions-are : (names : BodyNames) (n : ℕ)
      → filter_map (meaning.action_of i racing script names) (its_lines n)
      ≡ actions_of i names (in_block n (block_lines script))
  unfolding actions_of
  actions-are names n =
      same-actions names (its_lines n) ∙ fused (action_of i names) (meaning.lines_in i racing script n)
      ∙ given_in_block (λ m line. action_of i names line) (λ m line e. no-action i names line e) n script

  body-is : (f : Function) (n : ℕ)
      → meaning.body_of_lines i racing script f (its_lines n) ≡ body_of i (Some f) (in_block n (block_lines script))
  unfolding body_of
  body-is f n =
      let names : names_in (Some f) (its_lines n) ≡ names_of (Some f) (in_block n (block_lines script)) =
      ap (λ ts. record { params = f.params; temporaries = ts }) (temporaries-are n) in
      ap (λ actions. record { actions = actions })
      (ap (λ x. filter_map (meaning.action_of i racing script x) (its_lines n)) names
      ∙ actions-are (names_of (Some f) (in_block n (block_lines script))) n)

  abbrev at : HomeLine → Option ℕ
  at = bodied_at i (block_lines script)

  abbrev by : HomeLine → Body
  by = body_by i (block_lines script)

  -- what a line gives to the function that it names
  its-body : (k : ℕ) (f : Function) → slice_get i.ecalls k ≡ Some f → (l : HomeLine) → is_for at by k l ≡ true
      → by l ≡ body_of i (Some f) (in_block l.number (block_lines script))
  its-body k f e l h = go (at l) refl h
    where
      go : (o : Option ℕ) → at l ≡ o → unwrap_or (option_map (λ j. j == k) o) false ≡ true
          → body_of i (option_and_then (slice_get i.ecalls) (at l)) (in_block l.number (block_lines script))
          ≡ body_of i (Some f) (in_block l.number (block_lines script))
      go None g h = absurd cc
      go (Some j) g h =
          let same : j ≡ k = eqb-true j k h in
          ap (λ o. body_of i o (in_block l.number (block_lines script)))
          (ap (option_and_then (slice_get i.ecalls)) g ∙ ap (slice_get i.ecalls) same ∙ e)

  body-at : (k : ℕ) (f : Function) → slice_get i.ecalls k ≡ Some f
      → unwrap_or (first_given at by k (block_lines script)) no_body
      ≡ meaning.body_at i racing script f (meaning.opening_of i racing script body_name i.ecalls k)
  body-at k f e =
      ap (λ o. unwrap_or o no_body)
      (given_alike at by k (λ l. body_of i (Some f) (in_block l.number (block_lines script))) (block_lines script)
      (its-body k f e))
      ∙ go (find (is_its body_name no-body i.ecalls k) (block_lines script))
      (find (meaning.names_ordinal body_name i.ecalls k) script) (opening-is body_name no-body i.ecalls k script)
    where
      go : (o : Option HomeLine) (p : Option PlacedLine)
          → option_map (λ (l : HomeLine). l.number) o ≡ option_map (λ (l : PlacedLine). l.number) p
          → unwrap_or (option_map (λ (l : HomeLine). body_of i (Some f) (in_block l.number (block_lines script))) o) no_body
          ≡ meaning.body_at i racing script f (option_map (λ l. l.number) p)
      go None None e = refl
      go None (Some p) e = absurd cc
      go (Some l) None e = absurd cc
      go (Some l) (Some p) e =
          let same : l.number ≡ p.number = ap (λ o. unwrap_or o 0) e in
          ap (λ n. body_of i (Some f) (in_block n (block_lines script))) same ∙ sym (body-is f p.number)

  pub bodies-are : bodies_of i (block_lines script)
      ≡ map (λ p. meaning.body_at i racing script p.1 (meaning.opening_of i racing script body_name i.ecalls p.0))
      (enumerate_from 0 i.ecalls)
  unfolding bodies_of filled_bodies
  bodies-are =
      each at by (λ slot. unwrap_or slot no_body)
      (λ k f. meaning.body_at i racing script f (meaning.opening_of i racing script body_name i.ecalls k))
      (block_lines script) i.ecalls body-at

-- ---- parameters

pub few_params : (i : Interface) → IsSound i → (k : ℕ) (o : Option Function) → o ≡ slice_get i.ecalls k
    → length (params_of o) ≤ 64
few_params i sound k None e = omega arith
few_params i sound k (Some f) e =
    let all : AllByRecursion (IsSoundFunction (length i.ecalls)) i.ecalls =
    recursion_from_All (IsSoundFunction (length i.ecalls)) i.ecalls sound.ecalls in
    (at-place (IsSoundFunction (length i.ecalls)) i.ecalls k f all (sym e)).params

-- ---- actions

pub its_temporary : (i : Interface) (names : BodyNames) (name size : Word) (action : Action)
    → ((ocalls : List Function) → IsActionOf ocalls names (Temp name size) action)
    → Some action ≡ action_of i names (Temp name size)
its_temporary i names name size action h = sym (h i.ocalls i false [] refl)

pub its_ocall : (i : Interface) (names : BodyNames) (r q name : Word) (args words : List Word) (ocalls : List Function)
    (action : Action) → ocalls ≡ i.ocalls → words ≡ args → IsActionOf ocalls names (Ocall r q name words) action
    → Some action ≡ action_of i names (Ocall r q name args)
its_ocall i names r q name args words ocalls action e f h =
    sym (h i false [] (sym e)) ∙ ap (λ a. action_of i names (Ocall r q name a)) f
