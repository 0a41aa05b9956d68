-- Enumerators, after the last of which a comma may stand.
use Rattle.std.proofs.Common.{arith, append_assoc, append-nil, inl, inr, ◌≡◌, ◌≤◌, ◌<◌, ◌+◌, ℕ, zero, suc, Bool, true, false, List, [], ◌∷◌, ◌++◌, length, length-append, refl, sym, ◌∙◌, ap, subst, Ok, Err}
use Prim.Native.String.{String}
use Rattle.edl_grammar.specs.declared.EnumValue.{EnumValue}
use Rattle.edl_grammar.specs.Symbols.{Mark, Lexed}
use Rattle.edl_grammar.specs.Production.{Production, Then}
use Rattle.edl_grammar.specs.Production as spell
use Rattle.edl_grammar.specs.Grammar as grammar
use Rattle.edl_grammar.specs.Parser.{Parser, Outcome, and_then, sees, is_word, is_mark, is_name, values_within}
use Rattle.edl_grammar.specs.Parser as parse
use Rattle.edl_grammar.proofs.Agrees.{Agrees, anywhere, Ends, before, IsSteady, agrees_by, agrees_where, pure_agrees, bind_agrees, either_agrees}
use Rattle.edl_grammar.proofs.Tokens.{mark_agrees, mark_is}
use Rattle.edl_grammar.proofs.Heads.{Leads, Keeps, then_begins, mark_begins, name_begins, keeps_pure, then_leads, mark_leads, is_name_true}
use Rattle.edl_grammar.proofs.Many.{with_front-append}
use Rattle.edl_grammar.proofs.Productions.{as_front, at_mark, enum_value_agrees, shrinks}

brace_not : (k : String) → is_mark k (Mark 125) ≡ false → (rest : List Lexed) → at_mark "}" rest ≡ true → sees (is_mark k) rest ≡ false
brace_not k d [] e = refl
brace_not k d (x ∷ xs) e = rw (mark_is "}" x.symbol e) d

brace_no_name : (rest : List Lexed) → at_mark "}" rest ≡ true → sees is_name rest ≡ false
brace_no_name [] e = refl
brace_no_name (x ∷ xs) e = rw (mark_is "}" x.symbol e) refl

-- at most n values, the last with a comma or without
abbrev values : ℕ → Production (List EnumValue)
values zero = spell.pure []
values (suc n) = spell.◌<|>◌ (Then grammar.enum_value (λ v. Then (spell.◌<|>◌ (Then (spell.mark ",") (λ _. values n)) (spell.pure [])) (λ vs. spell.pure (v ∷ vs)))) (spell.pure [])

abbrev rest_of : ℕ → Production (List EnumValue)
rest_of n = spell.◌<|>◌ (Then (spell.mark ",") (λ _. values n)) (spell.pure [])

abbrev no_value : Ends
no_value = before (is_mark "=") anywhere

value_begins : Leads grammar.enum_value (sees is_name)
value_begins = then_begins is_name (name_begins is_name is_name_true)

at_brace : {A : Type 0} (a : A) → Agrees (spell.pure a) (parse.pure a) (at_mark "}")
at_brace a = agrees_where (at_mark "}") (λ rest e. refl) (pure_agrees a)

values_agree : (n : ℕ) → Agrees (values n) (values_within n) (at_mark "}")
values_agree zero = at_brace []
values_agree (suc n) =
    either_agrees is_name
    (bind_agrees enum_value_agrees (λ v.
    bind_agrees
    (either_agrees (is_mark ",") (bind_agrees (mark_agrees ",") (λ _. values_agree n) (λ a back rest b d e. refl)) (at_brace [])
    (then_begins (is_mark ",") (mark_begins "," (is_mark ",") refl)) (λ front rest a d e. rw d.0 (brace_not "," refl rest e)))
    (λ vs. at_brace (v ∷ vs)) (λ vs. keeps_pure (v ∷ vs) (at_mark "}") (at_mark "}") (λ rest e. e)))
    meets)
    (at_brace [])
    (then_begins is_name value_begins)
    (λ front rest a d e. rw d.0 (brace_no_name rest e))
  where
    comma_or_end : (front rest : List Lexed) (vs : List EnumValue) → rest_of n front vs → at_mark "}" rest ≡ true → no_value (front ++ rest) ≡ true
    comma_or_end front rest vs (inl d) e = then_leads no_value (mark_leads "," no_value (λ n rest. refl)) front rest vs d
    comma_or_end front rest vs (inr d) e = rw (d.0, brace_not "=" refl rest e) refl

    meets : (v : EnumValue) → Keeps (Then (rest_of n) (λ vs. spell.pure (v ∷ vs))) no_value (at_mark "}")
    meets v back rest b d e = rw (d.split, append_assoc d.front d.back rest) (comma_or_end d.front (d.back ++ rest) d.value d.first (rw d.rest.0 e))

-- ---- any two numbers that are large enough

abbrev Same : ℕ → Type 0
Same n = (m : ℕ) (ss : List Lexed) → length ss ≤ n → length ss ≤ m → values_within n ss ≡ values_within m ss

abbrev after_value : ℕ → EnumValue → List Lexed → Outcome (List EnumValue)
after_value n v mid = and_then (parse.if_next (is_mark ",") (parse.◌>>◌ (parse.mark ",") (values_within n)) (parse.pure []) mid) (λ vs rest. Ok (v ∷ vs, rest))

same_after : (n m : ℕ) → Same n → (v : EnumValue) (mid : List Lexed) → length mid ≤ n → length mid ≤ m → after_value n v mid ≡ after_value m v mid
same_after n m ih v mid l l' = by (sees (is_mark ",") mid)
  where
    more : (r : Outcome ℕ) → parse.mark "," mid ≡ r → and_then r (λ _. values_within n) ≡ and_then r (λ _. values_within m)
    more (Err r) e = refl
    more (Ok (k, rest)) e = let s = shrinks (is_mark ",") (mark_agrees ",") (mark_begins "," (is_mark ",") refl) mid rest k e in ih m rest (omega arith) (omega arith)

    by : (b : Bool) → and_then (elim b as (λ _. Outcome (List EnumValue)) [ true ↦ and_then (parse.mark "," mid) (λ _. values_within n) | false ↦ Ok ([], mid) ]) (λ vs rest. Ok (v ∷ vs, rest))
        ≡ and_then (elim b as (λ _. Outcome (List EnumValue)) [ true ↦ and_then (parse.mark "," mid) (λ _. values_within m) | false ↦ Ok ([], mid) ]) (λ vs rest. Ok (v ∷ vs, rest))
    by true = ap (λ z. and_then z (λ vs rest. Ok (v ∷ vs, rest))) (more (parse.mark "," mid) refl)
    by false = refl

same_turn : (n m : ℕ) → Same n → (ss : List Lexed) → length ss ≤ suc n → length ss ≤ suc m → values_within (suc n) ss ≡ values_within (suc m) ss
same_turn n m ih ss l l' = by (sees is_name ss)
  where
    step : (r : Outcome EnumValue) → parse.enum_value ss ≡ r → and_then r (λ v mid. after_value n v mid) ≡ and_then r (λ v mid. after_value m v mid)
    step (Err r) e = refl
    step (Ok (v, mid)) e = let s = shrinks is_name enum_value_agrees value_begins ss mid v e in same_after n m ih v mid (omega arith) (omega arith)

    by : (b : Bool) → elim b as (λ _. Outcome (List EnumValue)) [ true ↦ and_then (parse.enum_value ss) (λ v mid. after_value n v mid) | false ↦ Ok ([], ss) ]
        ≡ elim b as (λ _. Outcome (List EnumValue)) [ true ↦ and_then (parse.enum_value ss) (λ v mid. after_value m v mid) | false ↦ Ok ([], ss) ]
    by true = step (parse.enum_value ss) refl
    by false = refl

same : (n : ℕ) → Same n
same zero zero ss l l' = refl
same zero (suc m) [] l l' = refl
same zero (suc m) (s ∷ ss) l l' = absurd (omega arith)
same (suc n) zero [] l l' = refl
same (suc n) zero (s ∷ ss) l l' = absurd (omega arith)
same (suc n) (suc m) ss l l' = same_turn n m (same n) ss l l'

-- more values are allowed
Wider : ℕ → Type 0
Wider n = (ss : List Lexed) (vs : List EnumValue) → values n ss vs → values (suc n) ss vs

wider_rest : (n : ℕ) → Wider n → (ss : List Lexed) (vs : List EnumValue) → rest_of n ss vs → rest_of (suc n) ss vs
unfolding Wider
wider_rest n ih ss vs (inr x) = inr x
wider_rest n ih ss vs (inl x) = inl (record { front = x.front; back = x.back; value = x.value; split = x.split; first = x.first; rest = ih x.back vs x.rest })

wider_step : (n : ℕ) → Wider n → Wider (suc n)
unfolding Wider
wider_step n ih ss vs (inr d) = inr d
wider_step n ih ss vs (inl d) = inl (record {
  front = d.front;
  back = d.back;
  value = d.value;
  split = d.split;
  first = d.first;
  rest = record { front = d.rest.front; back = d.rest.back; value = d.rest.value; split = d.rest.split; first = wider_rest n ih d.rest.front d.rest.value d.rest.first; rest = d.rest.rest };
})

wider_none : Wider 0
unfolding Wider
wider_none ss vs d = inr d

wider : (n : ℕ) → Wider n
wider zero = wider_none
wider (suc n) = wider_step n (wider n)

wider_by : (k n : ℕ) (ss : List Lexed) (vs : List EnumValue) → values n ss vs → values (k + n) ss vs
unfolding Wider
wider_by zero n ss vs d = let e : n ≡ 0 + n = omega arith in subst (λ z. values z ss vs) e d
wider_by (suc k) n ss vs d = let e : suc (k + n) ≡ suc k + n = omega arith in subst (λ z. values z ss vs) e (wider (k + n) ss vs (wider_by k n ss vs d))

-- ---- any number of values

abbrev Values : Production (List EnumValue)
Values ss vs = (n : ℕ) × values n ss vs

counted_agrees : Agrees Values parse.enum_values (at_mark "}")
counted_agrees = record {
  ok = λ ss rest vs e. (let x = (values_agree (length ss)).ok ss rest vs e in (x.0, x.1, (length ss, x.2)));
  err = λ ss rest e. (let x = (values_agree (length ss)).err ss rest e in (x.0, x.1, x.2, x.3, (length ss, x.4)));
  complete = complete;
  steady = λ ss t. subst (λ r. IsSteady t r (parse.enum_values (ss ++ t))) (same (length (ss ++ t)) (length ss) ss (omega (arith, length-append ss t)) (omega arith)) ((values_agree (length (ss ++ t))).steady ss t);
  alive = ([], [], (0, (refl, refl)));
}
  where
    complete : (front rest : List Lexed) (vs : List EnumValue) → Values front vs → at_mark "}" rest ≡ true → parse.enum_values (front ++ rest) ≡ Ok (vs, rest)
    complete front rest vs (n, d) e =
        same (length (front ++ rest)) (length (front ++ rest) + n) (front ++ rest) (omega arith) (omega arith)
        ∙ (values_agree (length (front ++ rest) + n)).complete front rest vs (wider_by (length (front ++ rest)) n front vs d) e

-- ---- the same as the grammar says

Others : Production (List EnumValue)
Others = spell.many (spell.◌>>◌ (spell.mark ",") grammar.enum_value)

-- others behind a value, and maybe a comma
rest_from : (others : List EnumValue) (front back : List Lexed) (b : Bool) → Others front others → spell.given (spell.mark ",") back b → (n : ℕ) × rest_of n (front ++ back) others
unfolding Others
rest_from [] front back false d e = (0, inr (ap (λ z. z ++ back) d ∙ e, refl))
rest_from [] front back true d e = (0, inl (record { front = back; back = []; value = e.0; split = ap (λ z. z ++ back) d ∙ sym (append-nil back); first = e.1; rest = (refl, refl) }))
rest_from (v ∷ others) front back b d e =
    let x = d.3 in let more = rest_from others d.1 back b d.4 e in (
      suc more.0,
      inl (record {
        front = x.front;
        back = x.back ++ (d.1 ++ back);
        value = x.value;
        split = ap (λ z. z ++ back) (d.2 ∙ ap (λ z. z ++ d.1) x.split) ∙ regroup x.front x.back d.1 back;
        first = x.first;
        rest = inl (record {
          front = x.back;
          back = d.1 ++ back;
          value = v;
          split = refl;
          first = x.rest;
          rest = record { front = d.1 ++ back; back = []; value = others; split = sym (append-nil (d.1 ++ back)); first = more.1; rest = (refl, refl) };
        });
      }),
    )
  where
    regroup : (a b c d : List Lexed) → ((a ++ b) ++ c) ++ d ≡ a ++ (b ++ (c ++ d))
    regroup a b c d = append_assoc (a ++ b) c d ∙ append_assoc a b (c ++ d)

from_values : (ss : List Lexed) (vs : List EnumValue) → grammar.enum_values ss vs → Values ss vs
unfolding Others
from_values ss vs (inr d) = (0, d)
from_values ss vs (inl d) =
    let f = d.first in let g = d.rest in
    let more = rest_from f.rest.value f.rest.front g.front g.value f.rest.first g.first in (
      suc more.0,
      inl (record {
        front = f.front;
        back = f.back ++ d.back;
        value = f.value;
        split = d.split ∙ ap (λ z. z ++ d.back) f.split ∙ append_assoc f.front f.back d.back;
        first = f.first;
        rest = record {
          front = f.rest.front ++ g.front;
          back = [];
          value = f.rest.value;
          split = ap (λ z. z ++ d.back) (f.rest.split ∙ ap (λ z. f.rest.front ++ z) f.rest.rest.0 ∙ append-nil f.rest.front) ∙ ap (λ z. f.rest.front ++ z) (g.split ∙ ap (λ z. g.front ++ z) g.rest.0 ∙ append-nil g.front) ∙ sym (append-nil (f.rest.front ++ g.front));
          first = more.1;
          rest = (refl, g.rest.1 ∙ f.rest.rest.1);
        };
      }),
    )

-- what stands behind a value, as the grammar cuts it
pub record Cut (ss : List Lexed) (vs : List EnumValue) : Type 0 where
  pub front : List Lexed
  pub back : List Lexed
  pub comma : Bool
  pub split : ss ≡ front ++ back
  pub others : spell.many (spell.◌>>◌ (spell.mark ",") grammar.enum_value) front vs
  pub last : spell.given (spell.mark ",") back comma

Cuts : ℕ → Type 0
Cuts n = (ss : List Lexed) (vs : List EnumValue) → rest_of n ss vs → Cut ss vs

no_others : (vs : List EnumValue) → vs ≡ [] → spell.many (spell.◌>>◌ (spell.mark ",") grammar.enum_value) [] vs
no_others vs e = subst (spell.many (spell.◌>>◌ (spell.mark ",") grammar.enum_value) []) (sym e) refl

-- a last comma
comma_alone : (ss front back : List Lexed) (vs : List EnumValue) (n : ℕ) → ss ≡ front ++ back → back ≡ [] → spell.mark "," front n → vs ≡ [] → Cut ss vs
comma_alone ss front back vs n cut e m none = record {
  front = [];
  back = ss;
  comma = true;
  split = refl;
  others = no_others vs none;
  last = (n, subst (λ z. spell.mark "," z n) (sym (cut ∙ ap (λ z. front ++ z) e ∙ append-nil front)) m);
}

cut_end : (ss : List Lexed) (vs : List EnumValue) → spell.pure [] ss vs → Cut ss vs
cut_end ss vs d = record { front = []; back = ss; comma = false; split = refl; others = no_others vs d.1; last = d.0 }

cut_none : Cuts 0
unfolding Cuts
cut_none ss vs (inr d) = cut_end ss vs d
cut_none ss vs (inl d) = comma_alone ss d.front d.back vs d.value d.split d.rest.0 d.first d.rest.1

cut_step : (n : ℕ) → Cuts n → Cuts (suc n)
unfolding Cuts
cut_step n ih ss vs (inr d) = cut_end ss vs d
cut_step n ih ss vs (inl d) = by d.rest
  where
    by : values (suc n) d.back vs → Cut ss vs
    by (inr e) = comma_alone ss d.front d.back vs d.value d.split e.0 d.first e.1
    by (inl e) =
        let c = ih e.rest.front e.rest.value e.rest.first in
        let others : spell.many (spell.◌>>◌ (spell.mark ",") grammar.enum_value) ((d.front ++ e.front) ++ c.front) (e.value ∷ e.rest.value)
        = (d.front ++ e.front, c.front, refl, record { front = d.front; back = e.front; value = d.value; split = refl; first = d.first; rest = e.first }, c.others) in
        record {
          front = (d.front ++ e.front) ++ c.front;
          back = c.back;
          comma = c.comma;
          split = d.split ∙ ap (λ z. d.front ++ z) (e.split ∙ ap (λ z. e.front ++ z) (e.rest.split ∙ ap (λ z. e.rest.front ++ z) e.rest.rest.0 ∙ append-nil e.rest.front ∙ c.split)) ∙ regroup d.front e.front c.front c.back;
          others = subst (spell.many (spell.◌>>◌ (spell.mark ",") grammar.enum_value) ((d.front ++ e.front) ++ c.front)) (sym e.rest.rest.1) others;
          last = c.last;
        }
      where
        regroup : (a b c d : List Lexed) → a ++ (b ++ (c ++ d)) ≡ ((a ++ b) ++ c) ++ d
        regroup a b c d = sym (append_assoc (a ++ b) c d ∙ append_assoc a b (c ++ d))

cut_rest : (n : ℕ) → Cuts n
cut_rest zero = cut_none
cut_rest (suc n) = cut_step n (cut_rest n)

to_values : (ss : List Lexed) (vs : List EnumValue) → Values ss vs → grammar.enum_values ss vs
unfolding Cuts
to_values ss vs (zero, d) = inr d
to_values ss vs (suc n, inr d) = inr d
to_values ss vs (suc n, inl d) =
    let c = cut_rest n d.rest.front d.rest.value d.rest.first in
    inl (record {
      front = d.front ++ c.front;
      back = c.back;
      value = d.value ∷ d.rest.value;
      split = d.split ∙ ap (λ z. d.front ++ z) (d.rest.split ∙ ap (λ z. d.rest.front ++ z) d.rest.rest.0 ∙ append-nil d.rest.front ∙ c.split) ∙ sym (append_assoc d.front c.front c.back);
      first = record { front = d.front; back = c.front; value = d.value; split = refl; first = d.first; rest = record { front = c.front; back = []; value = d.rest.value; split = sym (append-nil c.front); first = c.others; rest = (refl, refl) } };
      rest = record { front = c.back; back = []; value = c.comma; split = sym (append-nil c.back); first = c.last; rest = (refl, d.rest.rest.1) };
    })

pub enum_values_agree : Agrees grammar.enum_values parse.enum_values (at_mark "}")
enum_values_agree = agrees_by to_values from_values counted_agrees

-- ---- one more value, as a loop reads it

module _ (v : EnumValue) (mid : List Lexed) where
  value_step : (n : ℕ) (ss : List Lexed) → sees is_name ss ≡ true → parse.enum_value ss ≡ Ok (v, mid) → values_within (suc n) ss ≡ after_value n v mid
  value_step n ss t e =
      ap (λ b. elim b as (λ _. Outcome (List EnumValue)) [ true ↦ and_then (parse.enum_value ss) (λ v mid. after_value n v mid) | false ↦ Ok ([], ss) ]) t
      ∙ ap (λ r. and_then r (λ v mid. after_value n v mid)) e

  comma_step : (n : ℕ) → sees (is_mark ",") mid ≡ true → after_value n v mid ≡ and_then (and_then (parse.mark "," mid) (λ _. values_within n)) (λ vs rest. Ok (v ∷ vs, rest))
  comma_step n u =
      ap (λ b. and_then (elim b as (λ _. Outcome (List EnumValue)) [ true ↦ and_then (parse.mark "," mid) (λ _. values_within n) | false ↦ Ok ([], mid) ]) (λ vs rest. Ok (v ∷ vs, rest))) u

  -- a value and its comma, and more
  pub values_turn : (ss rest : List Lexed) (k : ℕ) → sees is_name ss ≡ true → parse.enum_value ss ≡ Ok (v, mid) → sees (is_mark ",") mid ≡ true → parse.mark "," mid ≡ Ok (k, rest)
      → parse.enum_values ss ≡ parse.with_front (v ∷ []) (parse.enum_values rest)
  values_turn [] rest k t e u m = absurd cc
  values_turn (s ∷ ss) rest k t e u m =
      let l = shrinks is_name enum_value_agrees value_begins (s ∷ ss) mid v e in
      let l' = shrinks (is_mark ",") (mark_agrees ",") (mark_begins "," (is_mark ",") refl) mid rest k m in
      value_step (length ss) (s ∷ ss) t e ∙ comma_step (length ss) u ∙ ap (λ r. and_then (and_then r (λ _. values_within (length ss))) (λ vs rest. Ok (v ∷ vs, rest))) m
      ∙ ap (λ r. and_then r (λ vs rest. Ok (v ∷ vs, rest))) (same (length ss) (length rest) rest (omega arith) (omega arith)) ∙ as_front v (parse.enum_values rest)

  -- the last value, with no comma
  pub values_last : (ss : List Lexed) → sees is_name ss ≡ true → parse.enum_value ss ≡ Ok (v, mid) → sees (is_mark ",") mid ≡ false → parse.enum_values ss ≡ Ok (v ∷ [], mid)
  values_last [] t e u = absurd cc
  values_last (s ∷ ss) t e u =
      value_step (length ss) (s ∷ ss) t e
      ∙ ap (λ b. and_then (elim b as (λ _. Outcome (List EnumValue)) [ true ↦ and_then (parse.mark "," mid) (λ _. values_within (length ss)) | false ↦ Ok ([], mid) ]) (λ vs rest. Ok (v ∷ vs, rest))) u

  -- where a comma is seen, it is taken
  pub values_comma_stops : (ss rest : List Lexed) → sees is_name ss ≡ true → parse.enum_value ss ≡ Ok (v, mid) → sees (is_mark ",") mid ≡ true → parse.mark "," mid ≡ Err rest → parse.enum_values ss ≡ Err rest
  values_comma_stops [] rest t e u m = absurd cc
  values_comma_stops (s ∷ ss) rest t e u m =
      value_step (length ss) (s ∷ ss) t e ∙ comma_step (length ss) u ∙ ap (λ r. and_then (and_then r (λ _. values_within (length ss))) (λ vs rest. Ok (v ∷ vs, rest))) m

pub values_stops : (ss rest : List Lexed) → sees is_name ss ≡ true → parse.enum_value ss ≡ Err rest → parse.enum_values ss ≡ Err rest
values_stops [] rest t e = absurd cc
values_stops (s ∷ ss) rest t e =
    ap (λ b. elim b as (λ _. Outcome (List EnumValue)) [ true ↦ and_then (parse.enum_value (s ∷ ss)) (λ v mid. after_value (length ss) v mid) | false ↦ Ok ([], s ∷ ss) ]) t
    ∙ ap (λ r. and_then r (λ v mid. after_value (length ss) v mid)) e

pub values_done : (ss : List Lexed) → sees is_name ss ≡ false → parse.enum_values ss ≡ Ok ([], ss)
values_done [] t = refl
values_done (s ∷ ss) t =
    ap (λ b. elim b as (λ _. Outcome (List EnumValue)) [ true ↦ and_then (parse.enum_value (s ∷ ss)) (λ v mid. after_value (length ss) v mid) | false ↦ Ok ([], s ∷ ss) ]) t

-- behind the values that were read before
module _ (front : List EnumValue) (v : EnumValue) (ss mid : List Lexed) (whole : Outcome (List EnumValue)) (t : sees is_name ss ≡ true) (e : parse.enum_value ss ≡ Ok (v, mid)) (h : parse.with_front front (parse.enum_values ss) ≡ whole) where
  pub values_turn_front : (rest : List Lexed) (k : ℕ) → sees (is_mark ",") mid ≡ true → parse.mark "," mid ≡ Ok (k, rest) → parse.with_front (front ++ v ∷ []) (parse.enum_values rest) ≡ whole
  values_turn_front rest k u m = sym (with_front-append front (v ∷ []) (parse.enum_values rest)) ∙ ap (λ r. parse.with_front front r) (sym (values_turn v mid ss rest k t e u m)) ∙ h

  pub values_last_front : sees (is_mark ",") mid ≡ false → whole ≡ Ok (front ++ v ∷ [], mid)
  values_last_front u = sym h ∙ ap (λ r. parse.with_front front r) (values_last v mid ss t e u)

  pub values_comma_front : (rest : List Lexed) → sees (is_mark ",") mid ≡ true → parse.mark "," mid ≡ Err rest → whole ≡ Err rest
  values_comma_front rest u m = sym h ∙ ap (λ r. parse.with_front front r) (values_comma_stops v mid ss rest t e u m)

pub values_stops_front : (front : List EnumValue) (ss rest : List Lexed) (whole : Outcome (List EnumValue)) → sees is_name ss ≡ true → parse.enum_value ss ≡ Err rest → parse.with_front front (parse.enum_values ss) ≡ whole → whole ≡ Err rest
values_stops_front front ss rest whole t e h = sym h ∙ ap (λ r. parse.with_front front r) (values_stops ss rest t e)

pub values_done_front : (front : List EnumValue) (ss : List Lexed) (whole : Outcome (List EnumValue)) → sees is_name ss ≡ false → parse.with_front front (parse.enum_values ss) ≡ whole → whole ≡ Ok (front, ss)
values_done_front front ss whole t h = sym h ∙ ap (λ r. parse.with_front front r) (values_done ss t) ∙ ap (λ (vs : List EnumValue). Ok (vs, ss)) (append-nil front)

-- a value and its comma are not empty
pub values_shrink : (ss mid rest : List Lexed) (v : EnumValue) (k : ℕ) → parse.enum_value ss ≡ Ok (v, mid) → parse.mark "," mid ≡ Ok (k, rest) → length rest < length ss
values_shrink ss mid rest v k e m =
    let l = shrinks is_name enum_value_agrees value_begins ss mid v e in
    let l' = shrinks (is_mark ",") (mark_agrees ",") (mark_begins "," (is_mark ",") refl) mid rest k m in
    omega arith
