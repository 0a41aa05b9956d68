-- A parser agrees with a production: what it reads is in the production, what is in the production it reads,
-- where it stops some continuation is in the production, and its answer depends on nothing behind the symbol
-- at which it stops.
use Rattle.std.proofs.Common.{inl, inr, append-nil, ◌≡◌, ℕ, zero, suc, ◌+◌, ◌<◌, ◌≤◌, Bool, true, false, not, ◌&&◌, List, [], ◌∷◌, ◌++◌, length, refl, sym, ◌∙◌, ap, subst, append_assoc, length-append, arith, Option, Some, None, Ok, Err}
use Rattle.edl_grammar.specs.Symbols.{Symbol, Lexed}
use Rattle.edl_grammar.specs.Production.{Production, Then}
use Rattle.edl_grammar.specs.Production as spell
use Rattle.edl_grammar.specs.Parser.{Outcome, Parser, and_then, sees}
use Rattle.edl_grammar.specs.Parser as parse

abbrev pub left : {A : Type 0} → Outcome A → List Lexed
left (Ok p) = p.1
left (Err r) = r

-- an answer, and the one where t stands behind the input
abbrev pub IsSteady : {A : Type 0} → List Lexed → Outcome A → Outcome A → Type 0
IsSteady t (Ok (a, [])) r = length (left r) ≤ length t
IsSteady t (Ok (a, s ∷ rest)) r = r ≡ Ok (a, (s ∷ rest) ++ t)
IsSteady t (Err []) r = length (left r) ≤ length t
IsSteady t (Err (s ∷ rest)) r = r ≡ Err ((s ∷ rest) ++ t)

-- the ends after which the parser does not go on
abbrev pub Ends : Type 0
Ends = List Lexed → Bool

abbrev pub anywhere : Ends
anywhere _ = true

pub record Agrees {A : Type 0} (P : Production A) (p : Parser A) (ends : Ends) : Type 0 where
  pub ok : (ss rest : List Lexed) (a : A) → p ss ≡ Ok (a, rest) → (front : List Lexed) × (ss ≡ front ++ rest) × P front a
  pub err : (ss rest : List Lexed) → p ss ≡ Err rest → (front : List Lexed) × (more : List Lexed) × (a : A) × (ss ≡ front ++ rest) × P (front ++ more) a
  pub complete : (front rest : List Lexed) (a : A) → P front a → ends rest ≡ true → p (front ++ rest) ≡ Ok (a, rest)
  pub steady : (ss t : List Lexed) → IsSteady t (p ss) (p (ss ++ t))
  pub alive : (ss : List Lexed) × (a : A) × P ss a

-- no more is left than there was
pub shorter : {A : Type 0} {P : Production A} {p : Parser A} {ends : Ends} → Agrees P p ends → (ss : List Lexed) → length (left (p ss)) ≤ length ss
shorter {p = p} h ss = go (p ss) refl
  where
    go : (r : Outcome _) → p ss ≡ r → length (left r) ≤ length ss
    go (Ok (a, rest)) e = let f = h.ok ss rest a e in rw f.1 (omega (arith, length-append f.0 rest))
    go (Err rest) e = let f = h.err ss rest e in rw f.3 (omega (arith, length-append f.0 rest))

-- the parts of equal answers
pub ok_parts : {A : Type 0} {a b : A} {ss rest : List Lexed} → ◌≡◌ {A = Outcome A} (Ok (a, ss)) (Ok (b, rest)) → ◌≡◌ {A = A × List Lexed} (a, ss) (b, rest)
ok_parts h = cc

pub ok_value : {A : Type 0} {a b : A} {ss rest : List Lexed} → ◌≡◌ {A = Outcome A} (Ok (a, ss)) (Ok (b, rest)) → a ≡ b
ok_value h = ap (λ x. x.0) (ok_parts h)

pub ok_left : {A : Type 0} {a b : A} {ss rest : List Lexed} → ◌≡◌ {A = Outcome A} (Ok (a, ss)) (Ok (b, rest)) → ss ≡ rest
ok_left h = ap (λ x. x.1) (ok_parts h)

pub err_left : {A : Type 0} {ss rest : List Lexed} → ◌≡◌ {A = Outcome A} (Err ss) (Err rest) → ss ≡ rest
err_left h = cc

pub not_ok : {A B : Type 0} {x : A × List Lexed} {r : List Lexed} → ◌≡◌ {A = Outcome A} (Err r) (Ok x) → B
not_ok h = absurd cc

pub not_err : {A B : Type 0} {x : A × List Lexed} {r : List Lexed} → ◌≡◌ {A = Outcome A} (Ok x) (Err r) → B
not_err h = absurd cc

-- no symbol, and a value
pure_steady : {A : Type 0} (a : A) (ss t : List Lexed) → IsSteady t (parse.pure a ss) (parse.pure a (ss ++ t))
pure_steady a [] t = omega arith
pure_steady a (s ∷ ss) t = refl

pub pure_agrees : {A : Type 0} (a : A) → Agrees (spell.pure a) (parse.pure a) anywhere
pure_agrees {A} a = record {
  ok = λ ss rest b e. ([], ok_left e, (refl, sym (ok_value e)));
  err = λ ss rest e. not_err e;
  complete = complete;
  steady = pure_steady a;
  alive = ([], a, (refl, refl));
}
  where
    complete : (front rest : List Lexed) (b : A) → spell.pure a front b → anywhere rest ≡ true → parse.pure a (front ++ rest) ≡ Ok (b, rest)
    complete front rest b h _ = rw (h.0, h.1) refl

-- one symbol, by what it gives
module _ {A : Type 0} (f : ℕ → Symbol → Option A) where
  -- the production of the symbols that give something
  abbrev pub One : Production A
  One ss a = (s : Lexed) × (ss ≡ s ∷ []) × (f s.token s.symbol ≡ Some a)

  one_ok_at : (s : Lexed) (ss rest : List Lexed) (a : A) (o : Option A) → f s.token s.symbol ≡ o → parse.given_by o (s ∷ ss) ss ≡ Ok (a, rest)
      → (ss ≡ rest) × (f s.token s.symbol ≡ Some a)
  one_ok_at s ss rest a None e h = not_ok h
  one_ok_at s ss rest a (Some b) e h = (ok_left h, e ∙ ap Some (ok_value h))

  one_ok : (ss rest : List Lexed) (a : A) → parse.one f ss ≡ Ok (a, rest) → (front : List Lexed) × (ss ≡ front ++ rest) × One front a
  one_ok [] rest a h = not_ok h
  one_ok (s ∷ ss) rest a h = let r = one_ok_at s ss rest a (f s.token s.symbol) refl h in (s ∷ [], ap (◌∷◌ s) r.0, (s, refl, r.1))

  one_err_at : (s : Lexed) (ss rest : List Lexed) (o : Option A) → parse.given_by o (s ∷ ss) ss ≡ Err rest → s ∷ ss ≡ rest
  one_err_at s ss rest None h = err_left h
  one_err_at s ss rest (Some a) h = not_err h

  one_err : (ss rest : List Lexed) → parse.one f ss ≡ Err rest → ss ≡ rest
  one_err [] rest h = err_left h
  one_err (s ∷ ss) rest h = one_err_at s ss rest (f s.token s.symbol) h

  one_steady_at : (s : Lexed) (ss t : List Lexed) (o : Option A) → IsSteady t (parse.given_by o (s ∷ ss) ss) (parse.given_by o (s ∷ ss ++ t) (ss ++ t))
  one_steady_at s ss t None = refl
  one_steady_at s [] t (Some a) = omega arith
  one_steady_at s (r ∷ rs) t (Some a) = refl

  one_short : (t : List Lexed) → length (left (parse.one f t)) ≤ length t
  one_short [] = omega arith
  one_short (s ∷ ss) = at (f s.token s.symbol)
    where
      at : (o : Option A) → length (left (parse.given_by o (s ∷ ss) ss)) ≤ suc (length ss)
      at None = omega arith
      at (Some a) = omega arith

  one_steady : (ss t : List Lexed) → IsSteady t (parse.one f ss) (parse.one f (ss ++ t))
  one_steady [] t = one_short t
  one_steady (s ∷ ss) t = one_steady_at s ss t (f s.token s.symbol)

  pub one_agrees : (s : Lexed) (a : A) → f s.token s.symbol ≡ Some a → Agrees One (parse.one f) anywhere
  one_agrees s a e = record {
    ok = one_ok;
    err = λ ss rest h. ([], s ∷ [], a, one_err ss rest h, (s, refl, e));
    complete = complete;
    steady = one_steady;
    alive = (s ∷ [], a, (s, refl, e));
  }
    where
      complete : (front rest : List Lexed) (b : A) → One front b → anywhere rest ≡ true → parse.one f (front ++ rest) ≡ Ok (b, rest)
      complete front rest b (x, h, g) _ = rw (h, g) refl

-- one after another
module _ {A B : Type 0} {P : Production A} {p : Parser A} {ends : Ends} {F : A → Production B} {f : A → Parser B} {ends' : Ends}
    (h : Agrees P p ends) (k : (a : A) → Agrees (F a) (f a) ends') where
  bind_ok : (ss rest : List Lexed) (b : B) → and_then (p ss) f ≡ Ok (b, rest) → (front : List Lexed) × (ss ≡ front ++ rest) × Then P F front b
  bind_ok ss rest b e = go (p ss) refl e
    where
      go : (r : Outcome A) → p ss ≡ r → and_then r f ≡ Ok (b, rest) → (front : List Lexed) × (ss ≡ front ++ rest) × Then P F front b
      go (Err r) e g = not_ok g
      go (Ok (a, mid)) e g =
          let x = h.ok ss mid a e in let y = (k a).ok mid rest b g in
          (x.0 ++ y.0, x.1 ∙ ap (λ z. x.0 ++ z) y.1 ∙ sym (append_assoc x.0 y.0 rest), record { front = x.0; back = y.0; value = a; split = refl; first = x.2; rest = y.2 })

  bind_err : (ss rest : List Lexed) → and_then (p ss) f ≡ Err rest
      → (front : List Lexed) × (more : List Lexed) × (b : B) × (ss ≡ front ++ rest) × Then P F (front ++ more) b
  bind_err ss rest e = go (p ss) refl e
    where
      go : (r : Outcome A) → p ss ≡ r → and_then r f ≡ Err rest → (front : List Lexed) × (more : List Lexed) × (b : B) × (ss ≡ front ++ rest) × Then P F (front ++ more) b
      go (Err r) e g =
          let x = h.err ss r e in let y = (k x.2).alive in
          (x.0, x.1 ++ y.0, y.1, x.3 ∙ ap (λ z. x.0 ++ z) (err_left g), record { front = x.0 ++ x.1; back = y.0; value = x.2; split = sym (append_assoc x.0 x.1 y.0); first = x.4; rest = y.2 })
      go (Ok (a, mid)) e g =
          let x = h.ok ss mid a e in let y = (k a).err mid rest g in (
            x.0 ++ y.0,
            y.1,
            y.2,
            x.1 ∙ ap (λ z. x.0 ++ z) y.3 ∙ sym (append_assoc x.0 y.0 rest),
            record { front = x.0; back = y.0 ++ y.1; value = a; split = append_assoc x.0 y.0 y.1; first = x.2; rest = y.4 },
          )

  -- wherever the second goes on, the first ends
  abbrev pub Meets : Type 0
  Meets = (a : A) (back rest : List Lexed) (b : B) → F a back b → ends' rest ≡ true → ends (back ++ rest) ≡ true

  bind_complete : Meets → (front rest : List Lexed) (b : B) → Then P F front b → ends' rest ≡ true → and_then (p (front ++ rest)) f ≡ Ok (b, rest)
  bind_complete meets front rest b d e =
      rw (d.split, append_assoc d.front d.back rest, h.complete d.front (d.back ++ rest) d.value d.first (meets d.value d.back rest b d.rest e))
      ((k d.value).complete d.back rest b d.rest e)

  bind_short : (ss : List Lexed) (n : ℕ) → length (left (p ss)) ≤ n → length (left (and_then (p ss) f)) ≤ n
  bind_short ss n short = go (p ss) short
    where
      go : (r : Outcome A) → length (left r) ≤ n → length (left (and_then r f)) ≤ n
      go (Err r) l = l
      go (Ok (a, mid)) l = omega (arith, shorter (k a) mid)

  bind_steady : (ss t : List Lexed) → IsSteady t (and_then (p ss) f) (and_then (p (ss ++ t)) f)
  bind_steady ss t = go (p ss) (p (ss ++ t)) (h.steady ss t)
    where
      short : (r : Outcome A) → length (left r) ≤ length t → length (left (and_then r f)) ≤ length t
      short (Err r) l = l
      short (Ok (a, mid)) l = omega (arith, shorter (k a) mid)

      -- where nothing is left, nothing was left to what follows
      none : (r : Outcome B) → length (left r) ≤ 0 → (r' : Outcome B) → length (left r') ≤ length t → IsSteady t r r'
      none (Ok (b, [])) z r' l = l
      none (Ok (b, s ∷ ss)) z r' l = absurd (omega arith)
      none (Err []) z r' l = l
      none (Err (s ∷ ss)) z r' l = absurd (omega arith)

      go : (r r' : Outcome A) → IsSteady t r r' → IsSteady t (and_then r f) (and_then r' f)
      go (Err []) r' l = short r' l
      go (Err (s ∷ rest)) r' e = rw e refl
      go (Ok (a, [])) r' l = none (f a []) (shorter (k a) []) (and_then r' f) (short r' l)
      go (Ok (a, s ∷ mid)) r' e = rw e ((k a).steady (s ∷ mid) t)

  pub bind_agrees : Meets → Agrees (Then P F) (λ ss. and_then (p ss) f) ends'
  bind_agrees meets = record {
    ok = bind_ok;
    err = bind_err;
    complete = bind_complete meets;
    steady = bind_steady;
    alive = (let x = h.alive in let y = (k x.1).alive in (x.0 ++ y.0, y.1, record { front = x.0; back = y.0; value = x.1; split = refl; first = x.2; rest = y.2 }));
  }

-- the same production, said otherwise
pub agrees_by : {A : Type 0} {P P' : Production A} {p : Parser A} {ends : Ends} → ((ss : List Lexed) (a : A) → P ss a → P' ss a) → ((ss : List Lexed) (a : A) → P' ss a → P ss a) → Agrees P p ends → Agrees P' p ends
agrees_by to from h = record {
  ok = λ ss rest a e. (let x = h.ok ss rest a e in (x.0, x.1, to x.0 a x.2));
  err = λ ss rest e. (let x = h.err ss rest e in (x.0, x.1, x.2, x.3, to (x.0 ++ x.1) x.2 x.4));
  complete = λ front rest a d e. h.complete front rest a (from front a d) e;
  steady = h.steady;
  alive = (let x = h.alive in (x.0, x.1, to x.0 x.1 x.2));
}

-- the same parser, said otherwise
pub agrees_as : {A : Type 0} {P : Production A} {p q : Parser A} {ends : Ends} → ((ss : List Lexed) → p ss ≡ q ss) → Agrees P p ends → Agrees P q ends
agrees_as {P = P} {p = p} {q = q} {ends = ends} same h = let e : p ≡ q = λ i ss. same ss i in subst (λ (r : Parser _). Agrees P r ends) e h

-- after fewer ends
pub agrees_where : {A : Type 0} {P : Production A} {p : Parser A} {ends : Ends} (ends' : Ends) → ((rest : List Lexed) → ends' rest ≡ true → ends rest ≡ true) → Agrees P p ends → Agrees P p ends'
agrees_where ends' to h = record {
  ok = h.ok;
  err = h.err;
  complete = λ front rest a d e. h.complete front rest a d (to rest e);
  steady = h.steady;
  alive = h.alive;
}

-- where nothing is left, no more than t is left
none_left : {A : Type 0} (t : List Lexed) (r r' : Outcome A) → length (left r) ≤ 0 → length (left r') ≤ length t → IsSteady t r r'
none_left t (Ok (b, [])) r' z l = l
none_left t (Ok (b, s ∷ ss)) r' z l = absurd (omega arith)
none_left t (Err []) r' z l = l
none_left t (Err (s ∷ ss)) r' z l = absurd (omega arith)

-- what is in it begins with a symbol that passes the test
abbrev pub Begins : {A : Type 0} → Production A → (Symbol → Bool) → Type 0
Begins {A} P test = (front rest : List Lexed) (a : A) → P front a → sees test (front ++ rest) ≡ true

-- what is in it, before an end, does not
abbrev pub Avoids : {A : Type 0} → Production A → (Symbol → Bool) → Ends → Type 0
Avoids {A} P test ends = (front rest : List Lexed) (a : A) → P front a → ends rest ≡ true → sees test (front ++ rest) ≡ false

-- one or the other, by the next symbol
module _ {A : Type 0} {P Q : Production A} {p q : Parser A} {ends : Ends} (test : Symbol → Bool)
    (h : Agrees P p ends) (k : Agrees Q q ends) where
  abbrev chosen : Bool → List Lexed → Outcome A
  chosen b ss = elim b [ true ↦ p ss | false ↦ q ss ]

  either_ok : (ss rest : List Lexed) (a : A) → parse.if_next test p q ss ≡ Ok (a, rest) → (front : List Lexed) × (ss ≡ front ++ rest) × (spell.◌<|>◌ P Q) front a
  either_ok ss rest a e = go (sees test ss) e
    where
      go : (b : Bool) → chosen b ss ≡ Ok (a, rest) → (front : List Lexed) × (ss ≡ front ++ rest) × (spell.◌<|>◌ P Q) front a
      go true g = let x = h.ok ss rest a g in (x.0, x.1, inl x.2)
      go false g = let x = k.ok ss rest a g in (x.0, x.1, inr x.2)

  either_err : (ss rest : List Lexed) → parse.if_next test p q ss ≡ Err rest → (front : List Lexed) × (more : List Lexed) × (a : A) × (ss ≡ front ++ rest) × (spell.◌<|>◌ P Q) (front ++ more) a
  either_err ss rest e = go (sees test ss) e
    where
      go : (b : Bool) → chosen b ss ≡ Err rest → (front : List Lexed) × (more : List Lexed) × (a : A) × (ss ≡ front ++ rest) × (spell.◌<|>◌ P Q) (front ++ more) a
      go true g = let x = h.err ss rest g in (x.0, x.1, x.2, x.3, inl x.4)
      go false g = let x = k.err ss rest g in (x.0, x.1, x.2, x.3, inr x.4)

  either_short : (ss : List Lexed) → length (left (parse.if_next test p q ss)) ≤ length ss
  either_short ss = go (sees test ss)
    where
      go : (b : Bool) → length (left (chosen b ss)) ≤ length ss
      go true = shorter h ss
      go false = shorter k ss

  either_steady : (ss t : List Lexed) → IsSteady t (parse.if_next test p q ss) (parse.if_next test p q (ss ++ t))
  either_steady [] t = none_left t (q []) (parse.if_next test p q t) (shorter k []) (either_short t)
  either_steady (s ∷ ss) t = go (test s.symbol)
    where
      go : (b : Bool) → IsSteady t (chosen b (s ∷ ss)) (chosen b (s ∷ ss ++ t))
      go true = h.steady (s ∷ ss) t
      go false = k.steady (s ∷ ss) t

  -- what is in the first, before an end, begins with a symbol that passes the test
  pub either_agrees_at : ((front rest : List Lexed) (a : A) → P front a → ends rest ≡ true → sees test (front ++ rest) ≡ true) → Avoids Q test ends → Agrees (spell.◌<|>◌ P Q) (parse.if_next test p q) ends
  either_agrees_at begins avoids = record {
    ok = either_ok;
    err = either_err;
    complete = complete;
    steady = either_steady;
    alive = (let x = h.alive in (x.0, x.1, inl x.2));
  }
    where
      complete : (front rest : List Lexed) (a : A) → (spell.◌<|>◌ P Q) front a → ends rest ≡ true → parse.if_next test p q (front ++ rest) ≡ Ok (a, rest)
      complete front rest a (inl d) e = rw (parse.if_next, begins front rest a d e) (h.complete front rest a d e)
      complete front rest a (inr d) e = rw (parse.if_next, avoids front rest a d e) (k.complete front rest a d e)

  pub either_agrees : Begins P test → Avoids Q test ends → Agrees (spell.◌<|>◌ P Q) (parse.if_next test p q) ends
  either_agrees begins avoids = either_agrees_at (λ front rest a d e. begins front rest a d) avoids

-- nothing, or p
not_seen : (Symbol → Bool) → Ends
not_seen test ss = not (sees test ss)

pub not_true : (b : Bool) → not b ≡ true → b ≡ false
not_true true e = absurd cc
not_true false e = refl

pub both_true : (a b : Bool) → a && b ≡ true → (a ≡ true) × (b ≡ true)
both_true true b e = (refl, e)
both_true false b e = absurd cc

-- the ends of what may be followed by a symbol that passes the test
abbrev pub before : (Symbol → Bool) → Ends → Ends
before test ends ss = not (sees test ss) && ends ss

module _ {A : Type 0} {P : Production A} {p : Parser A} {ends : Ends} (test : Symbol → Bool) (h : Agrees P p ends) (begins : Begins P test) where
  pub optional_agrees : Agrees (spell.optional P) (parse.optional test p) (before test ends)
  optional_agrees = agrees_by to from (either_agrees test some none begins' avoids)
    where
      some : Agrees (Then P (λ a. spell.pure (Some a))) (λ ss. and_then (p ss) (λ a. parse.pure (Some a))) (before test ends)
      some = agrees_where (before test ends) (λ rest e. (both_true (not (sees test rest)) (ends rest) e).1)
          (bind_agrees h (λ a. agrees_where ends (λ rest e. refl) (pure_agrees (Some a))) (λ a back rest b d e. rw d.0 e))

      none : Agrees (spell.pure {A = Option A} None) (parse.pure None) (before test ends)
      none = agrees_where (before test ends) (λ rest e. refl) (pure_agrees {A = Option A} None)

      begins' : Begins (Then P (λ a. spell.pure (Some a))) test
      begins' front rest o d = rw (d.split, append_assoc d.front d.back rest) (begins d.front (d.back ++ rest) d.value d.first)

      avoids : Avoids (spell.pure {A = Option A} None) test (before test ends)
      avoids front rest o d e = rw d.0 (not_true (sees test rest) (both_true (not (sees test rest)) (ends rest) e).0)

      to : (ss : List Lexed) (o : Option A) → (spell.◌<|>◌ (Then P (λ a. spell.pure (Some a))) (spell.pure {A = Option A} None)) ss o → spell.optional P ss o
      to ss o (inl d) = rw (d.rest.1, d.split, d.rest.0, append-nil d.front) d.first
      to ss o (inr d) = rw (d.1) d.0

      from : (ss : List Lexed) (o : Option A) → spell.optional P ss o → (spell.◌<|>◌ (Then P (λ a. spell.pure (Some a))) (spell.pure {A = Option A} None)) ss o
      from ss None d = inr (d, refl)
      from ss (Some a) d = inl (record { front = ss; back = []; value = a; split = sym (append-nil ss); first = d; rest = (refl, refl) })

-- ---- any number of times

-- the front is not empty
pub begins_some : {A : Type 0} {P : Production A} (test : Symbol → Bool) → Begins P test → (front : List Lexed) (a : A) → P front a → 0 < length front
begins_some test begins [] a d = absurd (go (begins [] [] a d))
  where
    go : sees test [] ≡ true → ⊥
    go e = cc
begins_some test begins (s ∷ ss) a d = omega arith

module _ {A : Type 0} {P : Production A} {p : Parser A} {ends : Ends} (test : Symbol → Bool) (h : Agrees P p ends) (begins : Begins P test) where
  abbrev times : ℕ → Parser (List A)
  times n = parse.many_within n test p

  -- what is done after the test
  abbrev turn : ℕ → Bool → List Lexed → Outcome (List A)
  turn n b ss = elim b [ true ↦ and_then (p ss) (λ a mid. and_then (times n mid) (λ as' rest. Ok (a ∷ as', rest))) | false ↦ Ok ([], ss) ]

  abbrev Reads : ℕ → Type 0
  Reads n = (ss rest : List Lexed) (as' : List A) → times n ss ≡ Ok (as', rest) → (front : List Lexed) × (ss ≡ front ++ rest) × spell.many P front as'

  abbrev Stops : ℕ → Type 0
  Stops n = (ss rest : List Lexed) → times n ss ≡ Err rest → (front : List Lexed) × (more : List Lexed) × (as' : List A) × (ss ≡ front ++ rest) × spell.many P (front ++ more) as'

  one_more_ok : (n : ℕ) → Reads n → Reads (suc n)
  one_more_ok n ih ss rest as' e = by_test (sees test ss) e
    where
      again : (a : A) (mid : List Lexed) (r : Outcome (List A)) → times n mid ≡ r → and_then r (λ as'' rest'. Ok (a ∷ as'', rest')) ≡ Ok (as', rest)
          → (as'' : List A) × (times n mid ≡ Ok (as'', rest)) × (a ∷ as'' ≡ as')
      again a mid (Err r) e g = not_ok g
      again a mid (Ok (as'', rest')) e g = (as'', e ∙ ap (λ z. Ok (as'', z)) (ok_left g), ok_value g)

      step : (r : Outcome A) → p ss ≡ r → and_then r (λ a mid. and_then (times n mid) (λ as'' rest'. Ok (a ∷ as'', rest'))) ≡ Ok (as', rest)
          → (front : List Lexed) × (ss ≡ front ++ rest) × spell.many P front as'
      step (Err r) e g = not_ok g
      step (Ok (a, mid)) e g =
          let x = h.ok ss mid a e in let z = again a mid (times n mid) refl g in let y = ih mid rest z.0 z.1 in (
            x.0 ++ y.0,
            x.1 ∙ ap (λ m. x.0 ++ m) y.1 ∙ sym (append_assoc x.0 y.0 rest),
            subst (spell.many P (x.0 ++ y.0)) z.2 (x.0, y.0, refl, x.2, y.2),
          )

      by_test : (b : Bool) → turn n b ss ≡ Ok (as', rest) → (front : List Lexed) × (ss ≡ front ++ rest) × spell.many P front as'
      by_test true g = step (p ss) refl g
      by_test false g = ([], ok_left g, subst (spell.many P []) (ok_value g) refl)

  many_ok : (n : ℕ) → Reads n
  many_ok zero ss rest as' e = ([], ok_left e, subst (spell.many P []) (ok_value e) refl)
  many_ok (suc n) ss rest as' e = one_more_ok n (many_ok n) ss rest as' e

  one_more_err : (n : ℕ) → Stops n → Stops (suc n)
  one_more_err n ih ss rest e = by_test (sees test ss) e
    where
      again : (a : A) (mid : List Lexed) (r : Outcome (List A)) → times n mid ≡ r → and_then r (λ as'' rest'. Ok (a ∷ as'', rest')) ≡ Err rest → times n mid ≡ Err rest
      again a mid (Err r) e g = e ∙ ap (λ z. Err z) (err_left g)
      again a mid (Ok x) e g = not_err g

      step : (r : Outcome A) → p ss ≡ r → and_then r (λ a mid. and_then (times n mid) (λ as'' rest'. Ok (a ∷ as'', rest'))) ≡ Err rest
          → (front : List Lexed) × (more : List Lexed) × (as' : List A) × (ss ≡ front ++ rest) × spell.many P (front ++ more) as'
      step (Err r) e g =
          let x = h.err ss r e in
          (x.0, x.1, x.2 ∷ [], x.3 ∙ ap (λ z. x.0 ++ z) (err_left g), (x.0 ++ x.1, [], sym (append-nil (x.0 ++ x.1)), x.4, refl))
      step (Ok (a, mid)) e g =
          let x = h.ok ss mid a e in let y = ih mid rest (again a mid (times n mid) refl g) in
          (x.0 ++ y.0, y.1, a ∷ y.2, x.1 ∙ ap (λ z. x.0 ++ z) y.3 ∙ sym (append_assoc x.0 y.0 rest), (x.0, y.0 ++ y.1, append_assoc x.0 y.0 y.1, x.2, y.4))

      by_test : (b : Bool) → turn n b ss ≡ Err rest → (front : List Lexed) × (more : List Lexed) × (as' : List A) × (ss ≡ front ++ rest) × spell.many P (front ++ more) as'
      by_test true g = step (p ss) refl g
      by_test false g = not_err g

  many_err : (n : ℕ) → Stops n
  many_err zero ss rest e = not_err e
  many_err (suc n) ss rest e = one_more_err n (many_err n) ss rest e

  -- where one more follows, the one before ends
  abbrev pub GoesOn : Type 0
  GoesOn = (rest : List Lexed) → sees test rest ≡ true → ends rest ≡ true

  many_ends : GoesOn → (back rest : List Lexed) (as' : List A) → spell.many P back as' → before test ends rest ≡ true → ends (back ++ rest) ≡ true
  many_ends on back rest [] d e = rw d (both_true (not (sees test rest)) (ends rest) e).1
  many_ends on back rest (a ∷ as') d e = on (back ++ rest) (rw (d.2, append_assoc d.0 d.1 rest) (begins d.0 (d.1 ++ rest) a d.3))

  many_complete : GoesOn → (n : ℕ) (front rest : List Lexed) (as' : List A) → spell.many P front as' → length front ≤ n → before test ends rest ≡ true
      → times n (front ++ rest) ≡ Ok (as', rest)
  many_complete on zero front rest [] d l e = rw d refl
  many_complete on (suc n) front rest [] d l e =
      let none : times (suc n) rest ≡ Ok ([], rest) = rw (parse.if_next, not_true (sees test rest) (both_true (not (sees test rest)) (ends rest) e).0) refl in rw d none
  many_complete on zero front rest (a ∷ as') d l e =
      let long = begins_some test begins d.0 a d.3 in let whole : length front ≡ length d.0 + length d.1 = ap length d.2 ∙ length-append d.0 d.1 in absurd (omega arith)
  many_complete on (suc n) front rest (a ∷ as') d l e =
      let long = begins_some test begins d.0 a d.3 in
      let whole : length front ≡ length d.0 + length d.1 = ap length d.2 ∙ length-append d.0 d.1 in
      let reads : times (suc n) (d.0 ++ (d.1 ++ rest)) ≡ Ok (a ∷ as', rest)
      = rw (parse.if_next, begins d.0 (d.1 ++ rest) a d.3)
      (rw (h.complete d.0 (d.1 ++ rest) a d.3 (many_ends on d.1 rest as' d.4 e)) (rw (many_complete on n d.1 rest as' d.4 (omega arith) e) refl)) in
      rw (d.2, append_assoc d.0 d.1 rest) reads

  many_short : (n : ℕ) (ss : List Lexed) → length (left (times n ss)) ≤ length ss
  many_short n ss = go (times n ss) refl
    where
      go : (r : Outcome (List A)) → times n ss ≡ r → length (left r) ≤ length ss
      go (Ok (as', rest)) e = let f = many_ok n ss rest as' e in rw f.1 (omega (arith, length-append f.0 rest))
      go (Err rest) e = let f = many_err n ss rest e in rw f.3 (omega (arith, length-append f.0 rest))

  abbrev cons : A → Outcome (List A) → Outcome (List A)
  cons a r = and_then r (λ as' rest. Ok (a ∷ as', rest))

  cons_short : (a : A) (n : ℕ) (r : Outcome (List A)) → length (left r) ≤ n → length (left (cons a r)) ≤ n
  cons_short a n (Ok x) i = i
  cons_short a n (Err x) i = i

  cons_steady : (a : A) (t : List Lexed) (r r' : Outcome (List A)) → IsSteady t r r' → IsSteady t (cons a r) (cons a r')
  cons_steady a t (Err []) r' i = cons_short a (length t) r' i
  cons_steady a t (Err (x ∷ xs)) r' i = rw i refl
  cons_steady a t (Ok (as', [])) r' i = cons_short a (length t) r' i
  cons_steady a t (Ok (as', x ∷ xs)) r' i = rw i refl

  after_short : (m : ℕ) (t : List Lexed) (r : Outcome A) → length (left r) ≤ length t → length (left (and_then r (λ a mid. cons a (times m mid)))) ≤ length t
  after_short m t (Err r) i = i
  after_short m t (Ok (a, mid)) i = cons_short a (length t) (times m mid) (omega (arith, many_short m mid))

  -- any two numbers that are large enough
  abbrev Steadily : ℕ → Type 0
  Steadily n = (m : ℕ) (ss t : List Lexed) → length ss ≤ n → length (ss ++ t) ≤ m → IsSteady t (times n ss) (times m (ss ++ t))

  one_more_steady : (n m : ℕ) → Steadily n → (s : Lexed) (ss t : List Lexed) → length ss ≤ n → length (ss ++ t) ≤ m → IsSteady t (times (suc n) (s ∷ ss)) (times (suc m) (s ∷ ss ++ t))
  one_more_steady n m ih s ss t l l' = by_test (test s.symbol)
    where
      step : (r r' : Outcome A) → p (s ∷ ss) ≡ r → IsSteady t r r' → IsSteady t (and_then r (λ a mid. cons a (times n mid))) (and_then r' (λ a mid. cons a (times m mid)))
      step (Err []) r' e i = after_short m t r' i
      step (Err (x ∷ xs)) r' e i = rw i refl
      step (Ok (a, [])) r' e i = none_left t (cons a (times n [])) (and_then r' (λ a mid. cons a (times m mid))) (cons_short a 0 (times n []) (many_short n [])) (after_short m t r' i)
      step (Ok (a, x ∷ xs)) r' e i =
          let f = h.ok (s ∷ ss) (x ∷ xs) a e in
          let long = begins_some test begins f.0 a f.2 in
          let whole : suc (length ss) ≡ length f.0 + suc (length xs) = ap length f.1 ∙ length-append f.0 (x ∷ xs) in
          rw i (cons_steady a t (times n (x ∷ xs)) (times m ((x ∷ xs) ++ t)) (ih m (x ∷ xs) t (omega arith) (omega (arith, length-append xs t, length-append ss t))))

      by_test : (b : Bool) → IsSteady t (turn n b (s ∷ ss)) (turn m b (s ∷ ss ++ t))
      by_test true = step (p (s ∷ ss)) (p (s ∷ ss ++ t)) refl (h.steady (s ∷ ss) t)
      by_test false = refl

  many_steady : (n : ℕ) → Steadily n
  many_steady n m [] t l l' = none_left t (times n []) (times m t) (many_short n []) (many_short m t)
  many_steady zero m (s ∷ ss) t l l' = absurd (omega arith)
  many_steady (suc n) zero (s ∷ ss) t l l' = absurd (omega arith)
  many_steady (suc n) (suc m) (s ∷ ss) t l l' = one_more_steady n m (many_steady n) s ss t (omega arith) (omega arith)

  pub many_agrees : GoesOn → Agrees (spell.many P) (parse.many test p) (before test ends)
  many_agrees on = record {
    ok = λ ss rest as' e. many_ok (length ss) ss rest as' e;
    err = λ ss rest e. many_err (length ss) ss rest e;
    complete = λ front rest as' d e. many_complete on (length (front ++ rest)) front rest as' d (omega (arith, length-append front rest)) e;
    steady = λ ss t. many_steady (length ss) (length (ss ++ t)) ss t (omega arith) (omega arith);
    alive = ([], [], refl);
  }

-- whether p stands there
module _ {A : Type 0} {P : Production A} {p : Parser A} {ends : Ends} (test : Symbol → Bool) (h : Agrees P p ends) (begins : Begins P test) where
  pub given_agrees : Agrees (spell.given P) (parse.given test p) (before test ends)
  given_agrees = agrees_by to from (either_agrees test some none begins' avoids)
    where
      some : Agrees (Then P (λ _. spell.pure true)) (λ ss. and_then (p ss) (λ _. parse.pure true)) (before test ends)
      some = agrees_where (before test ends) (λ rest e. (both_true (not (sees test rest)) (ends rest) e).1)
          (bind_agrees h (λ a. agrees_where ends (λ rest e. refl) (pure_agrees true)) (λ a back rest b d e. rw d.0 e))

      none : Agrees (spell.pure false) (parse.pure false) (before test ends)
      none = agrees_where (before test ends) (λ rest e. refl) (pure_agrees false)

      begins' : Begins (Then P (λ _. spell.pure true)) test
      begins' front rest o d = rw (d.split, append_assoc d.front d.back rest) (begins d.front (d.back ++ rest) d.value d.first)

      avoids : Avoids (spell.pure false) test (before test ends)
      avoids front rest o d e = rw d.0 (not_true (sees test rest) (both_true (not (sees test rest)) (ends rest) e).0)

      to : (ss : List Lexed) (o : Bool) → (spell.◌<|>◌ (Then P (λ _. spell.pure true)) (spell.pure false)) ss o → spell.given P ss o
      to ss o (inl d) = rw (d.rest.1) (d.value, rw (d.split, d.rest.0, append-nil d.front) d.first)
      to ss o (inr d) = rw (d.1) d.0

      from : (ss : List Lexed) (o : Bool) → spell.given P ss o → (spell.◌<|>◌ (Then P (λ _. spell.pure true)) (spell.pure false)) ss o
      from ss false d = inr (d, refl)
      from ss true d = inl (record { front = ss; back = []; value = d.0; split = sym (append-nil ss); first = d.1; rest = (refl, refl) })
