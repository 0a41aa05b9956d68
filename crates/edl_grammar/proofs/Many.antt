-- A loop that reads any number of things.
use Rattle.std.proofs.Common.{arith, append_assoc, ◌≡◌, ◌≤◌, ◌<◌, ℕ, zero, suc, Bool, true, false, List, [], ◌∷◌, ◌++◌, length, refl, sym, ◌∙◌, ap, Ok, Err}
use Rattle.edl_grammar.specs.Symbols.{Symbol, Lexed}
use Rattle.edl_grammar.specs.Parser.{Parser, Outcome, and_then, sees, with_front}
use Rattle.edl_grammar.specs.Parser as parse

pub with_front-append : {A : Type 0} (xs ys : List A) (r : Outcome (List A)) → with_front xs (with_front ys r) ≡ with_front (xs ++ ys) r
with_front-append xs ys (Ok p) = ap (λ z. Ok (z, p.1)) (sym (append_assoc xs ys p.0))
with_front-append xs ys (Err r) = refl

pub with_front-nil : {A : Type 0} (r : Outcome (List A)) → with_front [] r ≡ r
with_front-nil (Ok p) = refl
with_front-nil (Err r) = refl

module _ {A : Type 0} (test : Symbol → Bool) (p : Parser A) where
  abbrev pub Shrinks : Type 0
  Shrinks = (ss rest : List Lexed) (a : A) → p ss ≡ Ok (a, rest) → length rest < length ss

  abbrev times : ℕ → Parser (List A)
  times n = parse.many_within n test p

  cons : A → Outcome (List A) → Outcome (List A)
  cons a r = and_then r (λ as' rest. Ok (a ∷ as', rest))

  abbrev turn : ℕ → Bool → List Lexed → Outcome (List A)
  turn n b ss = elim b [ true ↦ and_then (p ss) (λ a mid. and_then (times n mid) (λ as' rest. Ok (a ∷ as', rest))) | false ↦ Ok ([], ss) ]

  abbrev Same : ℕ → Type 0
  Same n = (m : ℕ) (ss : List Lexed) → length ss ≤ n → length ss ≤ m → times n ss ≡ times m ss

  same_turn : Shrinks → (n m : ℕ) → Same n → (ss : List Lexed) → length ss ≤ suc n → length ss ≤ suc m → (b : Bool) → turn n b ss ≡ turn m b ss
  same_turn shrinks n m ih ss l l' false = refl
  same_turn shrinks n m ih ss l l' true = go (p ss) refl
    where
      go : (r : Outcome A) → p ss ≡ r → and_then r (λ a mid. and_then (times n mid) (λ as' rest. Ok (a ∷ as', rest))) ≡ and_then r (λ a mid. and_then (times m mid) (λ as' rest. Ok (a ∷ as', rest)))
      go (Err r) e = refl
      go (Ok (a, mid)) e = let s = shrinks ss mid a e in ap (λ z. and_then z (λ as' rest. Ok (a ∷ as', rest))) (ih m mid (omega arith) (omega arith))

  same : Shrinks → (n : ℕ) → Same n
  same shrinks zero zero [] l l' = refl
  same shrinks zero (suc m) [] l l' = refl
  same shrinks zero m (s ∷ ss) l l' = absurd (omega arith)
  same shrinks (suc n) zero [] l l' = refl
  same shrinks (suc n) zero (s ∷ ss) l l' = absurd (omega arith)
  same shrinks (suc n) (suc m) ss l l' = same_turn shrinks n m (same shrinks n) ss l l' (sees test ss)

  -- one more turn
  pub many_turn : Shrinks → (ss rest : List Lexed) (a : A) → sees test ss ≡ true → p ss ≡ Ok (a, rest) → parse.many test p ss ≡ with_front (a ∷ []) (parse.many test p rest)
  many_turn shrinks [] rest a t e = absurd cc
  many_turn shrinks (s ∷ ss) rest a t e =
      let l = shrinks (s ∷ ss) rest a e in
      rw (parse.if_next, t) (rw e (ap (λ z. and_then z (λ as' r. Ok (a ∷ as', r))) (same shrinks (length ss) (length rest) rest (omega arith) (omega arith)) ∙ as_front (times (length rest) rest)))
    where
      as_front : (r : Outcome (List A)) → and_then r (λ as' rest'. Ok (a ∷ as', rest')) ≡ with_front (a ∷ []) r
      as_front (Ok x) = refl
      as_front (Err x) = refl

  -- one more turn, behind what was read before
  pub turn_front : Shrinks → (front : List A) (ss rest : List Lexed) (a : A) (whole : Outcome (List A)) → sees test ss ≡ true → p ss ≡ Ok (a, rest)
      → with_front front (parse.many test p ss) ≡ whole → with_front (front ++ a ∷ []) (parse.many test p rest) ≡ whole
  turn_front shrinks front ss rest a whole t e h =
      sym (with_front-append front (a ∷ []) (parse.many test p rest)) ∙ ap (λ r. with_front front r) (sym (many_turn shrinks ss rest a t e)) ∙ h

  pub many_stops : (ss rest : List Lexed) → sees test ss ≡ true → p ss ≡ Err rest → parse.many test p ss ≡ Err rest
  many_stops [] rest t e = absurd cc
  many_stops (s ∷ ss) rest t e = rw (parse.if_next, t) (rw e refl)

  pub many_done : (ss : List Lexed) → sees test ss ≡ false → parse.many test p ss ≡ Ok ([], ss)
  many_done [] t = refl
  many_done (s ∷ ss) t = rw (parse.if_next, t) refl
