-- The places of names in a list.
use Rattle.std.proofs.Common.{arith, ℕ, ◌+◌, ◌<◌, ◌≤◌, ◌≡◌, Bool, true, false, cond, List, [], ◌∷◌, ◌++◌, length, map, Some, None, refl, ap, ◌∙◌, inl, inr, length-append}
use Rattle.std.specs.Prelude.{not, nat_lt, ◌==◌, filter, position, ◌&&◌, is_some}
use Rattle.std.specs.List.{prefix_len, position_or_len}
use Rattle.std.specs.Str.{bytes_eq}
use Rattle.std.proofs.lemmas.List.{length-map}
use Rattle.std.proofs.lemmas.Option.{cond_some}
use Rattle.std.proofs.lemmas.Bool.{cases_lt, ltb-true, lt-ltb, le-ltb, ne_eqb, eq-eqb}
use Rattle.std.proofs.lemmas.List.Folds.{prefix_len-append}
use Rattle.std.proofs.lemmas.List.Sums.{prefix_len-le-length}
use Rattle.edl_interface.specs.Parameters.{is_marshalled}
use Rattle.call_script.specs.Spelling.{Word}
use Rattle.call_script.specs.BodyNames.{BodyNames, block_of, is_param}

module _ {A B : Type 0} (h : A → B) where
  prefix_len-map : (p : B → Bool) (xs : List A) → prefix_len p (map h xs) ≡ prefix_len (λ x. p (h x)) xs
  prefix_len-map p [] = refl
  prefix_len-map p (x ∷ xs) = ap (λ n. cond (p (h x)) (1 + n) 0) (prefix_len-map p xs)

  position-map : (p : B → Bool) (xs : List A) → position p (map h xs) ≡ position (λ x. p (h x)) xs
  position-map p xs = rw (prefix_len-map (λ y. not (p y)) xs, length-map xs h) refl

module _ {A : Type 0} (p q : A → Bool) (alike : (x : A) → p x ≡ q x) where
  prefix_len-alike : (xs : List A) → prefix_len (λ x. not (p x)) xs ≡ prefix_len (λ x. not (q x)) xs
  prefix_len-alike [] = refl
  prefix_len-alike (x ∷ xs) = rw (alike x, prefix_len-alike xs) refl

  position-alike : (xs : List A) → position p xs ≡ position q xs
  position-alike xs = rw (prefix_len-alike xs) refl

module _ {A : Type 0} (p : A → Bool) (xs ys : List A) where
  first_passing : position_or_len p (xs ++ ys)
      ≡ cond (position_or_len p xs == length xs) (length xs + position_or_len p ys) (position_or_len p xs)
  first_passing = prefix_len-append (λ x. not (p x)) xs ys

  within : position_or_len p xs ≤ length xs
  within = prefix_len-le-length (λ x. not (p x)) xs

  place-is : (n : ℕ) → position_or_len p (xs ++ ys) ≡ n → n < length xs + length ys → position p (xs ++ ys) ≡ Some n
  place-is n e l =
      let len : length (xs ++ ys) ≡ length xs + length ys = length-append xs ys in
      let less : nat_lt n (length xs + length ys) ≡ true = lt-ltb _ _ l in
      rw (e, len, less) refl

  pub in_first : (k : ℕ) → position p xs ≡ Some k → position p (xs ++ ys) ≡ Some k
  in_first k e =
      let here = cond_some (nat_lt (position_or_len p xs) (length xs)) (position_or_len p xs) k e in
      let less : position_or_len p xs < length xs = ltb-true _ _ here.0 in
      let same : position_or_len p xs ≡ k = here.1 in
      let other : (position_or_len p xs == length xs) ≡ false = ne_eqb _ _ (λ q. omega arith) in
      place-is k (first_passing ∙ rw other same) (omega arith)

  past : position p xs ≡ None → position_or_len p xs ≡ length xs
  past e = elim (cases_lt (position_or_len p xs) (length xs)) [
    | inl l ↦ let t : nat_lt (position_or_len p xs) (length xs) ≡ true = lt-ltb _ _ l in let f = rw t at e in absurd cc
    | inr l ↦ omega (arith, within)
  ]

  behind : position p xs ≡ None → position_or_len p (xs ++ ys) ≡ length xs + position_or_len p ys
  behind e =
      let all : (position_or_len p xs == length xs) ≡ true = eq-eqb _ _ (past e) in
      first_passing ∙ rw all refl

  pub in_second : position p xs ≡ None → (k : ℕ) → position p ys ≡ Some k → position p (xs ++ ys) ≡ Some (length xs + k)
  in_second e k f =
      let here = cond_some (nat_lt (position_or_len p ys) (length ys)) (position_or_len p ys) k f in
      let less : position_or_len p ys < length ys = ltb-true _ _ here.0 in
      let same : position_or_len p ys ≡ k = here.1 in
      place-is (length xs + k) (behind e ∙ ap (λ n. length xs + n) same) (omega arith)

  pub in_neither : position p xs ≡ None → position p ys ≡ None → position p (xs ++ ys) ≡ None
  in_neither e f = elim (cases_lt (position_or_len p ys) (length ys)) [
    | inl l ↦ let t : nat_lt (position_or_len p ys) (length ys) ≡ true = lt-ltb _ _ l in let g = rw t at f in absurd cc
    | inr l ↦
        let at = behind e in
        let len : length (xs ++ ys) ≡ length xs + length ys = length-append xs ys in
        let more : nat_lt (length xs + position_or_len p ys) (length xs + length ys) ≡ false =
        le-ltb _ _ (omega arith) in
        rw (at, len, more) refl
  ]

module _ (names : BodyNames) (w : Word) where
  among : position (bytes_eq w) (map (λ p. p.name) (filter (λ p. is_marshalled p.class) names.params))
      ≡ position (λ p. bytes_eq w p.name) (filter (λ p. is_marshalled p.class) names.params)
  among = position-map (λ p. p.name) (bytes_eq w) (filter (λ p. is_marshalled p.class) names.params)

  pub marshalled_block : (k : ℕ)
      → position (λ p. bytes_eq w p.name) (filter (λ p. is_marshalled p.class) names.params) ≡ Some k
      → block_of names w ≡ Some k
  marshalled_block k e = in_first (bytes_eq w) _ names.temporaries k (among ∙ e)

  module _ (e : position (λ p. bytes_eq w p.name) (filter (λ p. is_marshalled p.class) names.params) ≡ None) where
    pub temporary_block : (k : ℕ) → position (bytes_eq w) names.temporaries ≡ Some k
        → block_of names w ≡ Some (length (filter (λ p. is_marshalled p.class) names.params) + k)
    temporary_block k f =
        in_second (bytes_eq w) _ names.temporaries (among ∙ e) k f
        ∙ ap (λ n. Some (n + k)) (length-map (filter (λ p. is_marshalled p.class) names.params) (λ p. p.name))

    pub no_block : position (bytes_eq w) names.temporaries ≡ None → block_of names w ≡ None
    no_block f = in_neither (bytes_eq w) _ names.temporaries (among ∙ e) f

  pub any_param : is_param names w ≡ is_some (position (λ p. bytes_eq p.name w) names.params)
  any_param =
      ap is_some
      (position-alike (λ p. bytes_eq p.name w && true) (λ p. bytes_eq p.name w) (λ p. and_true (bytes_eq p.name w))
      names.params)
    where
      and_true : (b : Bool) → b && true ≡ b
      and_true true = refl
      and_true false = refl

pub ruleset blocks = (marshalled_block, temporary_block, no_block)
