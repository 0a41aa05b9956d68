-- The lexeme at the front is the longest one.
use Rattle.std.specs.Prelude.{if◌then◌else◌, ◌==◌, ◌&&◌, ◌||◌, nat_eq, codes, option_map, min, cond}
use Rattle.std.proofs.Common.{get_or, length-take, arith, ◌≡◌, ◌≢◌, ◌≤◌, ◌<◌, ◌+◌, ℕ, zero, suc, Bool, true, false, List, [], ◌∷◌, length, take, refl, ◌∙◌, ap, Option, Some, None}
use Rattle.std.specs.List.{prefix_len, starts_with, list_all}
use Rattle.std.specs.Char.{is_ascii_digit, is_ascii_hexdigit}
use Rattle.std.proofs.lemmas.List.{get_or-take}
use Rattle.std.proofs.lemmas.List.Sums.{prefix_len_stops, prefix_len-le-length}
use Rattle.std.proofs.lemmas.List.Folds.{list_all_at}
use Rattle.std.proofs.lemmas.Bool.{eqb-true, eq-eqb, ne_eqb, lt-ltb}
use Rattle.sgx_base.specs.Numbers.{is_decimal, is_hexadecimal}
use Rattle.edl_lexer.specs.Lexemes.{close_len, is_inside_text, has_hex_front}
use Rattle.edl_lexer.specs.Division.{is_text_end}

pub both : (a b : Bool) → a ≡ true → b ≡ true → (a && b) ≡ true
both a b p q = rw p q

pub left_false : (a b : Bool) → a ≡ false → (a && b) ≡ false
left_false a b p = rw p refl

pub right_false : (a b : Bool) → b ≡ false → (a && b) ≡ false
right_false true b p = p
right_false false b p = refl

pub neither : (a b : Bool) → a ≡ false → b ≡ false → (a || b) ≡ false
neither a b p q = rw p q

pub right_true : (a b : Bool) → b ≡ true → (a || b) ≡ true
right_true true b p = refl
right_true false b p = p

module _ (p : ℕ → Bool) where
  -- the longest front whose bytes all pass
  pub all_front : (xs : List ℕ) → list_all p (take (prefix_len p xs) xs) ≡ true
  all_front [] = refl
  all_front (x ∷ xs) = go (p x) refl (all_front xs)
    where
      go : (t : Bool) → p x ≡ t → list_all p (take (prefix_len p xs) xs) ≡ true → list_all p (take (cond t (1 + prefix_len p xs) 0) (x ∷ xs)) ≡ true
      go true e h = let one : 1 + prefix_len p xs ≡ suc (prefix_len p xs) = omega arith in rw one (both (p x) (list_all p (take (prefix_len p xs) xs)) e h)
      go false e h = refl

  pub all_longer : (xs : List ℕ) (m : ℕ) → prefix_len p xs < m → m ≤ length xs → list_all p (take m xs) ≡ false
  all_longer xs m l h =
      list_all_at p (take m xs) (prefix_len p xs) 0 (omega (arith, length-take m xs)) (ap p (get_or-take m xs (prefix_len p xs) 0 l) ∙ prefix_len_stops p xs 0 (omega arith))

  pub prefix_len-take : (xs : List ℕ) (m : ℕ) → prefix_len p (take m xs) ≡ min m (prefix_len p xs)
  prefix_len-take [] zero = refl
  prefix_len-take [] (suc m) = omega arith
  prefix_len-take (x ∷ xs) zero = omega arith
  prefix_len-take (x ∷ xs) (suc m) = go (p x) (prefix_len-take xs m)
    where
      go : (t : Bool) → prefix_len p (take m xs) ≡ min m (prefix_len p xs) → cond t (1 + prefix_len p (take m xs)) 0 ≡ min (suc m) (cond t (1 + prefix_len p xs) 0)
      go true h = omega arith
      go false h = omega arith

-- the end of a text
module _ (bytes : List ℕ) where
  abbrev inside : ℕ
  inside = prefix_len is_inside_text bytes

  pub text_closed : inside < length bytes → (get_or bytes inside 0 == 34) ≡ true → is_text_end (take (inside + 1) bytes) ≡ true
  text_closed l h =
      let pre : prefix_len is_inside_text (take (inside + 1) bytes) ≡ inside = omega (arith, prefix_len-take is_inside_text bytes (inside + 1)) in
      both _ _ (eq-eqb (length (take (inside + 1) bytes)) (prefix_len is_inside_text (take (inside + 1) bytes) + 1) (omega (arith, pre, length-take (inside + 1) bytes)))
      (ap (λ k. get_or (take (inside + 1) bytes) k 0 == 34) pre ∙ ap (λ b. b == 34) (get_or-take (inside + 1) bytes inside 0 (omega arith)) ∙ h)

  pub text_other : (m : ℕ) → m ≤ length bytes → m ≢ inside + 1 → is_text_end (take m bytes) ≡ false
  text_other m l ne =
      left_false _ _ (ne_eqb (length (take m bytes)) (prefix_len is_inside_text (take m bytes) + 1)
      (λ e. ne (omega (arith, e, prefix_len-take is_inside_text bytes m, length-take m bytes))))

  pub text_open : (get_or bytes inside 0 == 34) ≡ false → (m : ℕ) → m ≤ length bytes → is_text_end (take m bytes) ≡ false
  text_open h m l = go (m == inside + 1) refl
    where
      go : (t : Bool) → (m == inside + 1) ≡ t → is_text_end (take m bytes) ≡ false
      go true e =
          let is : m ≡ inside + 1 = eqb-true m (inside + 1) e in
          let pre : prefix_len is_inside_text (take m bytes) ≡ inside = omega (arith, prefix_len-take is_inside_text bytes m, is) in
          right_false _ _ (ap (λ k. get_or (take m bytes) k 0 == 34) pre ∙ ap (λ b. b == 34) (get_or-take m bytes inside 0 (omega arith)) ∙ h)
      go false e = text_other m l (λ is. let t : (m == inside + 1) ≡ true = eq-eqb m (inside + 1) is in cc)

-- the end of a comment
pub close-least : (bytes : List ℕ) (n : ℕ) → close_len bytes ≡ Some n → (2 ≤ n) × (n ≤ length bytes)
close-least [] n e = cc
close-least (b ∷ []) n e = cc
close-least (b ∷ c ∷ bytes) n e = go (b == 42 && c == 47) (close_len (c ∷ bytes)) (close-least (c ∷ bytes)) e
  where
    go : (t : Bool) (r : Option ℕ) → ((k : ℕ) → r ≡ Some k → (2 ≤ k) × (k ≤ length (c ∷ bytes))) → (if t then Some 2 else option_map suc r) ≡ Some n → (2 ≤ n) × (n ≤ length (b ∷ c ∷ bytes))
    go true r ih e = let q : 2 ≡ n = (cc) in (omega arith, omega arith)
    go false (Some k) ih e = let q : suc k ≡ n = (cc) in let w = ih k refl in (omega arith, omega arith)
    go false None ih e = cc

pub close-take : (bytes : List ℕ) (m n : ℕ) → close_len bytes ≡ Some n → n ≤ m → close_len (take m bytes) ≡ Some n
close-take [] m n e l = cc
close-take (b ∷ []) m n e l = cc
close-take (b ∷ c ∷ bytes) zero n e l = let w = close-least (b ∷ c ∷ bytes) n e in absurd (omega arith)
close-take (b ∷ c ∷ bytes) (suc zero) n e l = let w = close-least (b ∷ c ∷ bytes) n e in absurd (omega arith)
close-take (b ∷ c ∷ bytes) (suc (suc m)) n e l = go (b == 42 && c == 47) (close_len (c ∷ bytes)) (close-take (c ∷ bytes) (suc m)) e
  where
    go : (t : Bool) (r : Option ℕ) → ((k : ℕ) → r ≡ Some k → k ≤ suc m → close_len (c ∷ take m bytes) ≡ Some k) → (if t then Some 2 else option_map suc r) ≡ Some n
        → (if t then Some 2 else option_map suc (close_len (c ∷ take m bytes))) ≡ Some n
    go true r ih e = e
    go false (Some k) ih e = let q : suc k ≡ n = (cc) in ap (option_map suc) (ih k refl (omega arith)) ∙ ap Some q
    go false None ih e = cc

pub close-none : (bytes : List ℕ) (m : ℕ) → close_len bytes ≡ None → close_len (take m bytes) ≡ None
close-none [] zero e = refl
close-none [] (suc m) e = refl
close-none (b ∷ []) zero e = refl
close-none (b ∷ []) (suc zero) e = refl
close-none (b ∷ []) (suc (suc m)) e = refl
close-none (b ∷ c ∷ bytes) zero e = refl
close-none (b ∷ c ∷ bytes) (suc zero) e = refl
close-none (b ∷ c ∷ bytes) (suc (suc m)) e = go (b == 42 && c == 47) (close_len (c ∷ bytes)) (close-none (c ∷ bytes) (suc m)) e
  where
    go : (t : Bool) (r : Option ℕ) → (r ≡ None → close_len (c ∷ take m bytes) ≡ None) → (if t then Some 2 else option_map suc r) ≡ None
        → (if t then Some 2 else option_map suc (close_len (c ∷ take m bytes))) ≡ None
    go true r ih e = cc
    go false (Some k) ih e = cc
    go false None ih e = ap (option_map suc) (ih refl)

-- numbers
split_false : (s t u v : Bool) → (s && t) ≡ false → ((s && u) && (t && v)) ≡ false
split_false true true u v e = cc
split_false true false u v e = right_false u false refl
split_false false t u v e = refl

middle_false : (s t u : Bool) → t ≡ false → ((s && t) && u) ≡ false
middle_false s t u e = left_false (s && t) u (right_false s t e)

pub no_hexadecimal : (b : ℕ) (bytes : List ℕ) (j : ℕ) → has_hex_front (b ∷ bytes) ≡ false → is_hexadecimal (b ∷ take j bytes) ≡ false
no_hexadecimal b bytes zero e = middle_false (starts_with nat_eq (b ∷ []) (codes "0x")) _ _ refl
no_hexadecimal b [] (suc j) e = middle_false (starts_with nat_eq (b ∷ []) (codes "0x")) _ _ refl
no_hexadecimal b (c ∷ []) (suc zero) e = middle_false (starts_with nat_eq (b ∷ c ∷ []) (codes "0x")) _ _ refl
no_hexadecimal b (c ∷ []) (suc (suc j)) e = middle_false (starts_with nat_eq (b ∷ c ∷ []) (codes "0x")) _ _ refl
no_hexadecimal b (c ∷ h ∷ bytes) (suc zero) e = middle_false (starts_with nat_eq (b ∷ c ∷ []) (codes "0x")) _ _ refl
no_hexadecimal b (c ∷ h ∷ bytes) (suc (suc j)) e = split_false (starts_with nat_eq (b ∷ c ∷ []) (codes "0x")) (is_ascii_hexdigit h) _ _ e

-- a hexadecimal number behind its `0x`
pub hexadecimal_front : (bytes : List ℕ) → 0 < prefix_len is_ascii_hexdigit bytes → (is_decimal (48 ∷ 120 ∷ take (prefix_len is_ascii_hexdigit bytes) bytes) || is_hexadecimal (48 ∷ 120 ∷ take (prefix_len is_ascii_hexdigit bytes) bytes)) ≡ true
hexadecimal_front bytes l =
    right_true _ _ (both _ _ (lt-ltb 2 (length (48 ∷ 120 ∷ take (prefix_len is_ascii_hexdigit bytes) bytes)) (omega (arith, length-take (prefix_len is_ascii_hexdigit bytes) bytes, prefix_len-le-length is_ascii_hexdigit bytes))) (all_front is_ascii_hexdigit bytes))

pub hexadecimal_longer : (bytes : List ℕ) (j : ℕ) → prefix_len is_ascii_hexdigit bytes < j → j ≤ length bytes → (is_decimal (48 ∷ 120 ∷ take j bytes) || is_hexadecimal (48 ∷ 120 ∷ take j bytes)) ≡ false
hexadecimal_longer bytes j l h = neither _ _ (right_false _ _ refl) (right_false _ _ (all_longer is_ascii_hexdigit bytes j l h))

pub decimal_front : (b : ℕ) (bytes : List ℕ) → is_ascii_digit b ≡ true → (is_decimal (b ∷ take (prefix_len is_ascii_digit bytes) bytes) || is_hexadecimal (b ∷ take (prefix_len is_ascii_digit bytes) bytes)) ≡ true
decimal_front b bytes e =
    let l : is_decimal (b ∷ take (prefix_len is_ascii_digit bytes) bytes) ≡ true
    = both _ _ (lt-ltb 0 (length (b ∷ take (prefix_len is_ascii_digit bytes) bytes)) (omega arith)) (both _ _ e (all_front is_ascii_digit bytes)) in
    rw l refl

pub decimal_longer : (b : ℕ) (bytes : List ℕ) (j : ℕ) → has_hex_front (b ∷ bytes) ≡ false → prefix_len is_ascii_digit bytes < j → j ≤ length bytes → (is_decimal (b ∷ take j bytes) || is_hexadecimal (b ∷ take j bytes)) ≡ false
decimal_longer b bytes j e l h =
    neither _ _ (right_false _ _ (right_false (is_ascii_digit b) _ (all_longer is_ascii_digit bytes j l h))) (no_hexadecimal b bytes j e)
