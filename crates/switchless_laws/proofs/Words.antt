-- The tags of a slot's words, and lists of words.
use Rattle.std.proofs.Common.{ℕ, zero, suc, ◌+◌, ◌*◌, ◌%◌, ◌^◌, ◌≡◌, ◌≢◌, ◌==◌, ◌<◌, IsTrue, Bool, true, false, ◌&&◌, nat_lt, List, [], ◌∷◌, Some, slice_get, slice_set, refl, ap, arith}
use Rattle.std.proofs.lemmas.Bool.{eqb-true, eq-eqb, ne_eqb, ltb-true, lt-ltb}
use Rattle.switchless.specs.Slots.{is_offered, is_done, done_word, ordinal_in, place_in, status_in}
use Rattle.switchless_laws.specs.Tallies.{done_in, one_if}

first_true : (a b : Bool) → IsTrue (a && b) → a ≡ true
first_true true b h = refl
first_true false b h = cc

pub offered_tag : (w : ℕ) → IsTrue (is_offered w) → w % 4 ≡ 1
offered_tag w h = eqb-true (w % 4) 1 (first_true (w % 4 == 1) (nat_lt w (2 ^ 35)) h)

pub accepted_tag : (w : ℕ) → w % 4 ≡ 1 → (w + 1) % 4 ≡ 2
accepted_tag w h = omega arith

pub done_tag : (w status : ℕ) → w % 4 ≡ 1 → done_word w status % 4 ≡ 3
done_tag w status h = omega arith

pub is_done-tag : (n : ℕ) → is_done n ≡ true → n % 4 ≡ 3
is_done-tag n h = eqb-true (n % 4) 3 h

-- a word that is not done counts as nothing
pub nothing_done : (test : ℕ → Bool) (n : ℕ) → n % 4 ≢ 3 → done_in test n ≡ 0
nothing_done test n h = ap (λ b. one_if (b && test n)) (ne_eqb (n % 4) 3 h)

-- a word that is done counts by the test
pub one_done : (test : ℕ → Bool) (n : ℕ) → n % 4 ≡ 3 → done_in test n ≡ one_if (test n)
one_done test n h = ap (λ b. one_if (b && test n)) (eq-eqb (n % 4) 3 h)

-- a word that was there is there with its new value
pub get-set_same : (words : List ℕ) (i a b : ℕ) → slice_get words i ≡ Some a → slice_get (slice_set words i b) i ≡ Some b
get-set_same [] i a b h = cc
get-set_same (x ∷ words) zero a b h = refl
get-set_same (x ∷ words) (suc i) a b h = get-set_same words i a b h

-- another element stays
pub get-set_other : {A : Type 0} (xs : List A) (i k : ℕ) (b : A) → k ≢ i → slice_get (slice_set xs i b) k ≡ slice_get xs k
get-set_other [] i k b h = refl
get-set_other (x ∷ xs) zero zero b h = absurd (h refl)
get-set_other (x ∷ xs) zero (suc k) b h = refl
get-set_other (x ∷ xs) (suc i) zero b h = refl
get-set_other (x ∷ xs) (suc i) (suc k) b h = get-set_other xs i k b (λ e. h (ap (λ n. suc n) e))

pub some-injective : {A : Type 0} (a b : A) → Some a ≡ Some b → a ≡ b
some-injective a b e = cc

-- a served word tells of the same call
pub done_ordinal : (w status : ℕ) → w % 4 ≡ 1 → ordinal_in (done_word w status) ≡ ordinal_in w
done_ordinal w status h = omega (arith, h)

pub done_place : (w status : ℕ) → w % 4 ≡ 1 → place_in (done_word w status) ≡ place_in w
done_place w status h = omega (arith, h)

second_true : (a b : Bool) → IsTrue (a && b) → b ≡ true
second_true true b h = h
second_true false b h = cc

pub done_status : (w status : ℕ) → IsTrue (is_offered w) → status_in (done_word w status) ≡ status
done_status w status h =
    let tag : w % 4 ≡ 1 = offered_tag w h in
    let short : w < 2 ^ 35 = ltb-true w (2 ^ 35) (second_true (w % 4 == 1) (nat_lt w (2 ^ 35)) h) in
    omega (arith, tag, short)

both_hold : (a b : Bool) → a ≡ true → b ≡ true → IsTrue (a && b)
both_hold true b p q = q
both_hold false b p q = cc

pub offered_of : (ordinal place : ℕ) → ordinal < 2 ^ 16 → place < 2 ^ 17 → IsTrue (is_offered (1 + 4 * ordinal + 2 ^ 18 * place + 2 ^ 35 * 0))
offered_of ordinal place p q =
    let w : ℕ = 1 + 4 * ordinal + 2 ^ 18 * place + 2 ^ 35 * 0 in
    both_hold (w % 4 == 1) (nat_lt w (2 ^ 35)) (eq-eqb (w % 4) 1 (omega arith)) (lt-ltb w (2 ^ 35) (omega (arith, p, q)))

pub ordinal_of : (ordinal place : ℕ) → ordinal < 2 ^ 16 → ordinal_in (1 + 4 * ordinal + 2 ^ 18 * place + 2 ^ 35 * 0) ≡ ordinal
ordinal_of ordinal place p = omega (arith, p)

pub place_of : (ordinal place : ℕ) → ordinal < 2 ^ 16 → place < 2 ^ 17 → place_in (1 + 4 * ordinal + 2 ^ 18 * place + 2 ^ 35 * 0) ≡ place
place_of ordinal place p q = omega (arith, p, q)
