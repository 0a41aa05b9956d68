-- The digits of a number, one at a time.
use Rattle.std.proofs.Common.{ℕ, zero, suc, ◌+◌, ◌-◌, ◌*◌, ◌/◌, ◌%◌, ◌<◌, ◌≤◌, ◌≡◌, List, [], ◌∷◌, ◌++◌, length, take, drop, get_or, map, reverse, Option, Some, None, unwrap_or, refl, ap, sym, ◌∙◌, arith, append_assoc}
use Rattle.std.proofs.lemmas.Nat.{div-add-mod'}
use Rattle.std.proofs.lemmas.List.{reverse-append, map-append, take_all}
use Rattle.std.proofs.lemmas.Int.Digits.{digits_of_step}
use Rattle.std.specs.Int.Digits.{digits_of}
use Rattle.edl_layout.specs.Shape.{elements}
use Rattle.bridge_text.specs.Products.{low_digits, digit_bytes}

pub low_zero : low_digits 0 ≡ []
unfolding low_digits
low_zero = refl

pub low_step : (n : ℕ) → 0 < n → low_digits n ≡ n % 10 ∷ low_digits (n / 10)
unfolding low_digits
low_step n h = ap reverse (digits_of_step 10 n (omega arith) h) ∙ reverse-append (digits_of 10 (n / 10)) (n % 10 ∷ [])

pub bytes_zero : digit_bytes 0 ≡ []
unfolding digit_bytes
bytes_zero = refl

pub bytes_step : (n : ℕ) → 0 < n → digit_bytes n ≡ digit_bytes (n / 10) ++ (48 + n % 10) ∷ []
unfolding digit_bytes
bytes_step n h =
    ap (map (λ d. 48 + d)) (digits_of_step 10 n (omega arith) h) ∙ map-append (λ d. 48 + d) (digits_of 10 (n / 10)) (n % 10 ∷ [])

pub low_one : 1 ∷ [] ≡ low_digits 1
unfolding low_digits
low_one = refl

-- what the digits of a number begin with, and the digits behind
pub record Front (ds : List ℕ) (n : ℕ) : Type 0 where
  pub some : 0 < n
  pub first : get_or ds 0 0 ≡ n % 10
  pub others : take (length ds - 1) (drop 1 ds) ≡ low_digits (n / 10)

behind : {A : Type 0} (x : A) (xs : List A) → take (length (x ∷ xs) - 1) (drop 1 (x ∷ xs)) ≡ xs
behind x xs = let one : length (x ∷ xs) - 1 ≡ length xs = omega arith in rw one (take_all (length xs) xs (omega arith))

pub front : (ds : List ℕ) (n : ℕ) → 1 ≤ length ds → ds ≡ low_digits n → Front ds n
front [] n h e = absurd (omega arith)
front (d ∷ ds) zero h e = let f : d ∷ ds ≡ [] = e ∙ low_zero in absurd (cc)
front (d ∷ ds) (suc n) h e =
    let f : d ∷ ds ≡ suc n % 10 ∷ low_digits (suc n / 10) = e ∙ low_step (suc n) (omega arith) in
    let g : d ≡ suc n % 10 = cc in
    let k : ds ≡ low_digits (suc n / 10) = cc in
    record { some = omega arith; first = g; others = behind d ds ∙ k }

-- a number without digits is 0
pub no_digits : (ds : List ℕ) (n : ℕ) → length ds < 1 → ds ≡ low_digits n → n ≡ 0
no_digits (d ∷ ds) n h e = absurd (omega arith)
no_digits [] zero h e = refl
no_digits [] (suc n) h e =
    let f : [] ≡ suc n % 10 ∷ low_digits (suc n / 10) = e ∙ low_step (suc n) (omega arith) in absurd (cc)

pub carried : (n f c : ℕ) → n ≡ 0 → c ≡ n * f + c
carried zero f c e = omega arith
carried (suc n) f c e = absurd (cc)

pub no_bytes : (n : ℕ) → n ≡ 0 → digit_bytes n ≡ []
no_bytes n e = ap digit_bytes e ∙ bytes_zero

times_sum : (q d f : ℕ) → (q * 10 + d) * f ≡ 10 * (q * f) + d * f
times_sum q d f = omega arith

-- a product and what is carried into it, from its last digit on
pub product_step : (n f c : ℕ) → 0 < n → 0 < f
    → low_digits (n * f + c) ≡ (n % 10 * f + c) % 10 ∷ low_digits (n / 10 * f + (n % 10 * f + c) / 10)
product_step n f c h k =
    let sum = n % 10 * f + c in
    let whole : n * f ≡ 10 * (n / 10 * f) + n % 10 * f = ap (λ m. m * f) (sym (div-add-mod' n 10)) ∙ times_sum (n / 10) (n % 10) f in
    let front : (n * f + c) / 10 ≡ n / 10 * f + (n % 10 * f + c) / 10 = omega (arith, whole) in
    let last : (n * f + c) % 10 ≡ (n % 10 * f + c) % 10 = omega (arith, whole) in
    let some : 0 < n * f + c = grind arith in
    low_step (n * f + c) some ∙ rw (front, last) refl

-- a digit of a product is pushed, and then the digits behind it
pub product_grows : (old mid : List ℕ) (n f c d g : ℕ) → 0 < n → 0 < f → d ≡ n % 10 → g ≡ f → mid ≡ old ++ (d * g + c) % 10 ∷ []
    → mid ++ low_digits (n / 10 * f + (d * g + c) / 10) ≡ old ++ low_digits (n * f + c)
product_grows old mid n f c d g h k digit factor pushed =
    rw (pushed, digit, factor)
    (append_assoc old ((n % 10 * f + c) % 10 ∷ []) (low_digits (n / 10 * f + (n % 10 * f + c) / 10))
    ∙ ap (λ l. old ++ l) (sym (product_step n f c h k)))

-- the digits behind are printed, and then a digit
pub bytes_grow : (old mid new : List ℕ) (n d : ℕ) → 0 < n → d ≡ n % 10 → mid ≡ old ++ digit_bytes (n / 10) → new ≡ mid ++ (48 + d % 10) ∷ []
    → new ≡ old ++ digit_bytes n
bytes_grow old mid new n d h digit behind_is pushed =
    let same : d % 10 ≡ n % 10 = omega arith in
    pushed ∙ rw (same, behind_is) (append_assoc old (digit_bytes (n / 10)) ((48 + n % 10) ∷ []) ∙ ap (λ l. old ++ l) (sym (bytes_step n h)))

-- the elements of an array, by its first dimension
pub elements_behind : (dims : List (Option ℕ)) (d : Option ℕ) → 1 ≤ length dims
    → elements dims ≡ unwrap_or (get_or dims 0 d) 0 * elements (take (length dims - 1) (drop 1 dims))
elements_behind [] d h = absurd (omega arith)
elements_behind (None ∷ dims) d h = omega arith
elements_behind (Some n ∷ dims) d h = rw (behind (Some n) dims) refl

pub regrouped : (n f e m : ℕ) → e ≡ f * m → n * f * m ≡ n * e
regrouped n f e m e_is = rw e_is (omega arith)
