-- The fields of a marshalling structure, byte by byte.
use Rattle.std.proofs.Common.{ℕ, zero, suc, ◌+◌, ◌-◌, ◌/◌, ◌%◌, ◌<◌, ◌≤◌, ◌≡◌, List, [], ◌∷◌, ◌++◌, length, take, drop, slice_set, slice_get, Some, get_or, refl, ap, sym, ◌∙◌, subst, arith, append_assoc, append-nil}
use Rattle.std.proofs.lemmas.List.{take_more_set, drop-set-lt, take-append-drop}
use Rattle.std.proofs.lemmas.Option.{slice_get_read}
use Rattle.sgx_base.specs.Bytes.{low_bytes, with_bytes_at}

one_more : (s : List ℕ) (k b : ℕ) (bs : List ℕ) → k < length s → with_bytes_at (slice_set s k b) (k + 1) bs ≡ with_bytes_at s k (b ∷ bs)
one_more s k b bs h =
    let past : k < (k + 1) + length bs = omega arith in
    let same : (k + 1) + length bs ≡ k + suc (length bs) = omega arith in
    ap (λ l. l ++ bs ++ drop ((k + 1) + length bs) (slice_set s k b)) (take_more_set s k b h)
    ∙ ap (λ l. (take k s ++ b ∷ []) ++ bs ++ l) (drop-set-lt ((k + 1) + length bs) s k b past)
    ∙ ap (λ n. (take k s ++ b ∷ []) ++ bs ++ drop n s) same
    ∙ ap (λ l. l ++ drop (k + suc (length bs)) s) (append_assoc (take k s) (b ∷ []) bs)

low_first : (count n : ℕ) → 0 < count → low_bytes count n ≡ n % 256 ∷ low_bytes (count - 1) (n / 256)
low_first zero n h = absurd (omega (arith, h))
low_first (suc count) n h = let same : suc count - 1 ≡ count = omega arith in ap (λ k. n % 256 ∷ low_bytes k (n / 256)) (sym same)

pub number_begins : (s : List ℕ) (at size n : ℕ) → with_bytes_at s (at + 0) (low_bytes (size - 0) n) ≡ with_bytes_at s at (low_bytes size n)
number_begins s at size n =
    let a : at + 0 ≡ at = omega arith in let b : size - 0 ≡ size = omega arith in
    ap (λ k. with_bytes_at s k (low_bytes (size - 0) n)) a ∙ ap (λ k. with_bytes_at s at (low_bytes k n)) b

-- one more byte of a number is written
pub number_more : (s all : List ℕ) (at size i n : ℕ) → at + size ≤ length s → i < size → with_bytes_at s (at + i) (low_bytes (size - i) n) ≡ all
    → with_bytes_at (slice_set s (at + i) (n % 256)) (at + (i + 1)) (low_bytes (size - (i + 1)) (n / 256)) ≡ all
number_more s all at size i n fits h e =
    let some : 0 < size - i = omega (arith, h) in
    let below : at + i < length s = omega (arith, fits, h) in
    let place : at + (i + 1) ≡ (at + i) + 1 = omega arith in
    let count : size - (i + 1) ≡ (size - i) - 1 = omega arith in
    ap (λ k. with_bytes_at (slice_set s (at + i) (n % 256)) k (low_bytes (size - (i + 1)) (n / 256))) place
    ∙ ap (λ k. with_bytes_at (slice_set s (at + i) (n % 256)) ((at + i) + 1) (low_bytes k (n / 256))) count
    ∙ one_more s (at + i) (n % 256) (low_bytes ((size - i) - 1) (n / 256)) below
    ∙ ap (λ l. with_bytes_at s (at + i) l) (sym (low_first (size - i) n some)) ∙ e

-- all bytes are written
pub number_ends : (s all : List ℕ) (at size i n : ℕ) → i ≡ size → with_bytes_at s (at + i) (low_bytes (size - i) n) ≡ all → s ≡ all
number_ends s all at size i n h e =
    let none : size - i ≡ 0 = omega (arith, h) in
    let place : (at + i) + 0 ≡ at + i = omega arith in
    sym (ap (λ k. with_bytes_at s (at + i) (low_bytes k n)) none
    ∙ ap (λ l. l ++ drop ((at + i) + 0) s) (append-nil (take (at + i) s))
    ∙ ap (λ k. take (at + i) s ++ drop k s) place ∙ take-append-drop (at + i) s) ∙ e

-- the element that is read at an index
pub read_at : {X : Type 0} (xs ys : List X) (i : ℕ) (x : X) → xs ≡ ys → i < length xs → x ≡ get_or xs i x → slice_get ys i ≡ Some x
read_at xs ys i x same h e = subst (λ l. slice_get l i ≡ Some x) same (slice_get_read xs (length xs) i x refl h e)

-- what is left of a list from a place on
pub drop_at : {X : Type 0} (xs : List X) (i : ℕ) (x : X) → slice_get xs i ≡ Some x → drop i xs ≡ x ∷ drop (i + 1) xs
drop_at [] i x e = cc
drop_at (y ∷ xs) zero x e = let same : y ≡ x = cc in ap (λ z. z ∷ xs) same
drop_at (y ∷ xs) (suc i) x e =
    let next : suc (i + 1) ≡ suc i + 1 = omega arith in
    drop_at xs i x e ∙ ap (λ k. x ∷ drop k (y ∷ xs)) next

pub nothing_left : {X : Type 0} (xs : List X) (i : ℕ) → length xs ≤ i → drop i xs ≡ []
nothing_left [] zero h = refl
nothing_left [] (suc i) h = refl
nothing_left (x ∷ xs) zero h = absurd (omega (arith, h))
nothing_left (x ∷ xs) (suc i) h = let w : length xs ≤ i = omega (arith, h) in nothing_left xs i w
