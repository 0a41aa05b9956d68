-- Laws of texts that are put back up to their first unit 0.
use Rattle.std.proofs.Common.{ℕ, zero, suc, ◌+◌, ◌-◌, ◌*◌, ◌/◌, ◌%◌, ◌<◌, ◌≤◌, ◌≡◌, true, List, [], ◌∷◌, ◌++◌, length, take, drop, replicate, slice_index, Some, None, refl, ap, sym, ◌∙◌, subst, arith, unwrap_or, inl, inr, length-drop}
use Rattle.std.proofs.Math.Nat.{mul-le-mul_right, mul-div_cancel}
use Rattle.std.proofs.lemmas.Bool.{cases_lt, cases_Bool}
use Rattle.std.proofs.lemmas.List.{length-replicate, get_or-replicate, length-take-le, take-append-le, drop-append-le, drop_at, take_all}
use Rattle.sgx_base.specs.Bytes.{is_divisible}
use Rattle.sgx_base.specs.Texts.{is_zero_unit, terminated_length, terminated_text, cut_text}
use Rattle.word_port.specs.declared.Side.{Side}
use Rattle.word_port.specs.Port.{PortState, IsFull}
use Rattle.word_port.specs.Requests.{swap_of}
use Rattle.word_port.specs.Interaction.{Interaction, ask, and_then}
use Rattle.word_port.specs.Accesses.{word_at, stores}
use Rattle.word_port.specs.Runs.{Leads, Makes, StopsFull}
use Rattle.word_port.proofs.AccessLaws.{IsAnswerOf, stores_more, stores_full}
use Rattle.word_port.proofs.Laws.{makes_then, full_first, full_second}
use Rattle.call_copy.proofs.TextLaws.{unit_at, NoneBefore, none_first, none_more, text_found, text_none, length-text, unit_fits, no_rest}
use Rattle.word_port.specs.declared.Side.TheVariants.{Enclave}
use Rattle.call_copy.specs.declared.Shape.{Shape}
use Rattle.call_copy.specs.Copies.{copy_out}

stores-append : (side : Side) (at : ℕ) (xs ys : List ℕ) → stores side at (xs ++ ys) ≡ and_then (stores side at xs) (λ _. stores side (at + length xs) ys)
stores-append side at [] ys = let z : at ≡ at + 0 = omega arith in ap (λ a. stores side a ys) z
stores-append side at (x ∷ xs) ys =
    let e : (at + 1) + length xs ≡ at + suc (length xs) = omega arith in
    ap (λ t. ask (swap_of side (word_at at) x) (λ _. t))
    (stores-append side (at + 1) xs ys ∙ ap (λ a. and_then (stores side (at + 1) xs) (λ _. stores side a ys)) e)

-- stores after stores
pub stores_then : (side : Side) (at : ℕ) (xs ys : List ℕ) (old mid new : PortState) → Makes (stores side at xs) old mid tt → Makes (stores side (at + length xs) ys) mid new tt → Makes (stores side at (xs ++ ys)) old new tt
stores_then side at xs ys old mid new p q =
    subst (λ (t : Interaction (Unit {0})). Makes t old new tt) (sym (stores-append side at xs ys)) (makes_then (stores side at xs) (λ _. stores side (at + length xs) ys) old mid new tt tt p q)

pub stores_full_first : (side : Side) (at : ℕ) (xs ys : List ℕ) (old new : PortState) → StopsFull (stores side at xs) old new → StopsFull (stores side at (xs ++ ys)) old new
stores_full_first side at xs ys old new p =
    subst (λ (t : Interaction (Unit {0})). StopsFull t old new) (sym (stores-append side at xs ys)) (full_first (stores side at xs) (λ _. stores side (at + length xs) ys) old new p)

pub stores_full_then : (side : Side) (at : ℕ) (xs ys : List ℕ) (old mid new : PortState) → Makes (stores side at xs) old mid tt → StopsFull (stores side (at + length xs) ys) mid new → StopsFull (stores side at (xs ++ ys)) old new
stores_full_then side at xs ys old mid new p q =
    subst (λ (t : Interaction (Unit {0})). StopsFull t old new) (sym (stores-append side at xs ys)) (full_second (stores side at xs) (λ _. stores side (at + length xs) ys) old mid new tt p q)

-- units before the last one are those of the text
unit_kept : (unit j : ℕ) (body zeros : List ℕ) → j * unit + unit ≤ length body → unit_at unit (body ++ zeros) j ≡ unit_at unit body j
unit_kept unit j body zeros h =
    let a : j * unit ≤ length body = omega (arith, h) in
    let b : length (drop (j * unit) body) ≡ length body - j * unit = length-drop (j * unit) body in
    let c : unit ≤ length (drop (j * unit) body) = omega (arith, b, h) in
    ap (λ l. take unit l) (drop-append-le (j * unit) body zeros a) ∙ take-append-le unit (drop (j * unit) body) zeros c

zero_unit : (n : ℕ) → is_zero_unit (replicate n 0) ≡ true
zero_unit zero = refl
zero_unit (suc n) = zero_unit n

unit_last : (unit p : ℕ) (body : List ℕ) → length body ≡ p * unit → unit_at unit (body ++ replicate unit 0) p ≡ replicate unit 0
unit_last unit p body e =
    let w : length {A = ℕ} (replicate unit 0) ≤ unit = (let l : length {A = ℕ} (replicate unit 0) ≡ unit = length-replicate unit 0 in omega (arith, l)) in
    ap (λ l. take unit l) (drop_at body (replicate unit 0) (p * unit) e) ∙ take_all unit (replicate unit 0) w

none_kept : (unit k p : ℕ) (body zeros : List ℕ) → length body ≡ p * unit → k ≤ p → NoneBefore unit body k → NoneBefore unit (body ++ zeros) k
none_kept unit k p body zeros e h q = record {
  none = λ j w.
      let a : j + 1 ≤ p = omega (arith, w, h) in
      let b : (j + 1) * unit ≤ p * unit = mul-le-mul_right unit a in
      let c : j * unit + unit ≤ length body = omega (arith, b, e) in
      ap (λ u. is_zero_unit u) (unit_kept unit j body zeros c) ∙ q.none j w;
}

-- a text of p units and one more
pub record HasUnits (unit : ℕ) (bytes : List ℕ) (p : ℕ) : Type 0 where
  pub some : 0 < unit
  pub count : length bytes ≡ p * unit + unit
  pub whole : length bytes / unit ≡ p + 1
  pub before : (p * unit) / unit ≡ p

length_body : (unit : ℕ) (bytes : List ℕ) (p : ℕ) → HasUnits unit bytes p → length (take (length bytes - unit) bytes) ≡ p * unit
length_body unit bytes p q =
    let k : length bytes - unit ≤ length bytes = omega arith in
    let a : length (take (length bytes - unit) bytes) ≡ length bytes - unit = length-take-le (length bytes - unit) bytes k in
    omega (arith, a, q.count)

length_ended : (unit : ℕ) (bytes : List ℕ) (p : ℕ) → HasUnits unit bytes p → length (terminated_text unit bytes) ≡ length bytes
length_ended unit bytes p q = let w : unit ≤ length bytes = omega (arith, q.count) in length-text unit bytes w

ended_found : (unit k p : ℕ) (bytes : List ℕ) → HasUnits unit bytes p → k ≤ p → NoneBefore unit (take (length bytes - unit) bytes) k → is_zero_unit (unit_at unit (terminated_text unit bytes) k) ≡ true
    → cut_text unit bytes ≡ take ((k + 1) * unit) (terminated_text unit bytes)
ended_found unit k p bytes q h none here =
    let l : length (take (length bytes - unit) bytes) ≡ p * unit = length_body unit bytes p q in
    let t : length (terminated_text unit bytes) / unit ≡ p + 1 = ap (λ n. n / unit) (length_ended unit bytes p q) ∙ q.whole in
    let w : k < length (terminated_text unit bytes) / unit = omega (arith, t, h) in
    ap (λ o. take (unwrap_or o (length bytes)) (terminated_text unit bytes))
    (text_found unit k (terminated_text unit bytes) w (none_kept unit k p (take (length bytes - unit) bytes) (replicate unit 0) l h none) here)

-- the first unit 0 stands before the last one
pub cut_found : (unit k p : ℕ) (bytes : List ℕ) → HasUnits unit bytes p → k < p → NoneBefore unit (take (length bytes - unit) bytes) k → is_zero_unit (unit_at unit (take (length bytes - unit) bytes) k) ≡ true
    → ((k + 1) * unit ≤ length (take (length bytes - unit) bytes)) × (take ((k + 1) * unit) (take (length bytes - unit) bytes) ≡ cut_text unit bytes)
cut_found unit k p bytes q h none here =
    let l : length (take (length bytes - unit) bytes) ≡ p * unit = length_body unit bytes p q in
    let a : k + 1 ≤ p = omega (arith, h) in
    let b : (k + 1) * unit ≤ p * unit = mul-le-mul_right unit a in
    let c : (k + 1) * unit ≤ length (take (length bytes - unit) bytes) = omega (arith, b, l) in
    let d : k * unit + unit ≤ length (take (length bytes - unit) bytes) = omega (arith, c) in
    let w : k ≤ p = omega (arith, h) in (
      c,
      sym (ended_found unit k p bytes q w none (ap (λ u. is_zero_unit u) (unit_kept unit k (take (length bytes - unit) bytes) (replicate unit 0) d) ∙ here)
          ∙ take-append-le ((k + 1) * unit) (take (length bytes - unit) bytes) (replicate unit 0) c),
    )

-- no unit before the last one is 0
pub cut_none : (unit p : ℕ) (bytes : List ℕ) → HasUnits unit bytes p → NoneBefore unit (take (length bytes - unit) bytes) p → cut_text unit bytes ≡ terminated_text unit bytes
cut_none unit p bytes q none =
    let l : length (take (length bytes - unit) bytes) ≡ p * unit = length_body unit bytes p q in
    let n : length (terminated_text unit bytes) ≡ length bytes = length_ended unit bytes p q in
    let w : length (terminated_text unit bytes) ≤ (p + 1) * unit = omega (arith, n, q.count) in
    let h : p ≤ p = omega arith in
    ended_found unit p p bytes q h none (ap (λ u. is_zero_unit u) (unit_last unit p (take (length bytes - unit) bytes) l) ∙ zero_unit unit)
    ∙ take_all ((p + 1) * unit) (terminated_text unit bytes) w

-- the first unit 0 among so many, or none
pub data First (unit : ℕ) (bytes : List ℕ) (n : ℕ) : Type 0 where
  here_at : (k : ℕ) → k < n → NoneBefore unit bytes k → is_zero_unit (unit_at unit bytes k) ≡ true → First unit bytes n
  nowhere : NoneBefore unit bytes n → First unit bytes n

first_next : (unit : ℕ) (bytes : List ℕ) (n : ℕ) → NoneBefore unit bytes n → First unit bytes (n + 1)
first_next unit bytes n none = elim (cases_Bool (is_zero_unit (unit_at unit bytes n))) as (λ _. First unit bytes (n + 1)) [
  | inl here ↦ (let w : n < n + 1 = omega arith in here_at n w none here)
  | inr not_here ↦ nowhere (none_more unit bytes n none not_here)
]

first_more : (unit : ℕ) (bytes : List ℕ) (n : ℕ) → First unit bytes n → First unit bytes (n + 1)
first_more unit bytes n (here_at k h none here) = (let w : k < n + 1 = omega (arith, h) in here_at k w none here)
first_more unit bytes n (nowhere none) = first_next unit bytes n none

pub first_of_units : (unit : ℕ) (bytes : List ℕ) (n : ℕ) → First unit bytes n
first_of_units unit bytes zero = nowhere (none_first unit bytes)
first_of_units unit bytes (suc n) = let e : n + 1 ≡ suc n = omega arith in subst (λ k. First unit bytes k) e (first_more unit bytes n (first_of_units unit bytes n))

rest_none : (unit n : ℕ) → 0 < unit → is_divisible n unit ≡ true → n % unit ≡ 0
rest_none zero n s d = absurd (omega (arith, s))
rest_none (suc u) n s d = no_rest u n d

-- a text of whole units has some
pub has_units : (unit : ℕ) (bytes : List ℕ) → 0 < length bytes → is_divisible (length bytes) unit ≡ true → HasUnits unit bytes (length bytes / unit - 1)
has_units unit bytes h d =
    let f : (0 < unit) × (unit ≤ length bytes) = unit_fits unit (length bytes) d h in
    let s : 0 < unit = f.0 in
    let r : length bytes % unit ≡ 0 = rest_none unit (length bytes) s d in
    let m : unit * (length bytes / unit) ≡ length bytes = omega (arith, s, r) in
    let q : 0 < length bytes / unit = elim (cases_lt 0 (length bytes / unit)) as (λ _. 0 < length bytes / unit) [
      | inl some ↦ some
      | inr none ↦
          let z : length bytes / unit ≡ 0 = omega (arith, none) in
          let a : unit * (length bytes / unit) ≡ unit * 0 = ap (λ k. unit * k) z in
          absurd (omega (arith, a, m, h))
    ] in
    let e : (length bytes / unit - 1) + 1 ≡ length bytes / unit = omega (arith, q) in
    let g : ((length bytes / unit - 1) + 1) * unit ≡ (length bytes / unit) * unit = ap (λ k. k * unit) e in
    record {
      some = s;
      count = omega (arith, g, m);
      whole = sym e;
      before = mul-div_cancel (length bytes / unit - 1) s;
    }

body_units : (unit : ℕ) (bytes : List ℕ) (p : ℕ) → HasUnits unit bytes p → length (take (length bytes - unit) bytes) / unit ≡ p
body_units unit bytes p q = ap (λ n. n / unit) (length_body unit bytes p q) ∙ q.before

abbrev SomeCut : ℕ → List ℕ → ℕ → Type 0
SomeCut unit bytes n = (n ≤ length (take (length bytes - unit) bytes)) × (take n (take (length bytes - unit) bytes) ≡ cut_text unit bytes)

some_same : (a b : ℕ) → Some a ≡ Some b → a ≡ b
some_same a b e = cc

some_first : (unit n p : ℕ) (bytes : List ℕ) → HasUnits unit bytes p → First unit (take (length bytes - unit) bytes) p → terminated_length unit (take (length bytes - unit) bytes) ≡ Some n → SomeCut unit bytes n
some_first unit n p bytes q (here_at k h none here) e =
    let b : length (take (length bytes - unit) bytes) / unit ≡ p = body_units unit bytes p q in
    let w : k < length (take (length bytes - unit) bytes) / unit = omega (arith, b, h) in
    let f : (k + 1) * unit ≡ n = some_same ((k + 1) * unit) n (sym (text_found unit k (take (length bytes - unit) bytes) w none here) ∙ e) in
    subst (λ i. SomeCut unit bytes i) f (cut_found unit k p bytes q h none here)
some_first unit n p bytes q (nowhere none) e =
    let b : length (take (length bytes - unit) bytes) / unit ≡ p = body_units unit bytes p q in
    let w : length (take (length bytes - unit) bytes) / unit ≤ p = omega (arith, b) in
    let f : None ≡ Some n = sym (text_none unit p (take (length bytes - unit) bytes) w none) ∙ e in
    absurd (cc)

none_of : (unit p : ℕ) (bytes : List ℕ) → HasUnits unit bytes p → First unit (take (length bytes - unit) bytes) p → terminated_length unit (take (length bytes - unit) bytes) ≡ None → cut_text unit bytes ≡ terminated_text unit bytes
none_of unit p bytes q (here_at k h none here) e =
    let b : length (take (length bytes - unit) bytes) / unit ≡ p = body_units unit bytes p q in
    let w : k < length (take (length bytes - unit) bytes) / unit = omega (arith, b, h) in
    let f : Some ((k + 1) * unit) ≡ None = sym (text_found unit k (take (length bytes - unit) bytes) w none here) ∙ e in
    absurd (cc)
none_of unit p bytes q (nowhere none) e = cut_none unit p bytes q none

-- a text with a unit 0 before its last one is put back up to it
pub cut_some : (unit n : ℕ) (bytes : List ℕ) → 0 < length bytes → is_divisible (length bytes) unit ≡ true → terminated_length unit (take (length bytes - unit) bytes) ≡ Some n
    → (n ≤ length (take (length bytes - unit) bytes)) × (take n (take (length bytes - unit) bytes) ≡ cut_text unit bytes)
cut_some unit n bytes h d e =
    some_first unit n (length bytes / unit - 1) bytes (has_units unit bytes h d) (first_of_units unit (take (length bytes - unit) bytes) (length bytes / unit - 1)) e

-- a text with none is put back whole, its last unit 0
pub cut_whole : (unit : ℕ) (bytes : List ℕ) → 0 < length bytes → is_divisible (length bytes) unit ≡ true → terminated_length unit (take (length bytes - unit) bytes) ≡ None
    → cut_text unit bytes ≡ terminated_text unit bytes
cut_whole unit bytes h d e =
    none_of unit (length bytes / unit - 1) bytes (has_units unit bytes h d) (first_of_units unit (take (length bytes - unit) bytes) (length bytes / unit - 1)) e

-- a text is put back by its cut
pub text_back : (shape : Shape) (at : ℕ) (bytes back : List ℕ) → shape.text ≡ true → back ≡ bytes → stores Enclave at (cut_text shape.unit back) ≡ copy_out shape at bytes
unfolding copy_out
text_back shape at bytes back e same = rw (e, same)

-- one more zero is stored
pub zeros_more : (side : Side) (at past i k count found : ℕ) (old mid new : PortState)
    → Leads (stores side (at + past) (replicate count 0)) old mid (stores side ((at + past) + i) (drop i (replicate count 0))) → i < count → k ≡ i
    → IsAnswerOf (swap_of side (word_at (at + (past + k))) 0) found mid new
    → Leads (stores side (at + past) (replicate count 0)) old new (stores side ((at + past) + (i + 1)) (drop (i + 1) (replicate count 0)))
zeros_more side at past i k count found old mid new p h e q =
    let l : length {A = ℕ} (replicate count 0) ≡ count = length-replicate count 0 in
    let w : i < length {A = ℕ} (replicate count 0) = omega (arith, l, h) in
    let a : at + (past + k) ≡ (at + past) + i = omega (arith, e) in
    let v : 0 ≡ slice_index (replicate count 0) i = sym (get_or-replicate count i 0 0 h) in
    let r : IsAnswerOf (swap_of side (word_at ((at + past) + i)) 0) found mid new = subst (λ x. IsAnswerOf (swap_of side (word_at x) 0) found mid new) a q in
    stores_more side (at + past) i found (replicate count 0) old mid new p w (subst (λ x. IsAnswerOf (swap_of side (word_at ((at + past) + i)) x) found mid new) v r)

-- the log is full, and some zeros are to come
pub zeros_full : (side : Side) (at i count : ℕ) (old mid new : PortState)
    → Leads (stores side at (replicate count 0)) old mid (stores side (at + i) (drop i (replicate count 0))) → i < count → IsFull new → new ≡ mid
    → StopsFull (stores side at (replicate count 0)) old new
zeros_full side at i count old mid new p h full e =
    let l : length {A = ℕ} (replicate count 0) ≡ count = length-replicate count 0 in
    let w : i < length {A = ℕ} (replicate count 0) = omega (arith, l, h) in
    stores_full side at i (replicate count 0) old new (subst (λ x. Leads (stores side at (replicate count 0)) old x (stores side (at + i) (drop i (replicate count 0)))) (sym e) p) w full
