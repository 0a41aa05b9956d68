-- The words of the numbers in a sample's calls.
use Rattle.std.proofs.Common.{ℕ, zero, suc, ◌≡◌, ◌<◌, ◌≤◌, ◌+◌, ◌*◌, Bool, true, false, ◌++◌, length, codes, refl, arith, subst, inl, inr}
use Rattle.std.proofs.lemmas.Bool.{cases_lt}
use Rattle.std.specs.Prelude.{◌&&◌, nat_lt, decimal}
use Rattle.std.specs.List.{list_all, range_with_len}
use Rattle.std.specs.Fmt.{digits}
use Rattle.edl_interface.specs.declared.Class.{Class}
use Rattle.edl_interface.specs.declared.Class.TheVariants.{Plain as by_value}
use Rattle.call_script.specs.Spelling.{Word, is_word}
use Rattle.sample_laws.specs.Sampled.{word_type, buffer_class}
use Rattle.sample_laws.proofs.CallRows.{is_fine, IsFineWord, fine_word}
use Rattle.sample_laws.proofs.Texts.{has_no_feed}
use Rattle.sample_laws.proofs.Calls.{IsNumeral}

-- the digits of an address, and those of a length
abbrev pub address_digits : ℕ → Word
address_digits place = digits 16 false (65536 + 64 * place)

abbrev pub address_word : ℕ → Word
address_word place = codes "@0x" ++ address_digits place

-- the same as a test
abbrev is_numeral : Word → Bool
is_numeral w = nat_lt 0 (length w) && list_all is_word w && has_no_feed w

abbrev pub is_fine_address : ℕ → Bool
is_fine_address place = is_numeral (address_digits place) && is_fine buffer_class (address_word place)

abbrev pub is_fine_size : ℕ → Bool
is_fine_size size = is_numeral (decimal size) && is_fine (by_value word_type) (decimal size)

addresses_fine : list_all is_fine_address (range_with_len 0 8) ≡ true
unfolding digits
addresses_fine = refl

sizes_fine : list_all is_fine_size (range_with_len 0 65) ≡ true
unfolding digits
sizes_fine = refl

both : (a b : Bool) → (a && b) ≡ true → (a ≡ true) × (b ≡ true)
both true b h = (refl, h)
both false b h = absurd cc

all_three : (a b c : Bool) → (a && b && c) ≡ true → (a ≡ true) × (b ≡ true) × (c ≡ true)
all_three true true c h = (refl, refl, h)
all_three true false c h = absurd cc
all_three false b c h = absurd cc

numeral : (w : Word) → is_numeral w ≡ true → IsNumeral w
numeral w h =
    let all = all_three (nat_lt 0 (length w)) (list_all is_word w) (has_no_feed w) h in record { some = all.0; one_word = all.1; one_line = all.2 }

-- what holds of all numbers of a range holds of each
at_each : (test : ℕ → Bool) (start n k : ℕ) → list_all test (range_with_len start n) ≡ true → start ≤ k → k < start + n → test k ≡ true
at_each test start zero k h low high = absurd (omega (arith, low, high))
at_each test start (suc n) k h low high =
    let parts = both (test start) (list_all test (range_with_len (start + 1) n)) h in
    elim (cases_lt start k) as (λ _. test k ≡ true) [
      | inl less ↦ at_each test (start + 1) n k parts.1 (omega (arith, less)) (omega (arith, high))
      | inr same ↦ let e : start ≡ k = omega (arith, same, low) in subst (λ (j : ℕ). test j ≡ true) e parts.0
    ]

pub record IsFineNumeral (class : Class) (digits word : Word) : Type 0 where
  pub numeral : IsNumeral digits
  pub fine : IsFineWord class word

pub address_fine : (place : ℕ) → place < 8 → IsFineNumeral buffer_class (address_digits place) (address_word place)
address_fine place h =
    let e : is_fine_address place ≡ true = at_each is_fine_address 0 8 place addresses_fine (omega arith) (omega (arith, h)) in
    let parts = both (is_numeral (address_digits place)) (is_fine buffer_class (address_word place)) e in
    record { numeral = numeral (address_digits place) parts.0; fine = fine_word buffer_class (address_word place) parts.1 }

pub size_fine : (size : ℕ) → size < 65 → IsFineNumeral (by_value word_type) (decimal size) (decimal size)
size_fine size h =
    let e : is_fine_size size ≡ true = at_each is_fine_size 0 65 size sizes_fine (omega arith) (omega (arith, h)) in
    let parts = both (is_numeral (decimal size)) (is_fine (by_value word_type) (decimal size)) e in
    record { numeral = numeral (decimal size) parts.0; fine = fine_word (by_value word_type) (decimal size) parts.1 }
