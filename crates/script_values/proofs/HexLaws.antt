-- What hexadecimal digits spell.
use Rattle.std.proofs.Common.{arith, ℕ, ◌*◌, ◌/◌, ◌%◌, ◌≡◌, true, false, List, [], ◌∷◌, length, Result, Ok, Err, refl, sym, inl, inr}
use Rattle.std.specs.Prelude.{◌||◌, ◌==◌, not, unwrap_or, is_none, codes}
use Rattle.std.specs.List.{list_all}
use Rattle.std.proofs.lemmas.Bool.{ne_eqb, eq-eqb, or_left, or_right, not_from_false}
use Rattle.std.proofs.lemmas.List.Folds.{list_all_at}
use Rattle.std.proofs.lemmas.List.Sums.{list_all-from_AllPass}
use Rattle.hex.specs.Hex.{decode_of, is_hex_digit}
use Rattle.hex.specs.declared.error.FromHexError.{FromHexError}
use Rattle.hex.proofs.HexLemmas.{decode_of-ok, decode_of-err}
use Rattle.call_script.specs.Spelling.{Word, some_bytes, is_bad_hex, spelled_bytes}

module _ (w : Word) where
  bad_by : (r : Result (List ℕ) FromHexError) → decode_of w ≡ r
      → is_none (some_bytes r) ≡ (length w == 0) || (length w % 2 == 1 || not (list_all is_hex_digit w))
  bad_by (Ok []) e =
      let ok = decode_of-ok w [] e in
      let len : length w ≡ 0 = omega (arith, ok.2) in
      sym (or_left _ _ (eq-eqb (length w) 0 len))
  bad_by (Ok (b ∷ bytes)) e =
      let ok = decode_of-ok w (b ∷ bytes) e in
      let len : length w ≡ 2 * length (b ∷ bytes) = ok.2 in
      let some : (length w == 0) ≡ false = ne_eqb (length w) 0 (λ none. omega arith) in
      let even : length w % 2 ≡ 0 = ok.0 in
      let all : list_all is_hex_digit w ≡ true = list_all-from_AllPass is_hex_digit w ok.1 in
      rw (some, even, all) refl
  bad_by (Err e) f = elim (decode_of-err w e f) [
    | inl odd ↦ sym (or_right _ _ (or_left _ _ (eq-eqb (length w % 2) 1 odd.0)))
    | inr at ↦ sym (or_right _ _ (or_right _ _ (not_from_false _ (list_all_at is_hex_digit w at.0 0 at.2 at.3))))
  ]

  -- bad hex is no digits, an odd count of them, or has another byte
  pub bad_hex : is_bad_hex w ≡ (length w == 0) || (length w % 2 == 1 || not (list_all is_hex_digit w))
  bad_hex = bad_by (decode_of w) refl

  count_by_result : (r : Result (List ℕ) FromHexError) → decode_of w ≡ r → is_none (some_bytes r) ≡ false
      → length (unwrap_or (some_bytes r) []) ≡ length w / 2
  count_by_result (Ok []) e bad = absurd cc
  count_by_result (Ok (b ∷ bytes)) e bad =
      let ok = decode_of-ok w (b ∷ bytes) e in
      let len : length w ≡ 2 * length (b ∷ bytes) = ok.2 in
      omega arith
  count_by_result (Err e) f bad = absurd cc

  -- two digits spell a byte
  pub byte_count : is_bad_hex w ≡ false → length (unwrap_or (spelled_bytes w) (codes "")) ≡ length w / 2
  byte_count bad = count_by_result (decode_of w) refl bad
