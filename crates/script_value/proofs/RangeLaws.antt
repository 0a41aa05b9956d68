-- Numbers in their range.
use Rattle.std.proofs.Common.{arith, ℕ, ◌≡◌, ◌≤◌, Bool, true, false, [], ◌∷◌, Option, Some, None, refl, leb-true, eqb-true}
use Rattle.std.specs.Prelude.{◌&&◌, ◌||◌, not, nat_le, nat_eq, unwrap_or}
use Rattle.std.specs.List.{list_any}
use Rattle.sgx_base.specs.Numbers.{is_decimal, is_hexadecimal, spelled_number}
use Rattle.call_script.specs.Spelling.{Word, is_number, is_from_to, is_out_of}
use Rattle.call_script.specs.Arguments.{number_of}
use Rattle.call_script.specs.Line.{Foreign}
use Rattle.call_script.specs.Faults.{has_number_out_of_range}

-- what is no number spells none
none-spelled : (w : Word) → is_number w ≡ false → spelled_number w ≡ None
none-spelled w e = go (is_decimal w) (is_hexadecimal w) refl refl e
  where
    go : (d h : Bool) → is_decimal w ≡ d → is_hexadecimal w ≡ h → (d || h) ≡ false → spelled_number w ≡ None
    go true h f g e = absurd cc
    go false true f g e = absurd cc
    go false false f g e = rw (f, g) refl

at-most : (least most : ℕ) (t : Bool) (o : Option ℕ) → (t ≡ false → o ≡ None)
    → (t && not (is_from_to least most o)) ≡ false → unwrap_or o 0 ≤ most
at-most least most false o h e = let none : o ≡ None = h refl in rw none (omega arith)
at-most least most true None h e = absurd cc
at-most least most true (Some n) h e = go (nat_le least n) (nat_le n most) refl e
  where
    go : (a b : Bool) → nat_le n most ≡ b → not (a && b) ≡ false → n ≤ most
    go a true f e = leb-true n most f
    go true false f e = absurd cc
    go false false f e = absurd cc

pub in-range : (least most : ℕ) (w : Word) → is_out_of least most w ≡ false → number_of w ≤ most
in-range least most w e = at-most least most (is_number w) (spelled_number w) (none-spelled w) e

pub neither : (a b : Bool) → (a || b) ≡ false → (a ≡ false) × (b ≡ false)
neither false false e = (refl, refl)
neither false true e = absurd cc
neither true b e = absurd cc

alignment-at-most : (n : ℕ) → not (list_any (nat_eq n) (1 ∷ 2 ∷ 4 ∷ 8 ∷ 16 ∷ [])) ≡ false → n ≤ 16
alignment-at-most n e = go (nat_eq n 1) (nat_eq n 2) (nat_eq n 4) (nat_eq n 8) (nat_eq n 16) refl refl refl refl refl e
  where
    go : (a b c d f : Bool) → nat_eq n 1 ≡ a → nat_eq n 2 ≡ b → nat_eq n 4 ≡ c → nat_eq n 8 ≡ d → nat_eq n 16 ≡ f
        → not (a || (b || (c || (d || (f || false))))) ≡ false → n ≤ 16
    go true b c d f p q r s t e = let k = eqb-true n 1 p in omega arith
    go false true c d f p q r s t e = let k = eqb-true n 2 q in omega arith
    go false false true d f p q r s t e = let k = eqb-true n 4 r in omega arith
    go false false false true f p q r s t e = let k = eqb-true n 8 s in omega arith
    go false false false false true p q r s t e = let k = eqb-true n 16 t in omega arith
    go false false false false false p q r s t e = absurd cc

abbrev no_alignment : Word → Bool
no_alignment alignment = not (list_any (nat_eq (number_of alignment)) (1 ∷ 2 ∷ 4 ∷ 8 ∷ 16 ∷ []))

module _ (name size alignment : Word) (sound : has_number_out_of_range (Foreign name size alignment) ≡ false) where
  pub size_fits : number_of size ≤ 65536
  size_fits = in-range 1 65536 size (neither (is_out_of 1 65536 size) (no_alignment alignment) sound).0

  pub alignment_fits : number_of alignment ≤ 16
  alignment_fits = alignment-at-most (number_of alignment) (neither (is_out_of 1 65536 size) (no_alignment alignment) sound).1
