-- An argument of a call without fault is sound.
use Rattle.std.proofs.Common.{arith, ℕ, suc, ◌≡◌, ◌-◌, ◌*◌, ◌<◌, ◌≤◌, ◌^◌, inl, inr, Bool, true, false, List, [], ◌∷◌, length, All, Option, Some, None, refl, sym, ap, subst, leb-true, ltb-true, eqb-true}
use Rattle.std.specs.Prelude.{◌==◌, ◌&&◌, ◌||◌, not, unwrap_or, if◌then◌else◌, is_none, is_some, nat_le, nat_lt, codes, MatchBool, option_and_then, Result, Ok, Err}
use Rattle.std.proofs.lemmas.Bool.{and_parts, and_from, not-false, eqb-false}
use Rattle.sgx_base.specs.Numbers.{spelled_number}
use Rattle.edl_interface.specs.declared.Plain.{Plain}
use Rattle.edl_interface.specs.declared.Class.{Class}
use Rattle.edl_interface.specs.declared.Class.TheVariants.{Plain as by_value, UserCheck, Buffer, Text, Fixed, Foreign}
use Rattle.call_script.specs.declared.CallArg.TheVariants.{Number, Bytes}
use Rattle.call_script.specs.Spelling.{Word, spelled_bytes, some_bytes, is_bad_hex, is_in_frame, is_place, is_place_by, is_place_out, is_place_out_by, is_number, is_out_of, is_from_to, frame_offset, behind_at, behind_hash, behind_minus}
use Rattle.call_script.specs.Arguments.{is_wrong_argument, is_integer_word, is_pointer_word, is_misfit, is_bad_hex_argument, is_place_argument_out, is_frame_argument, argument_of, integer_of, integer_by, has_number, has_negative, complement, if_holds, number_of, bytes_of, place_by, place_named, pointer_by, holds_of}
use Rattle.call_script.specs.Sound.{Actor, HasFrame, IsSoundArgument, IsSoundPlain, IsSoundPointer, IsSoundInteger, IsIntegerOf, IsSignedOf, IsSoundValue, IsByte, IsPointedAt}
use Rattle.std.specs.Str.{bytes_eq}
use Rattle.std.proofs.lemmas.Nat.{pow_pos}
use Rattle.std.proofs.lemmas.List.Elements.{All-cons, All-nil}
use Rattle.hex.specs.Hex.{decode_of, IsBytes}
use Rattle.hex.specs.declared.error.FromHexError.{FromHexError}
use Rattle.hex.proofs.HexLemmas.{decode_of-ok}
use Rattle.script_laws.proofs.ActionLaws.{there, number-fits}

-- ---- integers

number-is : (plain : Plain) (n : ℕ) → has_number plain n ≡ true → IsIntegerOf plain n
number-is plain n e = go plain.signed refl e
  where
    go : (t : Bool) → plain.signed ≡ t
        → (if t then nat_lt (2 * n) (2 ^ (8 * plain.size)) else nat_lt n (2 ^ (8 * plain.size))) ≡ true
        → MatchBool t (IsSignedOf plain.size n) (n < 2 ^ (8 * plain.size))
    go true h e = inl (ltb-true (2 * n) (2 ^ (8 * plain.size)) e)
    go false h e = ltb-true n (2 ^ (8 * plain.size)) e

negative-is : (plain : Plain) (n : ℕ) → n < 2 ^ 64 → has_negative plain n ≡ true → IsIntegerOf plain (complement n)
negative-is plain n l e = go plain.signed refl e
  where
    go : (t : Bool) → plain.signed ≡ t → (if t then nat_le (2 * n) (2 ^ (8 * plain.size)) else n == 0) ≡ true
        → MatchBool t (IsSignedOf plain.size (complement n)) (complement n < 2 ^ (8 * plain.size))
    go true h e = signed (n == 0) refl (leb-true (2 * n) (2 ^ (8 * plain.size)) e)
      where
        signed : (z : Bool) → (n == 0) ≡ z → 2 * n ≤ 2 ^ (8 * plain.size)
            → IsSignedOf plain.size (if z then 0 else 2 ^ 64 - n)
        signed true z k = inl (pow_pos (8 * plain.size))
        signed false z k = inr (omega arith)
    go false h e = negative e (pow_pos (8 * plain.size))
      where
        negative : (n == 0) ≡ true → 0 < 2 ^ (8 * plain.size) → complement n < 2 ^ (8 * plain.size)
        negative z k = rw z k

complement-word : (n : ℕ) → complement n < 2 ^ 64
complement-word n = go (n == 0) refl
  where
    go : (z : Bool) → (n == 0) ≡ z → (if z then 0 else 2 ^ 64 - n) < 2 ^ 64
    go true e = omega arith
    go false e = let k : n ≡ 0 → ⊥ = eqb-false n 0 e in omega arith

number-guarded : (t : Bool) (n k : ℕ) → if_holds t n ≡ Some k → (t ≡ true) × (n ≡ k)
number-guarded true n k e = (refl, ap (λ o. unwrap_or o n) e)
number-guarded false n k e = absurd cc

-- an integer that its type has
integer-is : (plain : Plain) (w : Word) (n : ℕ) → plain.integer ≡ true → integer_of plain w ≡ Some n
    → IsSoundInteger plain n
integer-is plain w n integer e = go (behind_minus w) e
  where
    plus : (o : Option ℕ) → spelled_number w ≡ o → option_and_then (λ k. if_holds (has_number plain k) k) o ≡ Some n
        → IsSoundInteger plain n
    plus None f e = absurd cc
    plus (Some k) f e =
        let g = number-guarded (has_number plain k) k n e in
        subst (IsSoundInteger plain) g.1 (record {
          integer = integer;
          fits = number-is plain k g.0;
          word = number-fits w k f;
        })

    minus : (digits : Word) (o : Option ℕ) → spelled_number digits ≡ o
        → option_and_then (λ k. if_holds (has_negative plain k) (complement k)) o ≡ Some n → IsSoundInteger plain n
    minus digits None f e = absurd cc
    minus digits (Some k) f e =
        let g = number-guarded (has_negative plain k) (complement k) n e in
        subst (IsSoundInteger plain) g.1
        (record {
          integer = integer;
          fits = negative-is plain k (number-fits digits k f) g.0;
          word = complement-word k;
        })

    go : (o : Option Word) → integer_by plain w o ≡ Some n → IsSoundInteger plain n
    go None e = plus (spelled_number w) refl e
    go (Some digits) e = minus digits (spelled_number digits) refl e

-- ---- bytes

bytes-are : (bytes : List ℕ) → IsBytes bytes → All IsByte bytes
bytes-are [] h = All-nil IsByte
bytes-are (b ∷ bytes) h = All-cons IsByte b bytes (h 0) (bytes-are bytes (λ i. h (suc i)))

spelled-are : (text bytes : List ℕ) → spelled_bytes text ≡ Some bytes → All IsByte bytes
spelled-are text bytes e = go (decode_of text) refl e
  where
    go : (r : Result (List ℕ) FromHexError) → decode_of text ≡ r → some_bytes r ≡ Some bytes → All IsByte bytes
    go (Err x) f e = absurd cc
    go (Ok []) f e = absurd cc
    go (Ok (b ∷ bs)) f e =
        let same : b ∷ bs ≡ bytes = cc in subst (All IsByte) same (bytes-are (b ∷ bs) (decode_of-ok text (b ∷ bs) f).3)

pub hex-are : (hex : Word) → is_bad_hex hex ≡ false → All IsByte (bytes_of hex)
hex-are hex e = let b = there (spelled_bytes hex) e in rw b.1 (spelled-are hex b.0 b.1)

-- ---- places

pub number_of-word : (w : Word) → number_of w < 2 ^ 64
number_of-word w = go (spelled_number w) refl
  where
    go : (o : Option ℕ) → spelled_number w ≡ o → unwrap_or o 0 < 2 ^ 64
    go None e = omega arith
    go (Some n) e = number-fits w n e

-- a number that is not out of a range
pub in-range : (least most : ℕ) (w : Word) → is_number w ≡ true → is_out_of least most w ≡ false
    → (least ≤ number_of w) × (number_of w ≤ most)
in-range least most w n e =
    go (spelled_number w) (subst (λ t. (t && not (is_from_to least most (spelled_number w))) ≡ false) n e)
  where
    go : (o : Option ℕ) → not (is_from_to least most o) ≡ false → (least ≤ unwrap_or o 0) × (unwrap_or o 0 ≤ most)
    go None f = absurd cc
    go (Some k) f =
        let both = and_parts (nat_le least k) (nat_le k most) (not-false _ f) in
        (leb-true least k both.0, leb-true k most both.1)

pub place-is : (who : Actor) (w : Word) → is_place w ≡ true → is_place_out w ≡ false
    → (is_in_frame w ≡ true → HasFrame who) → IsPointedAt who (place_named w)
place-is who w p o f = go (frame_offset w) refl p o
  where
    go : (x : Option Word) → frame_offset w ≡ x → is_place_by w x ≡ true → is_place_out_by w x ≡ false
        → IsPointedAt who (place_by w x)
    go None e p o = number_of-word w
    go (Some offset) e p o = (f (framed offset e p), let r = in-range 0 65535 offset p o in omega arith)
      where
        framed : (offset : Word) → frame_offset w ≡ Some offset → is_number offset ≡ true → is_in_frame w ≡ true
        framed offset e p =
            and_from (is_some (frame_offset w)) (is_place w) (subst (λ x. is_some x ≡ true) (sym e) refl)
            (subst (λ x. is_place_by w x ≡ true) (sym e) p)

-- ---- by class

value-is : (plain : Plain) → plain.integer ≡ false → (o : Option Word) → not (is_some o) ≡ false
    → holds_of (λ hex. not (is_bad_hex hex) && not (length (bytes_of hex) == plain.size)) o ≡ false
    → holds_of is_bad_hex o ≡ false
    → IsSoundValue plain (bytes_of (unwrap_or o (codes "")))
value-is plain h None a b c = absurd cc
value-is plain h (Some hex) a b c =
    let size : not (length (bytes_of hex) == plain.size) ≡ false =
    subst (λ t. (not t && not (length (bytes_of hex) == plain.size)) ≡ false) c b in
    record { opaque = h; size = eqb-true (length (bytes_of hex)) plain.size (not-false _ size); each = hex-are hex c }

-- what begins with `@` is not `null`
at-not-null : (w p : Word) → behind_at w ≡ Some p → bytes_eq w (codes "null") ≡ false
at-not-null [] p e = absurd cc
at-not-null (b ∷ bytes) p e = go (b == 64) refl e
  where
    go : (t : Bool) → (b == 64) ≡ t → behind_at (b ∷ bytes) ≡ Some p → bytes_eq (b ∷ bytes) (codes "null") ≡ false
    go true h e = subst (λ x. bytes_eq (x ∷ bytes) (codes "null") ≡ false) (sym (eqb-true b 64 h)) refl
    go false h e = let z = rw h at e in absurd cc

pointer-is : (who : Actor) (w : Word) → not (is_pointer_word w) ≡ false → is_place_argument_out w ≡ false
    → (is_frame_argument w ≡ true → HasFrame who) → IsSoundPointer who (pointer_by (behind_at w))
pointer-is who w a d e = go (behind_at w) refl (not-false (is_pointer_word w) a) d e
  where
    go : (o : Option Word) → behind_at w ≡ o → (bytes_eq w (codes "null") || holds_of is_place o) ≡ true
        → holds_of is_place_out o ≡ false → (holds_of is_in_frame o ≡ true → HasFrame who)
        → IsSoundPointer who (pointer_by o)
    go None h a d e = tt
    go (Some p) h a d e = place-is who p (subst (λ t. (t || is_place p) ≡ true) (at-not-null w p h) a) d e

pub sound_argument : (who : Actor) (class : Class) (w : Word) → is_wrong_argument class w ≡ false
    → is_misfit class w ≡ false → is_bad_hex_argument class w ≡ false → is_place_argument_out w ≡ false
    → (is_frame_argument w ≡ true → HasFrame who) → IsSoundArgument who class (argument_of class w)
sound_argument who (by_value plain) w a b c d e = plainly plain.integer refl a b c
  where
    plainly : (t : Bool) → plain.integer ≡ t → not (if t then is_integer_word w else is_some (behind_hash w)) ≡ false
        → (if t then is_integer_word w && is_none (integer_of plain w)
        else holds_of (λ hex. not (is_bad_hex hex) && not (length (bytes_of hex) == plain.size)) (behind_hash w))
        ≡ false
        → (not t && holds_of is_bad_hex (behind_hash w)) ≡ false
        → IsSoundPlain plain (if t then Number (unwrap_or (integer_of plain w) 0)
        else Bytes (bytes_of (unwrap_or (behind_hash w) (codes ""))))
    plainly true h a b c =
        let integer : is_integer_word w ≡ true = not-false (is_integer_word w) a in
        let n = there (integer_of plain w) (subst (λ t. (t && is_none (integer_of plain w)) ≡ false) integer b) in
        subst (λ o. IsSoundInteger plain (unwrap_or o 0)) (sym n.1) (integer-is plain w n.0 h n.1)
    plainly false h a b c = value-is plain h (behind_hash w) a b c
sound_argument who UserCheck w a b c d e = pointer-is who w a d e
sound_argument who (Buffer way size count unit) w a b c d e = pointer-is who w a d e
sound_argument who (Text way unit) w a b c d e = pointer-is who w a d e
sound_argument who (Fixed way length unit) w a b c d e = pointer-is who w a d e
sound_argument who (Foreign way) w a b c d e = pointer-is who w a d e
