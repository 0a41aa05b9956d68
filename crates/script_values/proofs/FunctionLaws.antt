-- Functions by their places, and sizes in their range.
use Rattle.std.proofs.Common.{arith, ℕ, ◌≤◌, ◌≡◌, Bool, true, false, List, Option, Some, None, refl, ap, ◌∙◌, length, inl, inr, leb-true}
use Rattle.std.specs.Prelude.{nat_lt, slice_get, unwrap_or}
use Rattle.std.specs.List.{position_or_len}
use Rattle.std.specs.Str.{bytes_eq}
use Rattle.std.proofs.lemmas.Bool.{and_parts, cases_lt, lt-ltb}
use Rattle.std.proofs.lemmas.Option.{cond_some, slice_get_past}
use Rattle.std.proofs.lemmas.List.Folds.{find_at}
use Rattle.sgx_base.specs.Numbers.{is_decimal, is_hexadecimal, spelled_number}
use Rattle.edl_interface.specs.declared.Function.{Function}
use Rattle.call_script.specs.Spelling.{Word, is_number, is_from_to, is_out_of}
use Rattle.call_script.specs.Arguments.{number_of}
use Rattle.call_script.specs.BodyNames.{BodyNames, register_of}
use Rattle.call_script.specs.Line as line
use Rattle.call_script.specs.Standing.{named}
use Rattle.call_script.specs.Meaning.{ordinal_in, ordinal_of, passes}
use Rattle.body_vm.specs.declared.Action.TheVariants as action
use Rattle.body_vm.specs.declared.Pass.{Pass}
use Rattle.script_values.specs.Calls.{ArePasses, IsActionOf}

module _ (fs : List Function) (w : Word) where
  abbrev is : Function → Bool
  is f = bytes_eq f.name w

  pub is_named : (k : ℕ) → ordinal_in fs w ≡ Some k → named fs w ≡ slice_get fs k
  is_named k e =
      let here = cond_some (nat_lt (position_or_len is fs) (length fs)) (position_or_len is fs) k e in
      find_at is fs ∙ ap (slice_get fs) here.1

  pub is_not_named : ordinal_in fs w ≡ None → named fs w ≡ None
  is_not_named e = elim (cases_lt (position_or_len is fs) (length fs)) [
    | inl l ↦
        let t : nat_lt (position_or_len is fs) (length fs) ≡ true = lt-ltb _ _ l in
        let f = rw t at e in
        absurd cc
    | inr l ↦ find_at is fs ∙ slice_get_past fs (position_or_len is fs) l
  ]

none-spelled : (w : Word) → is_number w ≡ false → spelled_number w ≡ None
none-spelled w e = go (is_decimal w) (is_hexadecimal w) refl refl e
  where
    go : (s t : Bool) → is_decimal w ≡ s → is_hexadecimal w ≡ t → is_number w ≡ false → spelled_number w ≡ None
    go true t f g e = let h = rw f at e in absurd cc
    go false true f g e = let h = rw (f, g) at e in absurd cc
    go false false f g e = rw (f, g) refl

range-top : (least most : ℕ) (o : Option ℕ) → is_from_to least most o ≡ true → unwrap_or o 0 ≤ most
range-top least most None e = absurd cc
range-top least most (Some n) e = leb-true n most (and_parts _ _ e).1

-- a number that is not out of its range is no more than the most
pub size_fits : (w : Word) → is_out_of 1 65536 w ≡ false → number_of w ≤ 65536
size_fits w e = go (is_number w) (is_from_to 1 65536 (spelled_number w)) refl refl e
  where
    go : (s t : Bool) → is_number w ≡ s → is_from_to 1 65536 (spelled_number w) ≡ t → is_out_of 1 65536 w ≡ false
        → number_of w ≤ 65536
    go false t f g e = let none = ap (λ o. unwrap_or o 0) (none-spelled w f) in omega (arith, none)
    go true true f g e = range-top 1 65536 (spelled_number w) g
    go true false f g e = let h = rw (f, g) at e in absurd cc

-- an OCALL is its registers, its ordinal and what it passes
pub ocall_is : (ocalls : List Function) (names : BodyNames) (r q name : Word) (args : List Word)
    (ret status ordinal : ℕ) (values : List Pass) → ret ≡ unwrap_or (register_of r) 0
    → status ≡ unwrap_or (register_of q) 0 → ordinal ≡ ordinal_of ocalls name → (f : Option Function)
    → f ≡ named ocalls name → ArePasses names f args values
    → IsActionOf ocalls names (line.Ocall r q name args) (action.Ocall ret status ordinal values)
ocall_is ocalls names r q name args ret status ordinal values a b c f g h i racing script e =
    let p : values ≡ passes i racing script names (named ocalls name) args =
    h i racing script ∙ ap (λ z. passes i racing script names z args) g in
    ap (λ fs. Some (action.Ocall (unwrap_or (register_of r) 0) (unwrap_or (register_of q) 0) (ordinal_of fs name)
    (passes i racing script names (named fs name) args))) e
    ∙ cc (a, b, c, p)
