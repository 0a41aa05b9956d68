-- The part of a name behind its last slash, and a name without its end.
use Rattle.std.proofs.Common.{◌≡◌, ◌≢◌, ◌∙◌, ap, sym, refl, ℕ, ◌+◌, ◌-◌, ◌<◌, ◌==◌, true, false, not, List, length, take, drop, get_or, Option, Some, None, Bool, arith, cond}
use Rattle.std.specs.Prelude.{MatchOption, unwrap_or, option_map, nat_eq}
use Rattle.std.specs.Borrow.{Bor}
use Rattle.std.specs.List.{ends_with, suffix_len}
use Rattle.std.specs.Str.Pattern.{FindsTextSuffix, StripsSuffix}
use Rattle.std.proofs.lemmas.Bool.{ne_eqb}
use Rattle.std.proofs.lemmas.List.Sums.{suffix_len_is}
use Rattle.std.proofs.lemmas.Bool.Decides.{Decides-eqb}
use Rattle.std.proofs.lemmas.Slice.Eq.{ends_is}
use Rattle.stub_files.specs.StubFiles.{base_name, without_end}

is_other : (byte : ℕ) → byte ≢ 47 → not (byte == 47) ≡ true
is_other byte ne = ap not (ne_eqb byte 47 ne)

is_slash : (byte : ℕ) → byte ≡ 47 → not (byte == 47) ≡ false
is_slash byte is = ap (λ (b : ℕ). not (b == 47)) is

pub behind_slash : (name : List ℕ) (k : ℕ) → k < length name → get_or name k 0 ≡ 47
    → ((i : ℕ) → k < i → i < length name → get_or name i 0 ≢ 47) → drop (k + 1) name ≡ base_name name
behind_slash name k within here others =
    let run = suffix_len_is (λ byte. not (byte == 47)) name (k + 1) 0 (omega arith)
    (λ i from below. is_other (get_or name i 0) (others i (omega arith) below))
    (λ some. is_slash (get_or name (k + 1 - 1) 0) (ap (λ (i : ℕ). get_or name i 0) (omega arith) ∙ here)) in
    ap (λ (n : ℕ). drop n name) (omega (arith, run))

pub no_slash : (name : List ℕ) → ((i : ℕ) → i < length name → get_or name i 0 ≢ 47) → name ≡ base_name name
no_slash name others =
    let run = suffix_len_is (λ byte. not (byte == 47)) name 0 0 (omega arith)
    (λ i from below. is_other (get_or name i 0) (others i below)) (λ some. absurd (omega arith)) in
    let all : 0 ≡ length name - suffix_len (λ byte. not (byte == 47)) name = omega (arith, run) in
    ap (λ (n : ℕ). drop n name) all

-- a text without its end, as `strip_suffix` gives it
pub stripped : (end name : List ℕ) (r : Option (Bor (List ℕ)))
    → MatchOption r (FindsTextSuffix end name None) (λ x. StripsSuffix (FindsTextSuffix end) name x.now)
    → unwrap_or (option_map (λ x. x.now) r) name ≡ without_end end name
stripped end name None none =
    sym (ap (λ (b : Bool). cond b (take (length name - length end) name) name) (no_end (ends_with nat_eq name end) refl))
  where
    no_end : (b : Bool) → ends_with nat_eq name end ≡ b → ends_with nat_eq name end ≡ false
    no_end false is = is
    no_end true is = absurd (none _ ((ends_is Decides-eqb name end _ refl).0 is))
stripped end name (Some x) some =
    let ends = (ends_is Decides-eqb name end _ refl).1 _ some.1.1 in
    some.2 ∙ ap (λ (n : ℕ). take (length name - n) name) some.1.0
    ∙ sym (ap (λ (b : Bool). cond b (take (length name - length end) name) name) ends)
