-- Templates, a run of plain bytes at a time.
use Rattle.std.proofs.Common.{◌≡◌, ◌∙◌, ap, sym, refl, rules, ℕ, zero, suc, ◌+◌, ◌≤◌, ◌==◌, true, false, not, Bool, List, [], ◌∷◌, ◌++◌, take, drop, cond, append_assoc, arith}
use Rattle.std.specs.Prelude.{Option, Some, None, length, nat_lt}
use Rattle.std.specs.List.{position, position_or_len}
use Rattle.std.proofs.lemmas.Bool.{ltb-false}
use Rattle.std.proofs.lemmas.List.Sums.{prefix_len-le-length}
use Rattle.bridge_text.specs.Template.{Place, text_at, fill}

plain_byte : (places : List Place) (b : ℕ) (rest : List ℕ) → (b == 36) ≡ false → fill places (b ∷ rest) ≡ b ∷ fill places rest
unfolding fill
plain_byte places b [] plain = refl
plain_byte places b (c ∷ rest) plain =
    ap (λ (is : Bool). elim is [ true ↦ text_at places c ++ fill places rest | false ↦ b ∷ fill places (c ∷ rest) ]) plain

-- the first place of a template, and its end where it has none
pub some_plain : (template : List ℕ) (at : ℕ) → position (λ byte. byte == 36) template ≡ Some at
    → at ≡ position_or_len (λ byte. byte == 36) template
some_plain template at = go (nat_lt (position_or_len (λ byte. byte == 36) template) (length template))
  where
    go : (b : Bool) → cond b (Some (position_or_len (λ byte. byte == 36) template)) None ≡ Some at
        → at ≡ position_or_len (λ byte. byte == 36) template
    go true is = search rules
    go false is = search rules

pub all_plain : (template : List ℕ) → position (λ byte. byte == 36) template ≡ None
    → length template ≡ position_or_len (λ byte. byte == 36) template
all_plain template = go (nat_lt (position_or_len (λ byte. byte == 36) template) (length template)) refl
  where
    go : (b : Bool) → nat_lt (position_or_len (λ byte. byte == 36) template) (length template) ≡ b
        → cond b (Some (position_or_len (λ byte. byte == 36) template)) None ≡ None
        → length template ≡ position_or_len (λ byte. byte == 36) template
    go true lt is = search rules
    go false lt is = omega (arith, prefix_len-le-length (λ byte. not (byte == 36)) template, ltb-false _ _ lt)

-- the bytes before the first place stand as they are
pub plain_first : (places : List Place) (template : List ℕ)
    → take (position_or_len (λ byte. byte == 36) template) template
    ++ fill places (drop (position_or_len (λ byte. byte == 36) template) template) ≡ fill places template
plain_first places [] = refl
plain_first places (b ∷ rest) = go (b == 36) refl (plain_first places rest)
  where
    n : ℕ
    n = position_or_len (λ byte. byte == 36) rest

    split : ℕ → List ℕ
    split k = take k (b ∷ rest) ++ fill places (drop k (b ∷ rest))

    go : (is : Bool) → (b == 36) ≡ is → take n rest ++ fill places (drop n rest) ≡ fill places rest
        → split (position_or_len (λ byte. byte == 36) (b ∷ rest)) ≡ fill places (b ∷ rest)
    go true is more = ap (λ (c : Bool). split (cond (not c) (1 + n) 0)) is
    go false is more = ap (λ (c : Bool). split (cond (not c) (1 + n) 0)) is ∙ ap (λ (k : ℕ). split k) one_more
        ∙ ap (λ (bytes : List ℕ). b ∷ bytes) more ∙ sym (plain_byte places b rest is)
      where
        one_more : 1 + n ≡ suc n
        one_more = omega arith

-- so they may be appended at once
pub passed : (places : List Place) (out template : List ℕ) (n : ℕ) → n ≡ position_or_len (λ byte. byte == 36) template
    → (out ++ take n template) ++ fill places (drop n template) ≡ out ++ fill places template
passed places out template n is = append_assoc out (take n template) (fill places (drop n template))
    ∙ ap (λ (bytes : List ℕ). out ++ bytes)
    (ap (λ (k : ℕ). take k template ++ fill places (drop k template)) is ∙ plain_first places template)
