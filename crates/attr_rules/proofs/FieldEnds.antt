-- Fields of known shapes end within their structure.
use Rattle.std.proofs.Common.{◌≡◌, ℕ, ◌+◌, ◌-◌, ◌*◌, ◌/◌, ◌^◌, ◌<◌, ◌≤◌, max, Bool, true, false, if◌then◌else◌, nat_lt, List, [], ◌∷◌, ◌++◌, Option, Some, None, option_map, unwrap_or, refl, sym, ap, ◌∙◌, subst, arith}
use Rattle.std.specs.Prelude.{fold}
use Rattle.std.proofs.Math.Nat.{lt-div-mul-add, le-max_left}
use Rattle.std.proofs.lemmas.Option.{none-some, same_Some}
use Rattle.sgx_base.specs.Bytes.{round_up}
use Rattle.edl_grammar.specs.declared.Declared.{Declared}
use Rattle.edl_grammar.specs.declared.Written.{Written}
use Rattle.edl_layout.specs.Shape.{Shape, address, align_of, end_of, all_known, structure_shape}
use Rattle.edl_layout.specs.Frame.{is_measured, field_shape, param_fields}
use Rattle.attr_terms.specs.Accepted.{place_behind, offset_by, offset_behind}

-- a known shape that has an alignment
abbrev pub IsFine : Option Shape → Type 0
IsFine o = (s : Shape) × (o ≡ Some s) × (0 < s.align)

abbrev pub AreFine : List (Option Shape) → Type 0
AreFine [] = Unit {0}
AreFine (o ∷ os) = IsFine o × AreFine os

pub fine-append : (xs ys : List (Option Shape)) → AreFine xs → AreFine ys → AreFine (xs ++ ys)
fine-append [] ys h k = k
fine-append (x ∷ xs) ys h k = (h.0, fine-append xs ys h.1 k)

-- ---- the end of the last field, where unknown ones are passed over

abbrev pub end_by : ℕ → List (Option Shape) → ℕ
end_by end [] = end
end_by end (None ∷ os) = end_by end os
end_by end (Some s ∷ os) = end_by (round_up end s.align + s.size) os

pub end-append : (end : ℕ) (xs ys : List (Option Shape)) → end_by end (xs ++ ys) ≡ end_by (end_by end xs) ys
end-append end [] ys = refl
end-append end (None ∷ xs) ys = end-append end xs ys
end-append end (Some s ∷ xs) ys = end-append (round_up end s.align + s.size) xs ys

pub le-round_up : (n a : ℕ) → 0 < a → n ≤ round_up n a
le-round_up n a pos =
    let above : n + (a - 1) < (n + (a - 1)) / a * a + a = lt-div-mul-add pos in
    omega arith

le-on : (a b size end : ℕ) → a ≤ b → b + size ≤ end → a ≤ end
le-on a b size end h k = omega arith

pub le-end : (end : ℕ) (xs : List (Option Shape)) → AreFine xs → end ≤ end_by end xs
le-end end [] h = omega arith
le-end end (None ∷ xs) h = absurd (none-some h.0.0 h.0.1)
le-end end (Some s ∷ xs) h =
    let same : s ≡ h.0.0 = same_Some s h.0.0 h.0.1 in
    let pos : 0 < s.align = subst (λ (t : Shape). 0 < t.align) (sym same) h.0.2 in
    le-on end (round_up end s.align) s.size (end_by (round_up end s.align + s.size) xs) (le-round_up end s.align pos) (le-end (round_up end s.align + s.size) xs h.1)

pub known : (xs : List (Option Shape)) → AreFine xs → (ss : List Shape) × (all_known xs ≡ Some ss) × ((end : ℕ) → end_of end ss ≡ end_by end xs)
known [] h = ([], refl, λ end. refl)
known (None ∷ xs) h = absurd (none-some h.0.0 h.0.1)
known (Some s ∷ xs) h = let r = known xs h.1 in (s ∷ r.0, ap (option_map (◌∷◌ s)) r.1, λ end. r.2 (round_up end s.align + s.size))

-- ---- structures

pub align-positive : (a : ℕ) (ss : List Shape) → 0 < a → 0 < fold (λ n s. max n s.align) a ss
align-positive a [] h = h
align-positive a (s ∷ ss) h = let above : a ≤ max a s.align = le-max_left a s.align in align-positive (max a s.align) ss (omega arith)

size-above : (ss : List Shape) → end_of 0 ss ≤ (structure_shape ss).size
size-above ss = le-round_up (end_of 0 ss) (align_of ss) (align-positive 1 ss (omega arith))

pub within-frame : (xs : List (Option Shape)) → AreFine xs → end_by 0 xs ≤ unwrap_or (option_map (λ s. s.size) (option_map structure_shape (all_known xs))) 0
within-frame xs h =
    let k = known xs h in
    subst (λ (o : Option (List Shape)). end_by 0 xs ≤ unwrap_or (option_map (λ s. s.size) (option_map structure_shape o)) 0) (sym k.1) (subst (λ n. n ≤ (structure_shape k.0).size) (k.2 0) (size-above k.0))

-- ---- a field among others

at-most : (n : ℕ) → offset_by (Some n) ≤ n
at-most n = by (nat_lt n (2 ^ 32))
  where
    by : (b : Bool) → (if b then n else 0) ≤ n
    by true = omega arith
    by false = omega arith

place-below : (before : List (Option Shape)) (s : Shape) → AreFine before → offset_behind before (Some s) ≤ round_up (end_by 0 before) s.align
place-below before s h =
    let k = known before h in
    subst (λ (o : Option (List Shape)). offset_by (place_behind o (Some s)) ≤ round_up (end_by 0 before) s.align) (sym k.1)
    (subst (λ n. offset_by (Some (round_up (end_of 0 k.0) s.align)) ≤ round_up n s.align) (k.2 0) (at-most (round_up (end_of 0 k.0) s.align)))

le-field : (place up size end : ℕ) → place ≤ up → up + size ≤ end → place + size ≤ end
le-field place up size end h k = omega arith

le-more : (place size end : ℕ) → place + size ≤ end → place + size + 8 ≤ end + 8
le-more place size end h = omega arith

le-none : (place size end : ℕ) → place + size ≤ end → place + size + 0 ≤ end
le-none place size end h = omega arith

le-same : (n : ℕ) → n ≤ n
le-same n = omega arith

le-trans : (a b c : ℕ) → a ≤ b → b ≤ c → a ≤ c
le-trans a b c h k = omega arith

own-end : (before : List (Option Shape)) (s : Shape) (m : Bool) → AreFine before
    → offset_behind before (Some s) + s.size + (if m then 8 else 0) ≤ end_by (end_by 0 before) (Some s ∷ (if m then Some address ∷ [] else []))
own-end before s true h =
    let end : ℕ = round_up (end_by 0 before) s.align + s.size in
    le-more (offset_behind before (Some s)) s.size (round_up end 8) (le-field (offset_behind before (Some s)) (round_up (end_by 0 before) s.align) s.size (round_up end 8) (place-below before s h) (le-round_up end 8 (omega arith)))
own-end before s false h =
    le-none (offset_behind before (Some s)) s.size (round_up (end_by 0 before) s.align + s.size)
    (le-field (offset_behind before (Some s)) (round_up (end_by 0 before) s.align) s.size (round_up (end_by 0 before) s.align + s.size) (place-below before s h) (le-same (round_up (end_by 0 before) s.align + s.size)))

-- a parameter's field, and the length that may follow it, end before what comes behind
pub field-within : (shape_of : Written → Option Shape) (t : Bool) (p : Declared) (before rest : List (Option Shape)) (s : Shape) → AreFine before → AreFine rest → field_shape shape_of p ≡ Some s
    → offset_behind before (field_shape shape_of p) + s.size + (if is_measured t p then 8 else 0) ≤ end_by 0 ((before ++ param_fields shape_of t p) ++ rest)
field-within shape_of t p before rest s h k is =
    let own : offset_behind before (field_shape shape_of p) + s.size + (if is_measured t p then 8 else 0) ≤ end_by (end_by 0 before) (param_fields shape_of t p) =
    subst (λ (o : Option Shape). offset_behind before o + s.size + (if is_measured t p then 8 else 0) ≤ end_by (end_by 0 before) (o ∷ (if is_measured t p then Some address ∷ [] else []))) (sym is) (own-end before s (is_measured t p) h) in
    let all : end_by 0 ((before ++ param_fields shape_of t p) ++ rest) ≡ end_by (end_by (end_by 0 before) (param_fields shape_of t p)) rest =
    end-append 0 (before ++ param_fields shape_of t p) rest ∙ ap (λ n. end_by n rest) (end-append 0 before (param_fields shape_of t p)) in
    subst (λ n. offset_behind before (field_shape shape_of p) + s.size + (if is_measured t p then 8 else 0) ≤ n) (sym all)
    (le-trans (offset_behind before (field_shape shape_of p) + s.size + (if is_measured t p then 8 else 0)) (end_by (end_by 0 before) (param_fields shape_of t p)) (end_by (end_by (end_by 0 before) (param_fields shape_of t p)) rest) own (le-end (end_by (end_by 0 before) (param_fields shape_of t p)) rest k))
