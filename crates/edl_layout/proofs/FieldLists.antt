-- Fields that are put one behind the other.
use Rattle.std.proofs.Common.{ℕ, ◌+◌, ◌*◌, ◌^◌, ◌≡◌, ◌<◌, ◌≤◌, List, [], ◌∷◌, ◌++◌, length, get_or, drop, Option, Some, None, refl, sym, ◌∙◌, ap, append-nil, append_assoc, add-one}
use Rattle.std.specs.Prelude.{fold, max, unwrap_or}
use Rattle.std.proofs.lemmas.List.Sums.{fold-append}
use Rattle.std.proofs.Math.Nat.{zero-mul, mul-one, mul_assoc}
use Rattle.std.proofs.Math.Seq.{drop-cons}
use Rattle.std.proofs.Math.ListN.{drop_of_length-le}
use Rattle.sgx_base.specs.Bytes.{round_up}
use Rattle.edl_layout.specs.Shape.{Shape, end_of, offsets_from, elements}
use Rattle.edl_layout.specs.Ends.{kept, ends_of, ends_after}
use Rattle.edl_layout.proofs.Kept.{kept-small, kept_kept-mul, kept_round}

end_of-push : (e : ℕ) (ss : List Shape) (s : Shape) → end_of e (ss ++ s ∷ []) ≡ round_up (end_of e ss) s.align + s.size
end_of-push e [] s = refl
end_of-push e (t ∷ ts) s = end_of-push (round_up e t.align + t.size) ts s

pub offsets_from-push : (e : ℕ) (ss : List Shape) (s : Shape) → offsets_from e (ss ++ s ∷ []) ≡ offsets_from e ss ++ round_up (end_of e ss) s.align ∷ []
offsets_from-push e [] s = refl
offsets_from-push e (t ∷ ts) s = ap (◌∷◌ (round_up e t.align)) (offsets_from-push (round_up e t.align + t.size) ts s)

-- one field more
pub ends-push : (ss : List Shape) (s : Shape) → ends_after (ends_of ss) s ≡ ends_of (ss ++ s ∷ [])
ends-push ss s =
    let end = kept_round (end_of 0 ss) s.align s.size ∙ ap kept (sym (end_of-push 0 ss s)) in
    let align = sym (fold-append (λ (a : ℕ) (t : Shape). max a t.align) 1 ss (s ∷ [])) in
    λ i. record { end = end i; align = align i }

-- many fields more
pub ends-append : (ss ts : List Shape) → fold ends_after (ends_of ss) ts ≡ ends_of (ss ++ ts)
ends-append ss [] = ap ends_of (sym (append-nil ss))
ends-append ss (t ∷ ts) =
    ap (λ e. fold ends_after e ts) (ends-push ss t)
    ∙ ends-append (ss ++ t ∷ []) ts
    ∙ ap ends_of (append_assoc ss (t ∷ []) ts)

-- the first dimension is a factor
pub elements-cons : (dim : Option ℕ) (dims : List (Option ℕ)) → elements (dim ∷ dims) ≡ unwrap_or dim 0 * elements dims
elements-cons None dims = sym (zero-mul (elements dims))
elements-cons (Some n) dims = refl

-- one dimension more is counted
pub elements_turn : (dims : List (Option ℕ)) (i count more dim : ℕ) → i < length dims → dim ≡ unwrap_or (get_or dims i None) 0 → more ≡ kept (count * dim)
    → kept (more * elements (drop (i + 1) dims)) ≡ kept (count * elements (drop i dims))
elements_turn dims i count more dim h is e =
    let rest = elements (drop (i + 1) dims) in
    ap (λ m. kept (m * rest)) e
    ∙ kept_kept-mul (count * dim) rest
    ∙ ap kept (mul_assoc count dim rest)
    ∙ ap (λ d. kept (count * (d * rest))) is
    ∙ ap (λ n. kept (count * n)) (sym (elements-cons (get_or dims i None) (drop (i + 1) dims)))
    ∙ ap (λ ds. kept (count * elements ds)) (ap (λ n. get_or dims i None ∷ drop n dims) (add-one i) ∙ sym (drop-cons dims i None h))

-- no dimension is left
pub elements_end : (dims : List (Option ℕ)) (i count : ℕ) → length dims ≤ i → count < 2 ^ 64 → kept (count * elements (drop i dims)) ≡ count
elements_end dims i count h fits = ap (λ (ds : List (Option ℕ)). kept (count * elements ds)) (drop_of_length-le dims h) ∙ ap kept (mul-one count) ∙ kept-small count fits
