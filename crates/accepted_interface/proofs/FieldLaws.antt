-- Fields that are put one behind the other, some of them unknown.
use Rattle.std.proofs.Common.{◌≡◌, ℕ, ◌^◌, Bool, true, false, nat_lt, List, [], ◌∷◌, ◌++◌, Option, Some, None, option_map, refl, sym, ap, ◌∙◌, arith}
use Rattle.sgx_base.specs.Bytes.{round_up}
use Rattle.edl_layout.specs.Shape.{Shape, all_known, end_of}
use Rattle.edl_layout.specs.Ends.{kept, ends_of}
use Rattle.edl_layout.proofs.Kept.{kept-small, kept_round-alone}
use Rattle.edl_layout.proofs.FieldLists.{ends-push}
use Rattle.attr_terms.specs.Accepted.{place_behind, offset_by, offset_behind}
use Rattle.accepted_interface.specs.Fields.{ends_with, place_after}

-- ---- shapes, where all are known

abbrev pub with_known : Option (List Shape) → Option Shape → Option (List Shape)
with_known (Some ss) (Some s) = Some (ss ++ s ∷ [])
with_known _ _ = None

cons_known : (y : Shape) (ks : Option (List Shape)) (x : Option Shape) → option_map (◌∷◌ y) (with_known ks x) ≡ with_known (option_map (◌∷◌ y) ks) x
cons_known y None x = refl
cons_known y (Some ks) None = refl
cons_known y (Some ks) (Some s) = refl

pub all_known-push : (xs : List (Option Shape)) (x : Option Shape) → all_known (xs ++ x ∷ []) ≡ with_known (all_known xs) x
all_known-push [] None = refl
all_known-push [] (Some s) = refl
all_known-push (None ∷ xs) x = refl
all_known-push (Some y ∷ xs) x = ap (option_map (◌∷◌ y)) (all_known-push xs x) ∙ cons_known y (all_known xs) x

-- ---- ends and places

ends-known : (ks : Option (List Shape)) (s : Option Shape) → ends_with (option_map ends_of ks) s ≡ option_map ends_of (with_known ks s)
ends-known None s = refl
ends-known (Some ss) None = refl
ends-known (Some ss) (Some s) = ap Some (ends-push ss s)

pub ends-more : (fields : List (Option Shape)) (s : Option Shape) → ends_with (option_map ends_of (all_known fields)) s ≡ option_map ends_of (all_known (fields ++ s ∷ []))
ends-more fields s = ends-known (all_known fields) s ∙ sym (ap (option_map ends_of) (all_known-push fields s))

-- a number that stands still is too large for 32 bits
narrow-kept : (n : ℕ) → offset_by (Some (kept n)) ≡ offset_by (Some n)
narrow-kept n = by (nat_lt n (2 ^ 64)) refl
  where
    by : (b : Bool) → nat_lt n (2 ^ 64) ≡ b → offset_by (Some (kept n)) ≡ offset_by (Some n)
    by true h = grind (arith, kept-small)
    by false h = grind arith

places-known : (ks : Option (List Shape)) (s : Option Shape) → offset_by (place_after (option_map ends_of ks) s) ≡ offset_by (place_behind ks s)
places-known None s = refl
places-known (Some ss) None = refl
places-known (Some ss) (Some s) = ap (λ n. offset_by (Some n)) (kept_round-alone (end_of 0 ss) s.align) ∙ narrow-kept (round_up (end_of 0 ss) s.align)

pub place-more : (fields : List (Option Shape)) (s : Option Shape) → offset_by (place_after (option_map ends_of (all_known fields)) s) ≡ offset_behind fields s
place-more fields s = places-known (all_known fields) s
