-- Elements of lists by their numbers, and the places of blocks.
use Rattle.std.proofs.Common.{ℕ, zero, suc, ◌≡◌, Bool, true, false, if◌then◌else◌, List, [], ◌∷◌, ◌++◌, length, drop, Some, None, slice_get, slice_set, refl, ap}
use Rattle.std.proofs.Math.Seq.{set-append_seam}
use Rattle.edl_interface.specs.declared.Param.{Param}
use Rattle.edl_interface.specs.Parameters.{is_marshalled}
use Rattle.bridge_laws.specs.Meaning.{place_of}

pub get_drop : {A : Type 0} (l : List A) (n : ℕ) (x : A) (rest : List A) → drop n l ≡ x ∷ rest → slice_get l n ≡ Some x
get_drop [] zero x rest e = cc
get_drop [] (suc n) x rest e = cc
get_drop (y ∷ l) zero x rest e = cc
get_drop (y ∷ l) (suc n) x rest e = get_drop l n x rest e

pub drop_next : {A : Type 0} (l : List A) (n : ℕ) (x : A) (rest : List A) → drop n l ≡ x ∷ rest → drop (suc n) l ≡ rest
drop_next [] zero x rest e = cc
drop_next [] (suc n) x rest e = cc
drop_next (y ∷ l) zero x rest e = cc
drop_next (y ∷ l) (suc n) x rest e = drop_next l n x rest e

pub get_none : {A : Type 0} (l : List A) (n : ℕ) → drop n l ≡ [] → slice_get l n ≡ None
get_none [] n e = refl
get_none (y ∷ l) zero e = cc
get_none (y ∷ l) (suc n) e = get_none l n e

pub drop_none : {A : Type 0} (l : List A) (n : ℕ) → drop n l ≡ [] → drop (suc n) l ≡ []
drop_none [] n e = refl
drop_none (y ∷ l) zero e = cc
drop_none (y ∷ l) (suc n) e = drop_none l n e

pub get_last : {A : Type 0} (l : List A) (x : A) → slice_get (l ++ x ∷ []) (length l) ≡ Some x
get_last [] x = refl
get_last (y ∷ l) x = get_last l x

pub set_last : {A : Type 0} (l : List A) (x y : A) → slice_set (l ++ x ∷ []) (length l) y ≡ l ++ y ∷ []
set_last l x y = set-append_seam l x [] y

pub length_last : {A : Type 0} (l : List A) (x : A) → length (l ++ x ∷ []) ≡ suc (length l)
length_last [] x = refl
length_last (y ∷ l) x = ap (λ n. suc n) (length_last l x)

counted : (a b : Bool) (x y : ℕ) → x ≡ (if b then suc y else y) → (if a then suc x else x) ≡ (if b then suc (if a then suc y else y) else (if a then suc y else y))
counted true true x y e = ap (λ n. suc n) e
counted true false x y e = ap (λ n. suc n) e
counted false true x y e = e
counted false false x y e = e

-- the place of the next parameter's block
pub place_next : (l : List Param) (n : ℕ) (p : Param) (rest : List Param) → drop n l ≡ p ∷ rest
    → place_of (suc n) l ≡ (if is_marshalled p.class then suc (place_of n l) else place_of n l)
place_next [] zero p rest e = let no : ⊥ = cc in absurd no
place_next [] (suc n) p rest e = let no : ⊥ = cc in absurd no
place_next (q ∷ l) zero p rest e = let same : q ≡ p = cc in ap (λ (r : Param). if is_marshalled r.class then suc zero else zero) same
place_next (q ∷ l) (suc n) p rest e = counted (is_marshalled q.class) (is_marshalled p.class) (place_of (suc n) l) (place_of n l) (place_next l n p rest e)
