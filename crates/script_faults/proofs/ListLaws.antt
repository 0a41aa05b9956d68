-- Lists with one more element at their end.
use Rattle.std.proofs.Common.{ℕ, ◌≡◌, Bool, true, false, List, [], ◌∷◌, ◌++◌, Option, Some, None, refl, sym, ◌∙◌, ap, append-nil}
use Rattle.std.specs.Prelude.{◌||◌, filter_map, unwrap_or}
use Rattle.std.specs.List.{last_or, list_any}
use Rattle.std.proofs.lemmas.List.Elements.{filter_map-append}
use Rattle.std.proofs.lemmas.List.Folds.{list_any-append}
use Rattle.script_faults.specs.Names.{listed}

pub filter_map-same : {A B : Type 0} (f : A → Option B) (xs : List A) (x : A) → f x ≡ None
    → filter_map f (xs ++ x ∷ []) ≡ filter_map f xs
filter_map-same f xs x e = filter_map-append f xs (x ∷ []) ∙ rw e (append-nil (filter_map f xs))

pub filter_map-more : {A B : Type 0} (f : A → Option B) (xs : List A) (x : A) (b : B) → f x ≡ Some b
    → filter_map f (xs ++ x ∷ []) ≡ filter_map f xs ++ b ∷ []
filter_map-more f xs x b e = filter_map-append f xs (x ∷ []) ∙ rw e refl

pub filter_map-behind : {A B : Type 0} (f : A → Option B) (xs : List A) (x : A)
    → filter_map f (xs ++ x ∷ []) ≡ filter_map f xs ++ listed (f x)
filter_map-behind f xs x = go (f x) refl
  where
    go : (o : Option _) → f x ≡ o → filter_map f (xs ++ x ∷ []) ≡ filter_map f xs ++ listed (f x)
    go None e = rw e (filter_map-same f xs x e ∙ sym (append-nil (filter_map f xs)))
    go (Some b) e = rw e (filter_map-more f xs x b e)

last_or-more : {A : Type 0} (o : Option A) (xs : List A) (x : A) → last_or o (xs ++ x ∷ []) ≡ Some x
last_or-more o [] x = refl
last_or-more o (y ∷ xs) x = last_or-more (Some y) xs x

-- the last that is given, one element later
pub last-behind : {A : Type 0} (f : A → Option ℕ) (xs : List A) (x : A) (old new : ℕ)
    → old ≡ unwrap_or (last_or None (filter_map f xs)) 0 → new ≡ unwrap_or (f x) old
    → new ≡ unwrap_or (last_or None (filter_map f (xs ++ x ∷ []))) 0
last-behind f xs x old new h e = go (f x) refl
  where
    go : (o : Option ℕ) → f x ≡ o → new ≡ unwrap_or (last_or None (filter_map f (xs ++ x ∷ []))) 0
    go None k = rw (filter_map-same f xs x k) (e ∙ rw k h)
    go (Some n) k = rw (filter_map-more f xs x n k, last_or-more None (filter_map f xs) n) (e ∙ rw k refl)

-- whether one passes the test, one element later
pub any-behind : {A : Type 0} (test : A → Bool) (xs : List A) (x : A) (old new : Bool) → old ≡ list_any test xs
    → new ≡ (old || test x) → new ≡ list_any test (xs ++ x ∷ [])
any-behind test xs x old new h e =
    e ∙ ap (λ t. t || test x) h ∙ ap (λ t. list_any test xs || t) (sym (or-none (test x)))
    ∙ sym (list_any-append test xs (x ∷ []))
  where
    or-none : (t : Bool) → (t || false) ≡ t
    or-none true = refl
    or-none false = refl
