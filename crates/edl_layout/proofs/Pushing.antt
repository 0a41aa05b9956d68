-- Fields of a marshalling structure, pushed in parts.
use Rattle.std.proofs.Common.{ℕ, suc, ◌+◌, ◌≡◌, ◌<◌, ◌≤◌, length, get_or, drop, List, [], ◌∷◌, ◌++◌, Option, Some, None, option_map, refl, sym, ◌∙◌, ap, subst, Bool, true, false, add-one}
use Rattle.std.specs.Prelude.{fold, if◌then◌else◌}
use Rattle.std.specs.List.{flat_map}
use Rattle.std.proofs.lemmas.List.Sums.{fold-append}
use Rattle.std.proofs.lemmas.Option.{none-some}
use Rattle.std.proofs.Math.Seq.{drop-cons}
use Rattle.std.proofs.Math.ListN.{drop_of_length-le}
use Rattle.edl_layout.specs.declared.extents.Extent.{Extent}
use Rattle.edl_layout.specs.declared.extents.FieldEnds.{FieldEnds}
use Rattle.edl_layout.specs.Shape.{Shape, all_known, address}
use Rattle.edl_layout.specs.Ends.{shape_at, ends_after}
use Rattle.edl_layout.specs.Settled.{Settles}
use Rattle.edl_layout.specs.Pushed.{Pushes}
use Rattle.edl_layout.proofs.Growing.{mapped}
use Rattle.edl_layout.proofs.Settling.{both, settles_both, settles_along, settled_always, all_known-append, settles_one}

fold_mapped : (a : FieldEnds) (ss : List Shape) (r : Option (List Shape)) → option_map (fold ends_after (fold ends_after a ss)) r ≡ option_map (fold ends_after a) (option_map (◌++◌ ss) r)
fold_mapped a ss None = refl
fold_mapped a ss (Some ts) = ap Some (sym (fold-append ends_after a ss ts))

pub unmapped : {A B : Type 0} (f : A → B) (o : Option A) → ◌≡◌ {A = Option B} None (option_map f o) → o ≡ None
unmapped f None e = refl
unmapped f (Some x) e = absurd (none-some (f x) e)

pub pushes_along : (xs ys : ℕ → List (Option Shape)) (a : FieldEnds) (o : Option FieldEnds) → ((n : ℕ) → xs n ≡ ys n) → Pushes xs a o → Pushes ys a o
pushes_along xs ys a o e p = subst (λ (zs : ℕ → List (Option Shape)). Pushes zs a o) (λ i n. e n i) p

-- the fields behind a part that is known
pub pushes_append : (xs ys : ℕ → List (Option Shape)) (a b : FieldEnds) (o : Option FieldEnds) → Pushes xs a (Some b) → Pushes ys b o → Pushes (λ n. xs n ++ ys n) a o
pushes_append xs ys a b o p q =
    let m = mapped (fold ends_after a) p.shapes b (sym p.ends) in
    record {
      shapes = both (◌++◌) p.shapes q.shapes;
      settled =
          settles_along (λ n. both (◌++◌) (all_known (xs n)) (all_known (ys n))) (λ n. all_known (xs n ++ ys n)) (both (◌++◌) p.shapes q.shapes) (λ n. sym (all_known-append (xs n) (ys n)))
          (settles_both (◌++◌) (λ n. all_known (xs n)) (λ n. all_known (ys n)) p.shapes q.shapes p.settled q.settled);
      ends =
          q.ends
          ∙ ap (λ (e : FieldEnds). option_map (fold ends_after e) q.shapes) (sym m.2)
          ∙ fold_mapped a m.0 q.shapes
          ∙ ap (λ (r : Option (List Shape)). option_map (fold ends_after a) (both (◌++◌) r q.shapes)) (sym m.1);
    }

-- a part that is not known
pub pushes_unknown : (xs ys : ℕ → List (Option Shape)) (a : FieldEnds) → Pushes xs a None → Pushes (λ n. xs n ++ ys n) a None
pushes_unknown xs ys a p =
    let never : (n : ℕ) → all_known (xs n) ≡ None = subst (λ (r : Option (List Shape)). Settles (λ n. all_known (xs n)) r) (unmapped (fold ends_after a) p.shapes p.ends) p.settled in
    record {
      shapes = None;
      settled = λ n. all_known-append (xs n) (ys n) ∙ ap (λ (r : Option (List Shape)). both (◌++◌) r (all_known (ys n))) (never n);
      ends = refl;
    }

-- no field
pub pushes_nothing : (a : FieldEnds) → Pushes (λ n. []) a (Some a)
pushes_nothing a = record { shapes = Some []; settled = record { from = 0; deep = λ n le. refl; only = λ n. refl }; ends = refl }

one_end : (a : FieldEnds) (r : Option Extent) → option_map (λ e. ends_after a (shape_at e)) r ≡ option_map (fold ends_after a) (option_map (λ s. s ∷ []) (option_map shape_at r))
one_end a None = refl
one_end a (Some e) = refl

-- one field
pub pushes_one : (x : ℕ → Option Shape) (a : FieldEnds) (r : Option Extent) (o : Option FieldEnds) → Settles x (option_map shape_at r) → o ≡ option_map (λ e. ends_after a (shape_at e)) r → Pushes (λ n. x n ∷ []) a o
pushes_one x a r o h e = record { shapes = option_map (λ s. s ∷ []) (option_map shape_at r); settled = settles_one x (option_map shape_at r) h; ends = e ∙ one_end a r }

-- a field that is known, and the length behind it or none
pub pushes_measured : (x : ℕ → Option Shape) (is_measured : Bool) (a b : FieldEnds) (r : Option Extent) (o : Option FieldEnds)
    → Settles x (option_map shape_at r) → Some b ≡ option_map (λ e. ends_after a (shape_at e)) r → is_measured ≡ true → o ≡ Some (ends_after b address)
    → Pushes (λ n. x n ∷ (if is_measured then Some address ∷ [] else [])) a o
pushes_measured x is_measured a b r o h known test last =
    subst (λ (m : Bool). Pushes (λ n. x n ∷ (if m then Some address ∷ [] else [])) a o) (sym test)
    (pushes_append (λ n. x n ∷ []) (λ n. Some address ∷ []) a b o (pushes_one x a r (Some b) h known) (pushes_one (λ n. Some address) b (Some (record { size = 8; align = 8 })) o (settled_always address) last))

pub pushes_alone : (x : ℕ → Option Shape) (is_measured : Bool) (a b : FieldEnds) (r : Option Extent)
    → Settles x (option_map shape_at r) → Some b ≡ option_map (λ e. ends_after a (shape_at e)) r → is_measured ≡ false
    → Pushes (λ n. x n ∷ (if is_measured then Some address ∷ [] else [])) a (Some b)
pushes_alone x is_measured a b r h known test =
    subst (λ (m : Bool). Pushes (λ n. x n ∷ (if m then Some address ∷ [] else [])) a (Some b)) (sym test) (pushes_one x a r (Some b) h known)

-- a field whose type is not known
pub pushes_stopped : (x : ℕ → Option Shape) (rest : List (Option Shape)) (a : FieldEnds) (r : Option Extent)
    → Settles x (option_map shape_at r) → ◌≡◌ {A = Option FieldEnds} None (option_map (λ e. ends_after a (shape_at e)) r) → Pushes (λ n. x n ∷ rest) a None
pushes_stopped x rest a r h unknown = pushes_unknown (λ n. x n ∷ []) (λ n. rest) a (pushes_one x a r None h unknown)

-- what a function returns
pub pushes_result : (x : ℕ → Option Shape) (is_returning : Bool) (a : FieldEnds) (o : Option FieldEnds) → is_returning ≡ true → Pushes (λ n. x n ∷ []) a o → Pushes (λ n. if is_returning then x n ∷ [] else []) a o
pushes_result x is_returning a o test p = subst (λ (m : Bool). Pushes (λ n. if m then x n ∷ [] else []) a o) (sym test) p

pub pushes_no_result : (x : ℕ → Option Shape) (is_returning : Bool) (a : FieldEnds) → is_returning ≡ false → Pushes (λ n. if is_returning then x n ∷ [] else []) a (Some a)
pushes_no_result x is_returning a test = subst (λ (m : Bool). Pushes (λ n. if m then x n ∷ [] else []) a (Some a)) (sym test) (pushes_nothing a)

-- ---- in a loop

pub dropped : {X : Type 0} (xs : List X) (i : ℕ) (x d : X) → i < length xs → x ≡ get_or xs i d → drop i xs ≡ x ∷ drop (i + 1) xs
dropped xs i x d h e = drop-cons xs i d h ∙ ap (λ y. y ∷ drop (suc i) xs) (sym e) ∙ ap (λ n. x ∷ drop n xs) (sym (add-one i))

module _ {X : Type 0} (fields : ℕ → X → List (Option Shape)) (xs : List X) where
  abbrev pub fields_from : ℕ → ℕ → List (Option Shape)
  fields_from i n = flat_map (fields n) (drop i xs)

  split : (i : ℕ) (x d : X) → i < length xs → x ≡ get_or xs i d → (n : ℕ) → fields n x ++ fields_from (i + 1) n ≡ fields_from i n
  split i x d h e n = ap (flat_map (fields n)) (sym (dropped xs i x d h e))

  pub pushes_turn : (i : ℕ) (x d : X) (a b : FieldEnds) (o : Option FieldEnds) → i < length xs → x ≡ get_or xs i d → Pushes (λ n. fields n x) a (Some b) → Pushes (fields_from (i + 1)) b o → Pushes (fields_from i) a o
  pushes_turn i x d a b o h e p q = pushes_along (λ n. fields n x ++ fields_from (i + 1) n) (fields_from i) a o (split i x d h e) (pushes_append (λ n. fields n x) (fields_from (i + 1)) a b o p q)

  pub pushes_break : (i : ℕ) (x d : X) (a : FieldEnds) → i < length xs → x ≡ get_or xs i d → Pushes (λ n. fields n x) a None → Pushes (fields_from i) a None
  pushes_break i x d a h e p = pushes_along (λ n. fields n x ++ fields_from (i + 1) n) (fields_from i) a None (split i x d h e) (pushes_unknown (λ n. fields n x) (fields_from (i + 1)) a p)

  pub pushes_end : (i : ℕ) (a : FieldEnds) → length xs ≤ i → Pushes (fields_from i) a (Some a)
  pushes_end i a h = pushes_along (λ n. []) (fields_from i) a (Some a) (λ n. ap (flat_map (fields n)) (sym (drop_of_length-le xs h))) (pushes_nothing a)
