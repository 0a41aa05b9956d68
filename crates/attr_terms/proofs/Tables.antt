-- A table by name, after one entry more.
use Rattle.std.proofs.Common.{ℕ, ◌≡◌, Bool, true, false, true≢false, cond, if◌then◌else◌, List, [], ◌∷◌, Option, Some, None, refl, sym, ◌∙◌, ap}
use Rattle.std.specs.Map.{lookup}
use Rattle.std.specs.Str.{bytes_eq}
use Rattle.std.proofs.lemmas.Cmp.{nat_list_eq_equiv}
use Rattle.std.proofs.lemmas.Slice.Eq.{bytes_eq-Decides}
use Rattle.indexmap.specs.IndexMap.{insert_entry}
use denote.Ref.{Bor}

abbrev pub Key : Type 0
Key = Bor (List ℕ)

abbrev pub same : Key → Key → Bool
same x y = bytes_eq x.now y.now

module _ {X : Type 0} where
  abbrev pub at_name : List ℕ → List (Key × X) → Option X
  at_name q es = lookup (λ k. bytes_eq q k.now) es

  replaced : (c : Bool) (e v : X) (r : Option X) → cond c (Some v) r ≡ (if c then Some v else cond c (Some e) r)
  replaced true e v r = refl
  replaced false e v r = refl

  kept : (c b : Bool) (e v : X) (r : Option X) → (b ≡ true → c ≡ false) → cond c (Some e) (if b then Some v else r) ≡ (if b then Some v else cond c (Some e) r)
  kept true true e v r h = absurd (true≢false (h refl))
  kept false true e v r h = refl
  kept c false e v r h = refl

  pub told-insert : (es : List (Key × X)) (k : Key) (v : X) (q : List ℕ) → at_name q (insert_entry same es k v) ≡ (if bytes_eq k.now q then Some v else at_name q es)
  told-insert [] k v q = ap (λ (b : Bool). cond b (Some v) None) (nat_list_eq_equiv.symm q k.now)
  told-insert (e ∷ es) k v q = by (same k e.0) refl (told-insert es k v q)
    where
      by : (b : Bool) → same k e.0 ≡ b → at_name q (insert_entry same es k v) ≡ (if bytes_eq k.now q then Some v else at_name q es) → at_name q (if b then (e.0, v) ∷ es else e ∷ insert_entry same es k v) ≡ (if bytes_eq k.now q then Some v else cond (bytes_eq q e.0.now) (Some e.1) (at_name q es))
      by true t rest =
          let s : bytes_eq q e.0.now ≡ bytes_eq k.now q = nat_list_eq_equiv.symm q e.0.now ∙ sym (nat_list_eq_equiv.congr k.now e.0.now q t) in
          replaced (bytes_eq q e.0.now) e.1 v (at_name q es) ∙ ap (λ (b : Bool). if b then Some v else cond (bytes_eq q e.0.now) (Some e.1) (at_name q es)) s
      by false f rest =
          ap (λ (r : Option X). cond (bytes_eq q e.0.now) (Some e.1) r) rest
          ∙ kept (bytes_eq q e.0.now) (bytes_eq k.now q) e.1 v (at_name q es) (λ t. sym (nat_list_eq_equiv.congr k.now q e.0.now t) ∙ f)

  -- an entry that is made from the one before it
  pub told-mark : (f : Option X → X) (es new : List (Key × X)) (k : Key) (known : Option X) (v : X) → known ≡ at_name k.now es → v ≡ f known → new ≡ insert_entry same es k v
      → (q : List ℕ) → at_name q new ≡ (if bytes_eq k.now q then Some (f (at_name q es)) else at_name q es)
  told-mark f es new k known v a b e q =
      ap (at_name q) e ∙ told-insert es k v q ∙ by (bytes_eq k.now q) refl
    where
      by : (c : Bool) → bytes_eq k.now q ≡ c → (if c then Some v else at_name q es) ≡ (if c then Some (f (at_name q es)) else at_name q es)
      by true t = ap Some (b ∙ ap f (a ∙ ap (λ (z : List ℕ). at_name z es) ((bytes_eq-Decides k.now q).0 t)))
      by false t = refl
