-- Offers that have the functions of names already.
use Rattle.std.proofs.Common.{ℕ, ◌≡◌, Bool, true, false, ◌||◌, cond, List, [], ◌∷◌, ◌++◌, refl, sym, ap, ◌∙◌, subst, arith}
use Rattle.std.specs.Prelude.{not, if◌then◌else◌}
use Rattle.std.specs.HashSet.{HashSet}
use Rattle.std.specs.List.{list_any}
use Rattle.std.specs.Str.{bytes_eq}
use Rattle.std.proofs.lemmas.Bool.Decides.{nat_tests}
use Rattle.std.proofs.lemmas.List.Folds.{list_any-append}
use Rattle.std.proofs.lemmas.Slice.Eq.{bytes_eq-Decides}
use Rattle.edl_grammar.specs.declared.Pick.{Pick}
use Rattle.edl_imports.specs.ByName.{under, with_under}
use Rattle.edl_imports.specs.Offers.{is_same, has_pick, with_pick, joined}
use Rattle.edl_imports.specs.Tables.{HasAll, AreJoined}
use Rattle.edl_imports.specs.declared.by_name.ByName.{ByName}
use Rattle.edl_imports.specs.declared.offers.Offer.{Offer}
use denote.Ref.{Bor}

same_itself : (q : Pick) → is_same q q ≡ true
same_itself q = grind (arith, nat_tests)

has_pushed : (ps : List Pick) (p q : Pick) → (has_pick ps q ≡ true) → has_pick (ps ++ p ∷ []) q ≡ true
has_pushed ps p q h = list_any-append (λ p. is_same p q) ps (p ∷ []) ∙ ap (λ (b : Bool). b || has_pick (p ∷ []) q) h

has_last : (ps : List Pick) (q : Pick) → has_pick (ps ++ q ∷ []) q ≡ true
has_last ps q =
    list_any-append (λ p. is_same p q) ps (q ∷ []) ∙ ap (λ (b : Bool). has_pick ps q || (b || false)) (same_itself q) ∙ or_true (has_pick ps q)
  where
    or_true : (b : Bool) → (b || true) ≡ true
    or_true true = refl
    or_true false = refl

-- a function that the list has stays in it
has_with : (ps : List Pick) (p q : Pick) → has_pick ps q ≡ true → has_pick (with_pick ps p) q ≡ true
has_with ps p q h = by (has_pick ps p)
  where
    by : (b : Bool) → has_pick (if b then ps else ps ++ p ∷ []) q ≡ true
    by true = h
    by false = has_pushed ps p q h

has_itself : (ps : List Pick) (q : Pick) → has_pick (with_pick ps q) q ≡ true
has_itself ps q = by (has_pick ps q) refl
  where
    by : (b : Bool) → has_pick ps q ≡ b → has_pick (if b then ps else ps ++ q ∷ []) q ≡ true
    by true h = h
    by false h = has_last ps q

has_joined : (ps more : List Pick) (q : Pick) → has_pick ps q ≡ true → has_pick (joined ps more) q ≡ true
has_joined ps [] q h = h
has_joined ps (p ∷ more) q h = has_joined (with_pick ps p) more q (has_with ps p q h)

all_stay : (ps more qs : List Pick) → HasAll ps qs → HasAll (joined ps more) qs
all_stay ps more [] h = tt
all_stay ps more (q ∷ qs) h = (has_joined ps more q h.0, all_stay ps more qs h.1)

all_joined : (ps qs : List Pick) → HasAll (joined ps qs) qs
all_joined ps [] = tt
all_joined ps (q ∷ qs) = (has_joined (with_pick ps q) qs q (has_itself ps q), all_joined (with_pick ps q) qs)

-- a list that has all of them stays as it is
none_joined : (ps qs : List Pick) → HasAll ps qs → joined ps qs ≡ ps
none_joined ps [] h = refl
none_joined ps (q ∷ qs) h =
    ap (λ (b : Bool). joined (if b then ps else ps ++ q ∷ []) qs) h.0 ∙ none_joined ps qs h.1

pub was_there : (new was : Bool) → new ≡ not was → new ≡ false → was ≡ true
was_there new true h is = refl
was_there new false h is = absurd cc

module _ {S : Type 0} (seen : HashSet (Bor (List ℕ)) S) (tables : ByName) (own : Offer) where
  -- a name that was joined before
  pub seen_before : (name : Bor (List ℕ)) → list_any (λ k. bytes_eq name.now k.now) seen.keys ≡ true → AreJoined seen tables own → own ≡ with_under tables own name.now
  seen_before name known h =
      let has = h.here name.now known in
      ap (λ (ps : List Pick). record { trusted = ps; untrusted = own.untrusted }) (sym (none_joined own.trusted (under tables.trusted name.now) has.0))
      ∙ ap (λ (ps : List Pick). record { trusted = joined own.trusted (under tables.trusted name.now); untrusted = ps }) (sym (none_joined own.untrusted (under tables.untrusted name.now) has.1))

  -- a name more
  pub joined_more : (new : HashSet (Bor (List ℕ)) S) (name : Bor (List ℕ))
      → ((q : Bor (List ℕ)) → list_any (λ k. bytes_eq q.now k.now) new.keys ≡ cond (bytes_eq name.now q.now) true (list_any (λ k. bytes_eq q.now k.now) seen.keys))
      → AreJoined seen tables own → AreJoined new tables (with_under tables own name.now)
  joined_more new name put h = record { here = λ q known. by q (bytes_eq name.now q) refl (sym (put (record { ref_ptr = (0, 0); now = q })) ∙ known) }
    where
      by : (q : List ℕ) (b : Bool) → bytes_eq name.now q ≡ b → cond (bytes_eq name.now q) true (list_any (λ k. bytes_eq q k.now) seen.keys) ≡ true
          → HasAll (joined own.trusted (under tables.trusted name.now)) (under tables.trusted q) × HasAll (joined own.untrusted (under tables.untrusted name.now)) (under tables.untrusted q)
      by q true t k =
          subst (λ (n : List ℕ). HasAll (joined own.trusted (under tables.trusted name.now)) (under tables.trusted n) × HasAll (joined own.untrusted (under tables.untrusted name.now)) (under tables.untrusted n))
          ((bytes_eq-Decides name.now q).0 t)
          (all_joined own.trusted (under tables.trusted name.now), all_joined own.untrusted (under tables.untrusted name.now))
      by q false t k =
          let known : list_any (λ k. bytes_eq q k.now) seen.keys ≡ true = ap (λ (b : Bool). cond b true (list_any (λ k. bytes_eq q k.now) seen.keys)) (sym t) ∙ k in
          let has = h.here q known in
          (all_stay own.trusted (under tables.trusted name.now) (under tables.trusted q) has.0, all_stay own.untrusted (under tables.untrusted name.now) (under tables.untrusted q) has.1)
