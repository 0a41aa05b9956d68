-- Offered functions by name: tables after one function more, and what they tell of lists of names.
use Rattle.std.proofs.Common.{arith, ℕ, suc, ◌≡◌, ◌+◌, ◌<◌, Bool, true, false, not, ◌||◌, ◌==◌, cond, if◌then◌else◌, List, [], ◌∷◌, ◌++◌, take, length, get_or, Option, Some, None, refl, sym, ◌∙◌, ap, subst}
use Rattle.std.specs.Prelude.{filter, unwrap_or}
use Rattle.std.specs.HashMap.{HashMap}
use Rattle.std.specs.List.{list_any}
use Rattle.std.specs.Map.{lookup}
use Rattle.std.specs.Str.{bytes_eq}
use Rattle.std.proofs.lemmas.Bool.Decides.{nat_tests}
use Rattle.std.proofs.lemmas.List.{take_more, append-nil}
use Rattle.std.proofs.lemmas.List.Elements.{filter-append}
use Rattle.std.proofs.lemmas.Slice.Eq.{bytes_eq-Decides}
use Rattle.edl_grammar.specs.declared.FuncDecl.{FuncDecl}
use Rattle.edl_grammar.specs.declared.NameAt.{NameAt}
use Rattle.edl_grammar.specs.declared.Pick.{Pick}
use Rattle.edl_grammar.specs.declared.SourceFile.{SourceFile}
use Rattle.edl_imports.specs.declared.by_name.ByName.{ByName}
use Rattle.edl_imports.specs.declared.offers.Offer.{Offer}
use Rattle.edl_imports.specs.ByName.{under, Puts, TellsNames, TellsOffered, has, first_unknown, with_under, with_all_under}
use Rattle.edl_imports.specs.Offers.{with_pick, joined, joined_where, picked, has_name, is_called, is_offered, first_missing, with_name, with_names}
use denote.Ref.{Bor}

-- ---- one function more

module _ {S : Type 0} (old less new : HashMap (Bor (List ℕ)) (List Pick) S) (name : List ℕ) (p : Pick) where
  -- taken out, and put back with the function behind
  pub puts_law : (ps : List Pick) → ps ≡ under old name
      → ((q : Bor (List ℕ)) → lookup (λ x. bytes_eq q.now x.now) less.entries ≡ cond (bytes_eq name q.now) None (lookup (λ x. bytes_eq q.now x.now) old.entries))
      → ((q : Bor (List ℕ)) → lookup (λ x. bytes_eq q.now x.now) new.entries ≡ cond (bytes_eq name q.now) (Some (ps ++ p ∷ [])) (lookup (λ x. bytes_eq q.now x.now) less.entries))
      → Puts name p old new
  puts_law ps before out put q =
      ap (λ (r : Option (List Pick)). unwrap_or r []) (put at ∙ ap (λ (r : Option (List Pick)). cond (bytes_eq name q) (Some (ps ++ p ∷ [])) r) (out at)) ∙ by (bytes_eq name q) refl
    where
      at : Bor (List ℕ)
      at = record { ref_ptr = (0, 0); now = q }

      by : (b : Bool) → bytes_eq name q ≡ b
          → unwrap_or (cond b (Some (ps ++ p ∷ [])) (cond b None (lookup (λ x. bytes_eq q x.now) old.entries))) [] ≡ (if b then under old q ++ p ∷ [] else under old q)
      by true t = ap (λ (qs : List Pick). qs ++ p ∷ []) (before ∙ ap (under old) ((bytes_eq-Decides name q).0 t))
      by false t = refl

module _ {S : Type 0} (files : List SourceFile) (is_trusted : Bool) (old new : HashMap (Bor (List ℕ)) (List Pick) S) (p : Pick) where
  one_more : (test : Pick → Bool) (ps : List Pick) → (if test p then filter test ps ++ p ∷ [] else filter test ps) ≡ filter test (ps ++ p ∷ [])
  one_more test ps = by (test p) ∙ sym (filter-append test ps (p ∷ []))
    where
      by : (b : Bool) → (if b then filter test ps ++ p ∷ [] else filter test ps) ≡ filter test ps ++ cond b (p ∷ []) []
      by true = refl
      by false = sym (append-nil (filter test ps))

  pub names_more : (f : FuncDecl) (ps : List Pick) → picked files is_trusted p ≡ Some f → Puts f.name p old new → TellsNames files is_trusted old ps
      → TellsNames files is_trusted new (ps ++ p ∷ [])
  names_more f ps is put h = record {
    here = λ q.
        put q ∙ ap (λ (qs : List Pick). if bytes_eq f.name q then qs ++ p ∷ [] else qs) (h.here q)
        ∙ ap (λ (b : Bool). if b then filter (is_called files is_trusted q) ps ++ p ∷ [] else filter (is_called files is_trusted q) ps) (sym (ap (has_name q) is))
        ∙ one_more (is_called files is_trusted q) ps;
  }

  pub names_same : (ps : List Pick) → picked files is_trusted p ≡ None → new ≡ old → TellsNames files is_trusted old ps
      → TellsNames files is_trusted new (ps ++ p ∷ [])
  names_same ps is same h = record {
    here = λ q.
        ap (λ (t : HashMap (Bor (List ℕ)) (List Pick) S). under t q) same ∙ h.here q
        ∙ ap (λ (b : Bool). if b then filter (is_called files is_trusted q) ps ++ p ∷ [] else filter (is_called files is_trusted q) ps) (sym (ap (has_name q) is))
        ∙ one_more (is_called files is_trusted q) ps;
  }

-- a turn of the loop that puts functions in
pub names_turn : {S : Type 0} (files : List SourceFile) (is_trusted : Bool) (new : HashMap (Bor (List ℕ)) (List Pick) S) (ps : List Pick) (i : ℕ) (d : Pick) → i < length ps
    → TellsNames files is_trusted new (take i ps ++ get_or ps i d ∷ []) → TellsNames files is_trusted new (take (i + 1) ps)
names_turn files is_trusted new ps i d lt h = subst (TellsNames files is_trusted new) (sym (take_more ps i d lt)) h

-- ---- lists of names

is_positive : (n : ℕ) → not (suc n == 0) ≡ true
is_positive n = grind (arith, nat_tests)

any_kept : (test : Pick → Bool) (ps : List Pick) → not (length (filter test ps) == 0) ≡ list_any test ps
any_kept test [] = refl
any_kept test (p ∷ ps) = by (test p) (any_kept test ps)
  where
    by : (b : Bool) → not (length (filter test ps) == 0) ≡ list_any test ps → not (length (cond b (p ∷ filter test ps) (filter test ps)) == 0) ≡ (b || list_any test ps)
    by true same = is_positive (length (filter test ps))
    by false same = same

joined_kept : (test : Pick → Bool) (ps qs : List Pick) → joined qs (filter test ps) ≡ joined_where test qs ps
joined_kept test [] qs = refl
joined_kept test (p ∷ ps) qs = by (test p) (joined_kept test ps)
  where
    by : (b : Bool) → ((qs : List Pick) → joined qs (filter test ps) ≡ joined_where test qs ps)
        → joined qs (cond b (p ∷ filter test ps) (filter test ps)) ≡ joined_where test (if b then with_pick qs p else qs) ps
    by true same = same (with_pick qs p)
    by false same = same qs

module _ (files : List SourceFile) (tables : ByName) (offered : Offer) (h : TellsOffered files tables offered) where
  has_law : (name : List ℕ) → has tables name ≡ is_offered files offered name
  has_law name =
      ap (λ (ps : List Pick). not (length ps == 0) || not (length (under tables.untrusted name) == 0)) (h.0.here name)
      ∙ ap (λ (ps : List Pick). not (length (filter (is_called files true name) offered.trusted) == 0) || not (length ps == 0)) (h.1.here name)
      ∙ ap (λ (b : Bool). b || not (length (filter (is_called files false name) offered.untrusted) == 0)) (any_kept (is_called files true name) offered.trusted)
      ∙ ap (λ (b : Bool). list_any (is_called files true name) offered.trusted || b) (any_kept (is_called files false name) offered.untrusted)

  pub missing_law : (names : List NameAt) → first_unknown tables names ≡ first_missing files offered names
  missing_law [] = refl
  missing_law (x ∷ names) =
      ap (λ (b : Bool). cond (not b) (Some x) (first_unknown tables names)) (has_law x.name)
      ∙ ap (λ (r : Option NameAt). cond (not (is_offered files offered x.name)) (Some x) r) (missing_law names)

  with_law : (own : Offer) (x : NameAt) → with_under tables own x.name ≡ with_name files offered own x
  with_law own x =
      ap (λ (ps : List Pick). record { trusted = joined own.trusted ps; untrusted = joined own.untrusted (under tables.untrusted x.name) }) (h.0.here x.name)
      ∙ ap (λ (ps : List Pick). record { trusted = joined own.trusted (filter (is_called files true x.name) offered.trusted); untrusted = joined own.untrusted ps }) (h.1.here x.name)
      ∙ ap (λ (ps : List Pick). record { trusted = ps; untrusted = joined own.untrusted (filter (is_called files false x.name) offered.untrusted) }) (joined_kept (is_called files true x.name) offered.trusted own.trusted)
      ∙ ap (λ (ps : List Pick). record { trusted = joined_where (is_called files true x.name) own.trusted offered.trusted; untrusted = ps }) (joined_kept (is_called files false x.name) offered.untrusted own.untrusted)

  pub names_law : (own : Offer) (names : List NameAt) → with_all_under tables own names ≡ with_names files offered own names
  names_law own [] = refl
  names_law own (x ∷ names) =
      ap (λ (o : Offer). with_all_under tables o names) (with_law own x) ∙ names_law (with_name files offered own x) names
