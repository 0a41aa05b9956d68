-- Each function is taken once, at its first place, and types stand apart.
use Rattle.std.proofs.Common.{ℕ, zero, suc, ◌≡◌, ◌+◌, ◌<◌, Bool, true, false, ◌||◌, List, [], ◌∷◌, ◌++◌, map, length, Option, Some, None, Ok, cond, refl, sym, ap, ◌∙◌, subst, arith, append_assoc, append-nil}
use Rattle.std.specs.Prelude.{filter, not, if◌then◌else◌}
use Rattle.std.specs.List.{range_with_len}
use Rattle.std.proofs.lemmas.Bool.Decides.{nat_tests}
use Rattle.std.proofs.lemmas.List.Folds.{list_any-append}
use Rattle.sgx_base.specs.Stores.{Store}
use Rattle.edl_grammar.specs.declared.Gathered.{Gathered}
use Rattle.edl_grammar.specs.declared.Import.{Import}
use Rattle.edl_grammar.specs.declared.NameAt.{NameAt}
use Rattle.edl_grammar.specs.declared.Pick.{Pick}
use Rattle.edl_grammar.specs.declared.SourceFile.{SourceFile}
use Rattle.edl_imports.specs.Apart.{TypesAreApart}
use Rattle.edl_imports.specs.Conflicts.{Place, first_conflict}
use Rattle.edl_imports.specs.Gathering.{◌>>=◌, Gather, imported, taken_from, offered_by, offer_of, with_taken, unless_missing, import_all, gather_within, read_source, begun, no_files, max_files, root_bytes, gathered, all_of, unless_conflict}
use Rattle.edl_imports.specs.Laws.{AreDistinct, EachIsTakenOnce, FirstPlaceStays, TypesStandApart}
use Rattle.edl_imports.specs.Offers.{own, both, is_same, has_pick, with_pick, joined, joined_where, is_called, first_missing, with_name, with_names}
use Rattle.edl_imports.specs.declared.gathering.Finished.{Finished}
use Rattle.edl_imports.specs.declared.gathering.Progress.{Progress}
use Rattle.edl_imports.specs.declared.offers.Offer.{Offer}
use Rattle.edl_imports.proofs.Apart.{types_apart}
use Rattle.edl_imports.proofs.ReachLaws.{bind_ok, conflict_same}

-- ---- one function more

turned : (p q : Pick) → is_same p q ≡ is_same q p
turned p q = grind (arith, nat_tests)

not_last : (a b : Bool) → (a || b) ≡ false → (a ≡ false) × (b ≡ false)
not_last false false h = (refl, refl)
not_last true b h = absurd cc
not_last false true h = absurd cc

-- a list has a function more
has_push : (ps : List Pick) (p q : Pick) → has_pick (ps ++ p ∷ []) q ≡ (has_pick ps q || is_same p q)
has_push ps p q = list_any-append (λ p. is_same p q) ps (p ∷ []) ∙ ap (λ (b : Bool). has_pick ps q || b) (or_false (is_same p q))
  where
    or_false : (b : Bool) → (b || false) ≡ b
    or_false true = refl
    or_false false = refl

push_distinct : (ps : List Pick) (q : Pick) → AreDistinct ps → has_pick ps q ≡ false → AreDistinct (ps ++ q ∷ [])
push_distinct [] q d h = (refl, tt)
push_distinct (p ∷ ps) q d h =
    let both = not_last (is_same p q) (has_pick ps q) h in
    (has_push ps q p ∙ ap (λ (b : Bool). b || is_same q p) d.0 ∙ turned q p ∙ both.0, push_distinct ps q d.1 both.1)

with_distinct : (ps : List Pick) (q : Pick) → AreDistinct ps → AreDistinct (with_pick ps q)
with_distinct ps q d = by (has_pick ps q) refl
  where
    by : (b : Bool) → has_pick ps q ≡ b → AreDistinct (if b then ps else ps ++ q ∷ [])
    by true h = d
    by false h = push_distinct ps q d h

joined_distinct : (ps more : List Pick) → AreDistinct ps → AreDistinct (joined ps more)
joined_distinct ps [] d = d
joined_distinct ps (q ∷ more) d = joined_distinct (with_pick ps q) more (with_distinct ps q d)

where_distinct : (test : Pick → Bool) (ps more : List Pick) → AreDistinct ps → AreDistinct (joined_where test ps more)
where_distinct test ps [] d = d
where_distinct test ps (q ∷ more) d = where_distinct test (if test q then with_pick ps q else ps) more (by (test q))
  where
    by : (b : Bool) → AreDistinct (if b then with_pick ps q else ps)
    by true = with_distinct ps q d
    by false = d

-- ---- own functions

not_below : (file from n k : ℕ) → k ≡ from → has_pick (map (λ index. record { file = file; index = index }) (range_with_len (from + 1) n)) (record { file = file; index = k }) ≡ false
not_below file from n k same = later (from + 1) n (omega arith)
  where
    apart : (a b : ℕ) → k < a → is_same (record { file = b; index = a }) (record { file = b; index = k }) ≡ false
    apart a b lt = grind (arith, nat_tests, lt)

    later : (low n : ℕ) → k < low → has_pick (map (λ index. record { file = file; index = index }) (range_with_len low n)) (record { file = file; index = k }) ≡ false
    later low zero lt = refl
    later low (suc n) lt =
        ap (λ (b : Bool). b || has_pick (map (λ index. record { file = file; index = index }) (range_with_len (low + 1) n)) (record { file = file; index = k })) (apart low file lt) ∙ later (low + 1) n (omega arith)

range_distinct : (file from n : ℕ) → AreDistinct (map (λ index. record { file = file; index = index }) (range_with_len from n))
range_distinct file from zero = tt
range_distinct file from (suc n) = (not_below file from n from refl, range_distinct file (from + 1) n)

-- ---- offers

abbrev EachOnce : Offer → Type 0
EachOnce o = AreDistinct o.trusted × AreDistinct o.untrusted

names_once : (files : List SourceFile) (offered own : Offer) (names : List NameAt) → EachOnce own → EachOnce (with_names files offered own names)
names_once files offered own [] d = d
names_once files offered own (x ∷ names) d =
    names_once files offered (with_name files offered own x) names
    (where_distinct (is_called files true x.name) own.trusted offered.trusted d.0, where_distinct (is_called files false x.name) own.untrusted offered.untrusted d.1)

taken_once : (number : ℕ) (s : SourceFile) (p : Progress) (i : Import) (offer more : Offer) (file : ℕ) → taken_from number s p i offer file ≡ Ok more → EachOnce offer → EachOnce more
taken_once number s p i offer more file h d = by (offer_of p file) h
  where
    by_missing : (x : Option NameAt) (o : Offer) → EachOnce o → unless_missing number s x o ≡ Ok more → EachOnce more
    by_missing None o e h = let same : o ≡ more = cc in subst EachOnce same e
    by_missing (Some x) o e h = absurd cc

    by_names : (offered : Offer) (names : Option (List NameAt)) → with_taken number s p.files offered offer names ≡ Ok more → EachOnce more
    by_names offered None h =
        let same : both offer offered ≡ more = cc in
        subst EachOnce same (joined_distinct offer.trusted offered.trusted d.0, joined_distinct offer.untrusted offered.untrusted d.1)
    by_names offered (Some names) h = by_missing (first_missing p.files offered names) (with_names p.files offered offer names) (names_once p.files offered offer names d) h

    by : (o : Option Finished) → (offered_by number s i o >>= (λ offered. with_taken number s p.files offered offer i.names)) ≡ Ok more → EachOnce more
    by None h = absurd cc
    by (Some f) h = by_names f.offer i.names h

all_once : (store : Store) (paths : List (List ℕ)) (gather : Gather) (number : ℕ) (s : SourceFile) (is : List Import) (p : Progress) (offer : Offer) (q : Progress) (o : Offer)
    → import_all store paths gather number s p offer is ≡ Ok (q, o) → EachOnce offer → EachOnce o
all_once store paths gather number s [] p offer q o h d =
    let pair : ◌≡◌ {A = Progress × Offer} (p, offer) (q, o) = cc in
    subst EachOnce (ap (λ (x : Progress × Offer). x.1) pair) d
all_once store paths gather number s (i ∷ is) p offer q o h d =
    let a = bind_ok (imported store paths gather number s p i) (λ after. taken_from number s after.0 i offer after.1 >>= (λ more. import_all store paths gather number s after.0 more is)) (q, o) h in
    let b = bind_ok (taken_from number s a.0.0 i offer a.0.1) (λ more. import_all store paths gather number s a.0.0 more is) (q, o) a.2 in
    all_once store paths gather number s is a.0.0 b.0 q o b.2 (taken_once number s a.0.0 i offer b.0 a.0.1 b.1 d)

pub each_once : EachIsTakenOnce
each_once store paths root g h =
    let a = bind_ok (all_of store paths root) (λ g. unless_conflict g (first_conflict g)) g h in
    let f = bind_ok (root_bytes root (store root)) (λ f. gather_within store paths max_files no_files f >>= (λ done. Ok (gathered done.0 done.1))) a.0 a.1 in
    let d = bind_ok (gather_within store paths max_files no_files f.0) (λ done. Ok (gathered done.0 done.1)) a.0 f.2 in
    let s = bind_ok (read_source 0 f.0) (λ s. import_all store paths (gather_within store paths 63) 0 s (begun no_files s) (own 0 s.tree) s.tree.imports) (d.0.0, d.0.1) d.1 in
    let once = all_once store paths (gather_within store paths 63) 0 s.0 s.0.tree.imports (begun no_files s.0) (own 0 s.0.tree) d.0.0 d.0.1 s.2
    (range_distinct 0 0 (length s.0.tree.trusted), range_distinct 0 0 (length s.0.tree.untrusted)) in
    let one : gathered d.0.0 d.0.1 ≡ a.0 = cc in
    let same : gathered d.0.0 d.0.1 ≡ g = one ∙ conflict_same a.0 g (first_conflict a.0) a.2 in
    subst (λ (g : Gathered). AreDistinct g.trusted × AreDistinct g.untrusted) same once

-- ---- first places

-- behind a list that has one more, what is distinct from it is the same
filter_push : (taken qs : List Pick) (q : Pick) → has_pick qs q ≡ false → filter (λ p. not (has_pick (taken ++ q ∷ []) p)) qs ≡ filter (λ p. not (has_pick taken p)) qs
filter_push taken [] q h = refl
filter_push taken (p ∷ qs) q h =
    let both = not_last (is_same p q) (has_pick qs q) h in
    let same : has_pick (taken ++ q ∷ []) p ≡ has_pick taken p = has_push taken q p ∙ ap (λ (b : Bool). has_pick taken p || b) (turned q p ∙ both.0) ∙ or_false (has_pick taken p) in
    ap (λ (b : Bool). cond (not b) (p ∷ filter (λ p. not (has_pick (taken ++ q ∷ []) p)) qs) (filter (λ p. not (has_pick (taken ++ q ∷ []) p)) qs)) same
    ∙ ap (λ (ps : List Pick). cond (not (has_pick taken p)) (p ∷ ps) ps) (filter_push taken qs q both.1)
  where
    or_false : (b : Bool) → (b || false) ≡ b
    or_false true = refl
    or_false false = refl

pub first_place : FirstPlaceStays
first_place taken [] d = sym (append-nil taken)
first_place taken (q ∷ qs) d = by (has_pick taken q) (first_place taken qs d.1) (first_place (taken ++ q ∷ []) qs d.1)
  where
    rest : List Pick
    rest = filter (λ p. not (has_pick taken p)) qs

    by : (b : Bool) → joined taken qs ≡ taken ++ rest → joined (taken ++ q ∷ []) qs ≡ (taken ++ q ∷ []) ++ filter (λ p. not (has_pick (taken ++ q ∷ []) p)) qs
        → joined (if b then taken else taken ++ q ∷ []) qs ≡ taken ++ cond (not b) (q ∷ rest) rest
    by true known more = known
    by false known more =
        more ∙ ap (λ (ps : List Pick). (taken ++ q ∷ []) ++ ps) (filter_push taken qs q d.0) ∙ append_assoc taken (q ∷ []) rest

-- ---- types

pub types_stand_apart : TypesStandApart
types_stand_apart store paths root g h =
    let a = bind_ok (all_of store paths root) (λ g. unless_conflict g (first_conflict g)) g h in
    subst TypesAreApart (conflict_same a.0 g (first_conflict a.0) a.2) (by a.0 (first_conflict a.0) refl a.2)
  where
    by : (k : Gathered) (o : Option Place) → first_conflict k ≡ o → unless_conflict k o ≡ Ok g → TypesAreApart k
    by k None is h = types_apart k is
    by k (Some at) is h = absurd cc
