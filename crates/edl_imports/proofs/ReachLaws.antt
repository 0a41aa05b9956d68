-- Every file that is gathered is reached from the root by imports.
use Rattle.std.proofs.Common.{ℕ, zero, suc, ◌≡◌, ◌⊎◌, inl, inr, ◌<◌, ◌==◌, Bool, true, false, List, [], ◌∷◌, ◌++◌, length, Option, Some, None, Result, Ok, Err, refl, sym, ap, ◌∙◌, subst, arith}
use Rattle.std.specs.Prelude.{Contains, slice_get}
use Rattle.std.specs.Option.{option_or}
use Rattle.std.proofs.lemmas.List.{append-nil}
use Rattle.sgx_base.specs.Stores.{Store}
use Rattle.edl_lexer.specs.declared.LexFault.{LexFault}
use Rattle.edl_lexer.specs.declared.Token.{Token}
use Rattle.edl_lexer.specs.Lexing.{lexing}
use Rattle.edl_grammar.specs.declared.EdlFile.{EdlFile}
use Rattle.edl_grammar.specs.declared.Gathered.{Gathered}
use Rattle.edl_grammar.specs.declared.Import.{Import}
use Rattle.edl_grammar.specs.declared.ParseFault.{ParseFault}
use Rattle.edl_grammar.specs.declared.SourceFile.{SourceFile}
use Rattle.edl_grammar.specs.Parser.{parsing}
use Rattle.edl_imports.specs.declared.faults.ImportCause.TheVariants as causes
use Rattle.edl_imports.specs.declared.gathering.Progress.{Progress}
use Rattle.edl_imports.specs.declared.offers.Offer.{Offer}
use Rattle.edl_imports.specs.declared.search.Found.{Found}
use Rattle.edl_imports.specs.declared.search.Found.TheVariants.{Known, New}
use Rattle.edl_imports.specs.declared.search.NewFile.{NewFile}
use Rattle.edl_imports.specs.Search.{candidates, file_of, first_file, number_of, known_or_new}
use Rattle.edl_imports.specs.Offers.{own}
use Rattle.edl_imports.specs.Conflicts.{Place, first_conflict}
use Rattle.edl_imports.specs.Gathering.{Outcome, ◌>>=◌, fail, fault_at, Gather, IsFront, admitted, wanted, reached, imported, taken_from, import_all, gather_within, read_tree, read_tokens, read_source, begun, finished, no_files, max_files, root_bytes, gathered, all_of, unless_conflict}
use Rattle.edl_imports.specs.Laws.{IsNamed, AreReached, EachIsReached}
use Rattle.edl_imports.proofs.Importing.{in_front, front_then, there_pushed}

-- a step that went well, and what it gave
pub bind_ok : {A B : Type 0} (x : Outcome A) (f : A → Outcome B) (b : B) → (x >>= f) ≡ Ok b → (a : A) × (x ≡ Ok a) × (f a ≡ Ok b)
bind_ok (Ok a) f b h = (a, refl, h)
bind_ok (Err e) f b h = absurd cc

-- a place in a list with one more
get_push : {X : Type 0} (xs : List X) (x : X) (k : ℕ) (y : X) → slice_get (xs ++ x ∷ []) k ≡ Some y → (slice_get xs k ≡ Some y) ⊎ ((k ≡ length xs) × (x ≡ y))
get_push [] x zero y h = inr (refl, cc)
get_push [] x (suc k) y h = absurd cc
get_push (z ∷ xs) x zero y h = inl h
get_push (z ∷ xs) x (suc k) y h = by (get_push xs x k y h)
  where
    by : (slice_get xs k ≡ Some y) ⊎ ((k ≡ length xs) × (x ≡ y)) → (slice_get (z ∷ xs) (suc k) ≡ Some y) ⊎ ((suc k ≡ length (z ∷ xs)) × (x ≡ y))
    by (inl p) = inl p
    by (inr (p, q)) = inr (ap suc p, q)

-- ---- names

name_of_new : (name : List ℕ) (n : Option ℕ) (bytes : Option (List ℕ)) (f : NewFile) → known_or_new name n bytes ≡ Some (New f) → f.name ≡ name
name_of_new name (Some n) bytes f h = absurd cc
name_of_new name None None f h = absurd cc
name_of_new name None (Some b) f h = let same : record { name = name; bytes = b } ≡ f = cc in sym (ap (λ (z : NewFile). z.name) same)

new_candidate : (store : Store) (read : List SourceFile) (names : List (List ℕ)) (f : NewFile) → first_file store read names ≡ Some (New f) → Contains names f.name
new_candidate store read [] f h = absurd cc
new_candidate store read (name ∷ names) f h = by (file_of store read name) refl h (new_candidate store read names f)
  where
    by : (o : Option Found) → file_of store read name ≡ o → option_or o (first_file store read names) ≡ Some (New f) → (first_file store read names ≡ Some (New f) → Contains names f.name)
        → Contains (name ∷ names) f.name
    by None is h rest = let there = rest h in (suc there.0, omega (arith, there.1), there.2)
    by (Some g) is h rest = (0, omega arith, sym (name_of_new name (number_of read name) (store name) f (is ∙ h)))

pub admitted_new : (number : ℕ) (source : SourceFile) (read : List SourceFile) (i : Import) (o : Option Found) (f : NewFile) → admitted number source read i o ≡ Ok (New f) → o ≡ Some (New f)
admitted_new number source read i None f h = absurd cc
admitted_new number source read i (Some (Known n)) f h = absurd cc
admitted_new number source read i (Some (New g)) f h = by (length read == max_files) refl
  where
    by : (b : Bool) → (length read == max_files) ≡ b → ◌≡◌ {A = Option Found} (Some (New g)) (Some (New f))
    by true e = let no : admitted number source read i (Some (New g)) ≡ fail source.name (causes.TooManyFiles (fault_at number source i.token 11)) = rw e refl in absurd cc
    by false e = let yes : admitted number source read i (Some (New g)) ≡ Ok (New g) = rw e refl in cc

pub source_named : (number : ℕ) (f : NewFile) (source : SourceFile) → read_source number f ≡ Ok source → source.name ≡ f.name
source_named number f source h = by (lexing number f.bytes) h
  where
    by_tree : (tokens : List Token) (r : Result EdlFile ParseFault) → read_tree f.name tokens r ≡ Ok source → source.name ≡ f.name
    by_tree tokens (Err e) h = absurd cc
    by_tree tokens (Ok tree) h = let same : record { name = f.name; tokens = tokens; tree = tree } ≡ source = cc in sym (ap (λ (s : SourceFile). s.name) same)

    by : (r : Result (List Token) LexFault) → read_tokens number f r ≡ Ok source → source.name ≡ f.name
    by (Err e) h = absurd cc
    by (Ok tokens) h = by_tree tokens (parsing number f.bytes tokens) h

-- ---- files that are reached

module _ (paths : List (List ℕ)) where
  still_named : (front files : List SourceFile) (k : ℕ) (name : List ℕ) → IsFront front files → IsNamed paths front k name → IsNamed paths files k name
  still_named front files k name f n = record {
    number = n.number;
    source = n.source;
    «import» = n.«import»;
    earlier = n.earlier;
    there = in_front front files n.number n.source f n.there;
    among = n.among;
    candidate = n.candidate;
  }

  -- a new file is the first, or it is named
  abbrev MayFollow : List SourceFile → List ℕ → Type 0
  MayFollow files name = (length files ≡ 0) ⊎ IsNamed paths files (length files) name

  reached_push : (files : List SourceFile) (s : SourceFile) → AreReached paths files → MayFollow files s.name → AreReached paths (files ++ s ∷ [])
  reached_push files s all follows k f h = by (get_push files s k f h) follows
    where
      front : IsFront files (files ++ s ∷ [])
      front = (s ∷ [], refl)

      old : (k ≡ 0) ⊎ IsNamed paths files k f.name → (k ≡ 0) ⊎ IsNamed paths (files ++ s ∷ []) k f.name
      old (inl z) = inl z
      old (inr n) = inr (still_named files (files ++ s ∷ []) k f.name front n)

      by : (slice_get files k ≡ Some f) ⊎ ((k ≡ length files) × (s ≡ f)) → MayFollow files s.name → (k ≡ 0) ⊎ IsNamed paths (files ++ s ∷ []) k f.name
      by (inl p) m = old (all k f p)
      by (inr (p, q)) (inl empty) = inl (p ∙ empty)
      by (inr (p, q)) (inr n) =
          inr (subst (λ (g : SourceFile). IsNamed paths (files ++ s ∷ []) k g.name) q
          (subst (λ (j : ℕ). IsNamed paths (files ++ s ∷ []) j s.name) (sym p) (still_named files (files ++ s ∷ []) (length files) s.name front n)))

  -- what gathering one more file keeps
  abbrev Keeps : Gather → Type 0
  Keeps gather = (p : Progress) (f : NewFile) (q : Progress) (offer : Offer) → gather p f ≡ Ok (q, offer) → AreReached paths p.files → MayFollow p.files f.name
      → AreReached paths q.files × IsFront p.files q.files

  below : (files : List SourceFile) (n : ℕ) (s : SourceFile) → slice_get files n ≡ Some s → n < length files
  below [] n s h = absurd cc
  below (x ∷ files) zero s h = omega arith
  below (x ∷ files) (suc n) s h = let l = below files n s h in omega arith

  module _ (store : Store) (gather : Gather) (keeps : Keeps gather) (number : ℕ) (source : SourceFile) where
    import_keeps : (p : Progress) (i : Import) (q : Progress) (file : ℕ) → imported store paths gather number source p i ≡ Ok (q, file) → AreReached paths p.files
        → slice_get p.files number ≡ Some source → Contains source.tree.imports i → AreReached paths q.files × IsFront p.files q.files
    import_keeps p i q file h all there among = let a = bind_ok (wanted store paths number source p.files i) (reached store paths gather number source p) (q, file) h in by a.0 a.1 a.2
      where
        from_new : (f : NewFile) → wanted store paths number source p.files i ≡ Ok (New f) → (after : Progress × Offer) × (gather p f ≡ Ok after) × (◌≡◌ {A = Outcome (Progress × ℕ)} (Ok (finished (length p.files) after.0 after.1, length p.files)) (Ok (q, file)))
            → AreReached paths q.files × IsFront p.files q.files
        from_new f w (after, g, is) =
            let named : IsNamed paths p.files (length p.files) f.name = record {
              number = number;
              source = source;
              «import» = i;
              earlier = below p.files number source there;
              there = there;
              among = among;
              candidate = new_candidate store p.files (candidates paths i.text) f (admitted_new number source p.files i (first_file store p.files (candidates paths i.text)) f w);
            } in
            let kept = keeps p f after.0 after.1 g all (inr named) in
            let pair : ◌≡◌ {A = Progress × ℕ} (finished (length p.files) after.0 after.1, length p.files) (q, file) = cc in
            let same : finished (length p.files) after.0 after.1 ≡ q = ap (λ (x : Progress × ℕ). x.0) pair in
            subst (λ (r : Progress). AreReached paths r.files × IsFront p.files r.files) same kept

        by : (found : Found) → wanted store paths number source p.files i ≡ Ok found → reached store paths gather number source p found ≡ Ok (q, file) → AreReached paths q.files × IsFront p.files q.files
        by (Known n) w r =
            let pair : ◌≡◌ {A = Progress × ℕ} (p, n) (q, file) = cc in
            let same : p ≡ q = ap (λ (x : Progress × ℕ). x.0) pair in
            subst (λ (r : Progress). AreReached paths r.files × IsFront p.files r.files) same (all, ([], sym (append-nil p.files)))
        by (New f) w r = from_new f w (bind_ok (gather p f) (λ after. Ok (finished (length p.files) after.0 after.1, length p.files)) (q, file) r)

    all_keep : (is : List Import) (p : Progress) (offer : Offer) (q : Progress) (o : Offer) → import_all store paths gather number source p offer is ≡ Ok (q, o) → AreReached paths p.files
        → slice_get p.files number ≡ Some source → ((i : Import) → Contains is i → Contains source.tree.imports i) → AreReached paths q.files × IsFront p.files q.files
    all_keep [] p offer q o h all there sub =
        let pair : ◌≡◌ {A = Progress × Offer} (p, offer) (q, o) = cc in
        let same : p ≡ q = ap (λ (x : Progress × Offer). x.0) pair in
        subst (λ (r : Progress). AreReached paths r.files × IsFront p.files r.files) same (all, ([], sym (append-nil p.files)))
    all_keep (i ∷ is) p offer q o h all there sub =
        let a = bind_ok (imported store paths gather number source p i) (λ after. taken_from number source after.0 i offer after.1 >>= (λ more. import_all store paths gather number source after.0 more is)) (q, o) h in
        let first = import_keeps p i a.0.0 a.0.1 a.1 all there (sub i (0, omega arith, refl)) in
        let b = bind_ok (taken_from number source a.0.0 i offer a.0.1) (λ more. import_all store paths gather number source a.0.0 more is) (q, o) a.2 in
        let rest = all_keep is a.0.0 b.0 q o b.2 first.0 (in_front p.files a.0.0.files number source first.1 there) (λ j (k, lt, is). sub j (suc k, omega arith, is)) in
        (rest.0, front_then p.files a.0.0.files q.files first.1 rest.1)

  module _ (store : Store) where
    file_keeps : (depth : ℕ) → Keeps (gather_within store paths depth) → Keeps (gather_within store paths (suc depth))
    file_keeps depth keeps p f q offer h all follows =
        let a = bind_ok (read_source (length p.files) f)
        (λ s. import_all store paths (gather_within store paths depth) (length p.files) s (begun p s) (own (length p.files) s.tree) s.tree.imports) (q, offer) h in
        let named : MayFollow p.files a.0.name = subst (MayFollow p.files) (sym (source_named (length p.files) f a.0 a.1)) follows in
        let rest = all_keep store (gather_within store paths depth) keeps (length p.files) a.0 a.0.tree.imports (begun p a.0) (own (length p.files) a.0.tree) q offer a.2
        (reached_push p.files a.0 all named) (there_pushed p.files (p.files ++ a.0 ∷ []) a.0 (length p.files) refl refl) (λ i c. c) in
        (rest.0, front_then p.files (p.files ++ a.0 ∷ []) q.files (a.0 ∷ [], refl) rest.1)

    gather_keeps : (depth : ℕ) → Keeps (gather_within store paths depth)
    gather_keeps zero p f q offer h all follows = absurd cc
    gather_keeps (suc depth) p f q offer h all follows = file_keeps depth (gather_keeps depth) p f q offer h all follows

pub conflict_same : (g k : Gathered) (at : Option Place) → unless_conflict g at ≡ Ok k → g ≡ k
conflict_same g k None h = cc
conflict_same g k (Some at) h = absurd cc

pub each_reached : EachIsReached
each_reached store paths root g h =
    let a = bind_ok (all_of store paths root) (λ g. unless_conflict g (first_conflict g)) g h in
    let f = bind_ok (root_bytes root (store root)) (λ f. gather_within store paths max_files no_files f >>= (λ done. Ok (gathered done.0 done.1))) a.0 a.1 in
    let d = bind_ok (gather_within store paths max_files no_files f.0) (λ done. Ok (gathered done.0 done.1)) a.0 f.2 in
    let kept = gather_keeps paths store max_files no_files f.0 d.0.0 d.0.1 d.1 (λ k f h. absurd cc) (inl refl) in
    let one : gathered d.0.0 d.0.1 ≡ a.0 = cc in
    let same : gathered d.0.0 d.0.1 ≡ g = one ∙ conflict_same a.0 g (first_conflict a.0) a.2 in
    subst (λ (g : Gathered). AreReached paths g.files) same kept.0
