-- A file is finished behind all that its imports find, so none lies on a cycle.
use Rattle.std.proofs.Common.{ℕ, zero, suc, ◌≡◌, ◌⊎◌, inl, inr, ◌+◌, ◌<◌, ◌==◌, Bool, true, false, List, [], ◌∷◌, ◌++◌, cond, length, length-append, Option, Some, None, is_some, Ok, refl, sym, ap, ◌∙◌, subst, arith, append_assoc, append-nil}
use Rattle.std.specs.Prelude.{Contains, slice_get, find, if◌then◌else◌}
use Rattle.std.specs.List.{position_from}
use Rattle.std.specs.Option.{option_or}
use Rattle.std.specs.Str.{bytes_eq}
use Rattle.std.proofs.lemmas.Bool.Decides.{nat_tests}
use Rattle.std.proofs.lemmas.Iterator.Adapters.{position_from-zero}
use Rattle.std.proofs.lemmas.Slice.Eq.{bytes_eq-Decides}
use Rattle.sgx_base.specs.Stores.{Store}
use Rattle.edl_grammar.specs.declared.Gathered.{Gathered}
use Rattle.edl_grammar.specs.declared.Import.{Import}
use Rattle.edl_grammar.specs.declared.SourceFile.{SourceFile}
use Rattle.edl_imports.specs.declared.faults.ImportCause.TheVariants as causes
use Rattle.edl_imports.specs.declared.gathering.Finished.{Finished}
use Rattle.edl_imports.specs.declared.gathering.Progress.{Progress}
use Rattle.edl_imports.specs.declared.offers.Offer.{Offer}
use Rattle.edl_imports.specs.declared.search.Found.{Found}
use Rattle.edl_imports.specs.declared.search.Found.TheVariants.{Known, New}
use Rattle.edl_imports.specs.declared.search.NewFile.{NewFile}
use Rattle.edl_imports.specs.Conflicts.{first_conflict}
use Rattle.edl_imports.specs.Gathering.{Outcome, ◌>>=◌, Gather, IsFront, fail, fault_at, admitted, wanted, reached, imported, offered_by, offer_of, with_taken, taken_from, import_all, gather_within, read_source, begun, finished, no_files, max_files, root_bytes, gathered, all_of, unless_conflict}
use Rattle.edl_imports.specs.Laws.{ImportFinds, LeadsTo, NoneLeadsToItself, EachImportIsGathered}
use Rattle.edl_imports.specs.Offers.{own}
use Rattle.edl_imports.specs.Search.{candidates, first_file, number_of, known_or_new}
use Rattle.edl_imports.proofs.Importing.{in_front, front_then, there_pushed}
use Rattle.edl_imports.proofs.ReachLaws.{bind_ok, admitted_new, source_named, conflict_same}

-- ---- places

no_more : (files : List SourceFile) → IsFront files files
no_more files = ([], sym (append-nil files))

below : (files : List SourceFile) (n : ℕ) (s : SourceFile) → slice_get files n ≡ Some s → n < length files
below [] n s h = absurd cc
below (x ∷ files) zero s h = omega arith
below (x ∷ files) (suc n) s h = let l = below files n s h in omega arith

last_or_before : (k n : ℕ) → k < n + 1 → (k < n) ⊎ (k ≡ n)
last_or_before zero zero h = inr refl
last_or_before zero (suc n) h = inl (omega arith)
last_or_before (suc k) zero h = absurd (omega arith)
last_or_before (suc k) (suc n) h = by (last_or_before k n (omega arith))
  where
    by : (k < n) ⊎ (k ≡ n) → (suc k < suc n) ⊎ (suc k ≡ suc n)
    by (inl l) = inl (omega arith)
    by (inr e) = inr (ap suc e)

-- ---- numbers of files

module _ (test : SourceFile → Bool) where
  still_at : (read more : List SourceFile) (i m : ℕ) → position_from test i read ≡ Some m → position_from test i (read ++ more) ≡ Some m
  still_at [] more i m h = absurd cc
  still_at (f ∷ read) more i m h = by (test f) h (still_at read more (i + 1) m)
    where
      by : (b : Bool) → cond b (Some i) (position_from test (i + 1) read) ≡ Some m
          → (position_from test (i + 1) read ≡ Some m → position_from test (i + 1) (read ++ more) ≡ Some m)
          → cond b (Some i) (position_from test (i + 1) (read ++ more)) ≡ Some m
      by true h rest = h
      by false h rest = rest h

  next_at : (read more : List SourceFile) (s : SourceFile) (i : ℕ) → position_from test i read ≡ None → test s ≡ true → position_from test i (read ++ s ∷ more) ≡ Some (i + length read)
  next_at [] more s i h is =
      let e : i ≡ i + 0 = omega arith in
      ap (λ (b : Bool). cond b (Some i) (position_from test (i + 1) more)) is ∙ ap (λ (n : ℕ). Some n) e
  next_at (f ∷ read) more s i h is = by (test f) h (λ rest. next_at read more s (i + 1) rest is)
    where
      by : (b : Bool) → cond b (Some i) (position_from test (i + 1) read) ≡ None
          → (position_from test (i + 1) read ≡ None → position_from test (i + 1) (read ++ s ∷ more) ≡ Some (i + 1 + length read))
          → cond b (Some i) (position_from test (i + 1) (read ++ s ∷ more)) ≡ Some (i + length (f ∷ read))
      by true h rest = absurd cc
      by false h rest = let e : i + 1 + length read ≡ i + length (f ∷ read) = omega arith in rest h ∙ ap (λ (n : ℕ). Some n) e

numbered : (read : List SourceFile) (name : List ℕ) → number_of read name ≡ position_from (λ f. bytes_eq f.name name) 0 read
numbered read name = position_from-zero (λ (f : SourceFile). bytes_eq f.name name) read

module _ (store : Store) where
  -- the store has a file of each of these names
  abbrev Held : List SourceFile → Type 0
  Held [] = Unit {0}
  Held (f ∷ fs) = (is_some (store f.name) ≡ true) × Held fs

  held_push : (files : List SourceFile) (s : SourceFile) → Held files → is_some (store s.name) ≡ true → Held (files ++ s ∷ [])
  held_push [] s h is = (is, tt)
  held_push (f ∷ files) s h is = (h.0, held_push files s h.1 is)

  absent : (name : List ℕ) → store name ≡ None → (files : List SourceFile) → Held files → (i : ℕ) → position_from (λ f. bytes_eq f.name name) i files ≡ None
  absent name none [] h i = refl
  absent name none (f ∷ files) h i = by (bytes_eq f.name name) refl (absent name none files h.1 (i + 1))
    where
      by : (b : Bool) → bytes_eq f.name name ≡ b → position_from (λ f. bytes_eq f.name name) (i + 1) files ≡ None
          → cond b (Some i) (position_from (λ f. bytes_eq f.name name) (i + 1) files) ≡ None
      by true e rest =
          let same : f.name ≡ name = (bytes_eq-Decides f.name name).0 e in
          let no : is_some (store f.name) ≡ false = ap (λ (n : List ℕ). is_some (store n)) same ∙ ap (λ (o : Option (List ℕ)). is_some o) none in
          absurd (let yes = h.0 in cc)
      by false e rest = rest

  -- the number of a file that was read before
  known_later : (read more : List SourceFile) (n : ℕ) (names : List (List ℕ)) → Held (read ++ more) → first_file store read names ≡ Some (Known n) → first_file store (read ++ more) names ≡ Some (Known n)
  known_later read more n [] held h = absurd cc
  known_later read more n (name ∷ names) held h = by (number_of read name) (store name) refl refl h (known_later read more n names held)
    where
      by : (o : Option ℕ) (b : Option (List ℕ)) → number_of read name ≡ o → store name ≡ b → option_or (known_or_new name o b) (first_file store read names) ≡ Some (Known n)
          → (first_file store read names ≡ Some (Known n) → first_file store (read ++ more) names ≡ Some (Known n))
          → option_or (known_or_new name (number_of (read ++ more) name) (store name)) (first_file store (read ++ more) names) ≡ Some (Known n)
      by (Some m) b at is h rest =
          ap (λ (o : Option ℕ). option_or (known_or_new name o (store name)) (first_file store (read ++ more) names))
          (numbered (read ++ more) name ∙ still_at (λ f. bytes_eq f.name name) read more 0 m (sym (numbered read name) ∙ at)) ∙ h
      by None (Some b) at is h rest = absurd cc
      by None None at is h rest =
          ap (λ (o : Option ℕ). option_or (known_or_new name o (store name)) (first_file store (read ++ more) names)) (numbered (read ++ more) name ∙ absent name is (read ++ more) held 0)
          ∙ ap (λ (b : Option (List ℕ)). option_or (known_or_new name None b) (first_file store (read ++ more) names)) is ∙ rest h

  -- the number of a new file, once it is read
  new_later : (read more : List SourceFile) (s : SourceFile) (f : NewFile) (names : List (List ℕ)) → Held (read ++ s ∷ more) → s.name ≡ f.name → first_file store read names ≡ Some (New f)
      → first_file store (read ++ s ∷ more) names ≡ Some (Known (length read))
  new_later read more s f [] held same h = absurd cc
  new_later read more s f (name ∷ names) held same h = by (number_of read name) (store name) refl refl h (new_later read more s f names held same)
    where
      by : (o : Option ℕ) (b : Option (List ℕ)) → number_of read name ≡ o → store name ≡ b → option_or (known_or_new name o b) (first_file store read names) ≡ Some (New f)
          → (first_file store read names ≡ Some (New f) → first_file store (read ++ s ∷ more) names ≡ Some (Known (length read)))
          → option_or (known_or_new name (number_of (read ++ s ∷ more) name) (store name)) (first_file store (read ++ s ∷ more) names) ≡ Some (Known (length read))
      by (Some m) b at is h rest = absurd cc
      by None (Some b) at is h rest =
          let new : record { name = name; bytes = b } ≡ f = cc in
          let names_same : s.name ≡ name = same ∙ sym (ap (λ (z : NewFile). z.name) new) in
          let here : position_from (λ f. bytes_eq f.name name) 0 (read ++ s ∷ more) ≡ Some (0 + length read) =
          next_at (λ f. bytes_eq f.name name) read more s 0 (sym (numbered read name) ∙ at) ((bytes_eq-Decides s.name name).1 names_same) in
          let zero_more : 0 + length read ≡ length read = omega arith in
          ap (λ (o : Option ℕ). option_or (known_or_new name o (store name)) (first_file store (read ++ s ∷ more) names)) (numbered (read ++ s ∷ more) name ∙ here)
          ∙ ap (λ (n : ℕ). Some (Known n)) zero_more
      by None None at is h rest =
          ap (λ (o : Option ℕ). option_or (known_or_new name o (store name)) (first_file store (read ++ s ∷ more) names)) (numbered (read ++ s ∷ more) name ∙ absent name is (read ++ s ∷ more) held 0)
          ∙ ap (λ (b : Option (List ℕ)). option_or (known_or_new name None b) (first_file store (read ++ s ∷ more) names)) is ∙ rest h

  new_held : (read : List SourceFile) (f : NewFile) (names : List (List ℕ)) → first_file store read names ≡ Some (New f) → is_some (store f.name) ≡ true
  new_held read f [] h = absurd cc
  new_held read f (name ∷ names) h = by (number_of read name) (store name) refl h (new_held read f names)
    where
      by : (o : Option ℕ) (b : Option (List ℕ)) → store name ≡ b → option_or (known_or_new name o b) (first_file store read names) ≡ Some (New f)
          → (first_file store read names ≡ Some (New f) → is_some (store f.name) ≡ true) → is_some (store f.name) ≡ true
      by (Some m) b is h rest = absurd cc
      by None (Some b) is h rest =
          let new : record { name = name; bytes = b } ≡ f = cc in
          ap (λ (z : NewFile). is_some (store z.name)) (sym new) ∙ ap (λ (o : Option (List ℕ)). is_some o) is
      by None None is h rest = rest h

-- ---- finished files

abbrev IsDone : List Finished → ℕ → Type 0
IsDone [] k = ⊥
IsDone (d ∷ ds) k = (d.file ≡ k) ⊎ IsDone ds k

done_left : (ds : List Finished) (d : Finished) (k : ℕ) → IsDone ds k → IsDone (ds ++ d ∷ []) k
done_left [] d k h = absurd h
done_left (e ∷ ds) d k (inl is) = inl is
done_left (e ∷ ds) d k (inr h) = inr (done_left ds d k h)

done_last : (ds : List Finished) (d : Finished) (k : ℕ) → d.file ≡ k → IsDone (ds ++ d ∷ []) k
done_last [] d k is = inl is
done_last (e ∷ ds) d k is = inr (done_last ds d k is)

done_split : (ds : List Finished) (d : Finished) (k : ℕ) → IsDone (ds ++ d ∷ []) k → IsDone ds k ⊎ (d.file ≡ k)
done_split [] d k (inl is) = inr is
done_split [] d k (inr h) = absurd h
done_split (e ∷ ds) d k (inl is) = inl (inl is)
done_split (e ∷ ds) d k (inr h) = by (done_split ds d k h)
  where
    by : IsDone ds k ⊎ (d.file ≡ k) → IsDone (e ∷ ds) k ⊎ (d.file ≡ k)
    by (inl x) = inl (inr x)
    by (inr x) = inr x

found_done : (ds : List Finished) (k : ℕ) (f : Finished) → find (λ f. f.file == k) ds ≡ Some f → IsDone ds k
found_done [] k f h = absurd cc
found_done (d ∷ ds) k f h = by (d.file == k) refl h (found_done ds k f)
  where
    is_same : (m : ℕ) → (m == k) ≡ true → m ≡ k
    is_same m e = grind (arith, nat_tests, e)

    by : (b : Bool) → (d.file == k) ≡ b → cond b (Some d) (find (λ f. f.file == k) ds) ≡ Some f → (find (λ f. f.file == k) ds ≡ Some f → IsDone ds k) → IsDone (d ∷ ds) k
    by true e h rest = inl (is_same d.file e)
    by false e h rest = inr (rest h)

admitted_known : (number : ℕ) (source : SourceFile) (read : List SourceFile) (i : Import) (o : Option Found) (n : ℕ) → admitted number source read i o ≡ Ok (Known n) → o ≡ Some (Known n)
admitted_known number source read i None n h = absurd cc
admitted_known number source read i (Some (Known m)) n h = cc
admitted_known number source read i (Some (New g)) n h = by (length read == max_files) h
  where
    by : (b : Bool) → (if b then fail source.name (causes.TooManyFiles (fault_at number source i.token 11)) else Ok (New g)) ≡ Ok (Known n) → ◌≡◌ {A = Option Found} (Some (New g)) (Some (Known n))
    by true h = absurd cc
    by false h = absurd cc

-- what is taken of a file is offered by a finished one
taken_done : (number : ℕ) (s : SourceFile) (p : Progress) (i : Import) (offer more : Offer) (file : ℕ) → taken_from number s p i offer file ≡ Ok more → IsDone p.finished file
taken_done number s p i offer more file h = by (offer_of p file) refl h
  where
    by : (o : Option Finished) → offer_of p file ≡ o → (offered_by number s i o >>= (λ offered. with_taken number s p.files offered offer i.names)) ≡ Ok more → IsDone p.finished file
    by None is h = absurd cc
    by (Some f) is h = found_done p.finished file f is

module _ (store : Store) (paths : List (List ℕ)) where
  -- the import finds a file that is finished
  abbrev Leads : List SourceFile → List Finished → Import → Type 0
  Leads files ds i = (n : ℕ) × (first_file store files (candidates paths i.text) ≡ Some (Known n)) × IsDone ds n

  -- so does each import of the file of this number
  abbrev FileLeads : List SourceFile → List Finished → ℕ → Type 0
  FileLeads files ds k = (s : SourceFile) (i : Import) → slice_get files k ≡ Some s → Contains s.tree.imports i → Leads files ds i

  leads_left : (files : List SourceFile) (ds : List Finished) (d : Finished) (i : Import) → Leads files ds i → Leads files (ds ++ d ∷ []) i
  leads_left files ds d i (n, is, done) = (n, is, done_left ds d n done)

  found_by : (files : List SourceFile) (ds : List Finished) (k n : ℕ) → FileLeads files ds k → ImportFinds store paths files k n → IsDone ds n
  found_by files ds k n lead h =
      let there = lead h.source h.«import» h.there h.among in
      let one = there.1 in
      let other = h.finds in
      let same : there.0 ≡ n = cc in
      subst (IsDone ds) same there.2

  done_by : (files : List SourceFile) (ds : List Finished) → ((k : ℕ) → IsDone ds k → FileLeads files ds k) → (between k n : ℕ) → FileLeads files ds k → LeadsTo store paths files between k n → IsDone ds n
  done_by files ds closed zero k n lead h = found_by files ds k n lead h
  done_by files ds closed (suc between) k n lead (m, h, rest) = done_by files ds closed between m n (closed m (found_by files ds k m lead h)) rest

  -- whatever files come behind these, imports of finished files find finished ones, and lie on no cycle
  record IsSafe (p : Progress) : Type 0 where
    closed : (files : List SourceFile) → IsFront p.files files → Held store files → (k : ℕ) → IsDone p.finished k → FileLeads files p.finished k
    apart : (files : List SourceFile) → IsFront p.files files → Held store files → (k : ℕ) → IsDone p.finished k → (between : ℕ) → LeadsTo store paths files between k k → ⊥

  safe_front : (p q : Progress) → p.finished ≡ q.finished → IsFront p.files q.files → IsSafe p → IsSafe q
  safe_front p q same front safe = record {
    closed = λ files f held k done.
        subst (λ (ds : List Finished). FileLeads files ds k) same (safe.closed files (front_then p.files q.files files front f) held k (subst (λ (ds : List Finished). IsDone ds k) (sym same) done));
    apart = λ files f held k done. safe.apart files (front_then p.files q.files files front f) held k (subst (λ (ds : List Finished). IsDone ds k) (sym same) done);
  }

  -- one more is finished, whose imports find finished files
  safe_push : (p : Progress) (t : ℕ) (o : Offer) → IsSafe p → ((files : List SourceFile) → IsFront p.files files → Held store files → FileLeads files p.finished t) → IsSafe (finished t p o)
  safe_push p t o safe lead = record {
    closed = λ files f held k done. closed files f held k (done_split p.finished (record { file = t; offer = o }) k done);
    apart = λ files f held k done. apart files f held k (done_split p.finished (record { file = t; offer = o }) k done);
  }
    where
      closed : (files : List SourceFile) → IsFront p.files files → Held store files → (k : ℕ) → IsDone p.finished k ⊎ (t ≡ k) → FileLeads files (p.finished ++ record { file = t; offer = o } ∷ []) k
      closed files f held k (inl done) s i there among = leads_left files p.finished (record { file = t; offer = o }) i (safe.closed files f held k done s i there among)
      closed files f held k (inr is) s i there among = leads_left files p.finished (record { file = t; offer = o }) i (lead files f held s i (ap (slice_get files) is ∙ there) among)

      apart : (files : List SourceFile) → IsFront p.files files → Held store files → (k : ℕ) → IsDone p.finished k ⊎ (t ≡ k) → (between : ℕ) → LeadsTo store paths files between k k → ⊥
      apart files f held k (inl done) between h = safe.apart files f held k done between h
      apart files f held k (inr is) between h =
          safe.apart files f held k (done_by files p.finished (safe.closed files f held) between k k (subst (FileLeads files p.finished) is (lead files f held)) h) between h

  -- what a step keeps: files stay in front, and each new one is finished
  record Goes (p q : Progress) : Type 0 where
    front : IsFront p.files q.files
    safe : IsSafe q
    held : Held store q.files
    all : (k : ℕ) → k < length q.files → (k < length p.files) ⊎ IsDone q.finished k
    more : (k : ℕ) → IsDone p.finished k → IsDone q.finished k

  -- one more file is gathered, which is not finished yet
  record Ends (p : Progress) (f : NewFile) (q : Progress) : Type 0 where
    source : SourceFile
    named : source.name ≡ f.name
    front : IsFront (p.files ++ source ∷ []) q.files
    safe : IsSafe q
    held : Held store q.files
    leads : (files : List SourceFile) → IsFront q.files files → Held store files → FileLeads files q.finished (length p.files)
    all : (k : ℕ) → k < length q.files → (k < length p.files) ⊎ ((k ≡ length p.files) ⊎ IsDone q.finished k)
    more : (k : ℕ) → IsDone p.finished k → IsDone q.finished k

  abbrev EndsWell : Gather → Type 0
  EndsWell gather = (p : Progress) (f : NewFile) (q : Progress) (offer : Offer) → gather p f ≡ Ok (q, offer) → IsSafe p → Held store p.files → is_some (store f.name) ≡ true → Ends p f q

  abbrev Later : Progress → Import → Type 0
  Later q i = (files : List SourceFile) → IsFront q.files files → Held store files → Leads files q.finished i

  goes_nowhere : (p : Progress) → IsSafe p → Held store p.files → Goes p p
  goes_nowhere p safe held = record { front = no_more p.files; safe = safe; held = held; all = λ k lt. inl lt; more = λ k done. done }

  goes_on : (p q r : Progress) → Goes p q → Goes q r → Goes p r
  goes_on p q r a b = record {
    front = front_then p.files q.files r.files a.front b.front;
    safe = b.safe;
    held = b.held;
    all = λ k lt. by k (b.all k lt);
    more = λ k done. b.more k (a.more k done);
  }
    where
      old : (k : ℕ) → (k < length p.files) ⊎ IsDone q.finished k → (k < length p.files) ⊎ IsDone r.finished k
      old k (inl lt) = inl lt
      old k (inr done) = inr (b.more k done)

      by : (k : ℕ) → (k < length q.files) ⊎ IsDone r.finished k → (k < length p.files) ⊎ IsDone r.finished k
      by k (inl lt) = old k (a.all k lt)
      by k (inr done) = inr done

  goes_behind : (p : Progress) (f : NewFile) (q : Progress) (o : Offer) → Ends p f q → Goes p (finished (length p.files) q o)
  goes_behind p f q o e = record {
    front = front_then p.files (p.files ++ e.source ∷ []) q.files (e.source ∷ [], refl) e.front;
    safe = safe_push q (length p.files) o e.safe e.leads;
    held = e.held;
    all = λ k lt. by k (e.all k lt);
    more = λ k done. done_left q.finished (record { file = length p.files; offer = o }) k (e.more k done);
  }
    where
      by : (k : ℕ) → (k < length p.files) ⊎ ((k ≡ length p.files) ⊎ IsDone q.finished k) → (k < length p.files) ⊎ IsDone (q.finished ++ record { file = length p.files; offer = o } ∷ []) k
      by k (inl lt) = inl lt
      by k (inr (inl is)) = inr (done_last q.finished (record { file = length p.files; offer = o }) k (sym is))
      by k (inr (inr done)) = inr (done_left q.finished (record { file = length p.files; offer = o }) k done)

  known_found : (p : Progress) (i : Import) (n : ℕ) → first_file store p.files (candidates paths i.text) ≡ Some (Known n) → IsDone p.finished n → Later p i
  known_found p i n found done files (more, is) held =
      (n, ap (λ (fs : List SourceFile). first_file store fs (candidates paths i.text)) is ∙ known_later store p.files more n (candidates paths i.text) (subst (Held store) is held) found, done)

  new_found : (p : Progress) (i : Import) (f : NewFile) (q : Progress) (o : Offer) → first_file store p.files (candidates paths i.text) ≡ Some (New f) → Ends p f q
      → Later (finished (length p.files) q o) i
  new_found p i f q o found e files front held =
      let far = front_then (p.files ++ e.source ∷ []) q.files files e.front front in
      let is : files ≡ p.files ++ e.source ∷ far.0 = far.1 ∙ append_assoc p.files (e.source ∷ []) far.0 in (
        length p.files,
        ap (λ (fs : List SourceFile). first_file store fs (candidates paths i.text)) is
            ∙ new_later store p.files far.0 e.source f (candidates paths i.text) (subst (Held store) is held) e.named found,
        done_last q.finished (record { file = length p.files; offer = o }) (length p.files) refl,
      )

  module _ (gather : Gather) (ends : EndsWell gather) (number : ℕ) (source : SourceFile) where
    abbrev Step : Progress → Import → Progress → Type 0
    Step p i q = Goes p q × Later q i

    wanted_known : (p : Progress) (i : Import) (n : ℕ) → wanted store paths number source p.files i ≡ Ok (Known n) → first_file store p.files (candidates paths i.text) ≡ Some (Known n)
    wanted_known p i n w = admitted_known number source p.files i (first_file store p.files (candidates paths i.text)) n w

    import_goes : (p : Progress) (i : Import) (q : Progress) (file : ℕ) → imported store paths gather number source p i ≡ Ok (q, file) → IsSafe p → Held store p.files → IsDone q.finished file → Step p i q
    import_goes p i q file h safe held done = let a = bind_ok (wanted store paths number source p.files i) (reached store paths gather number source p) (q, file) h in by a.0 a.1 a.2
      where
        from_new : (f : NewFile) → wanted store paths number source p.files i ≡ Ok (New f) → (after : Progress × Offer) × (gather p f ≡ Ok after) × (◌≡◌ {A = Outcome (Progress × ℕ)} (Ok (finished (length p.files) after.0 after.1, length p.files)) (Ok (q, file)))
            → Step p i q
        from_new f w (after, g, is) =
            let found = admitted_new number source p.files i (first_file store p.files (candidates paths i.text)) f w in
            let e = ends p f after.0 after.1 g safe held (new_held store p.files f (candidates paths i.text) found) in
            let pair : ◌≡◌ {A = Progress × ℕ} (finished (length p.files) after.0 after.1, length p.files) (q, file) = cc in
            let same : finished (length p.files) after.0 after.1 ≡ q = ap (λ (x : Progress × ℕ). x.0) pair in
            subst (Step p i) same (goes_behind p f after.0 after.1 e, new_found p i f after.0 after.1 found e)

        by : (found : Found) → wanted store paths number source p.files i ≡ Ok found → reached store paths gather number source p found ≡ Ok (q, file) → Step p i q
        by (Known n) w r =
            let pair : ◌≡◌ {A = Progress × ℕ} (p, n) (q, file) = cc in
            let same : p ≡ q = ap (λ (x : Progress × ℕ). x.0) pair in
            let file_same : n ≡ file = ap (λ (x : Progress × ℕ). x.1) pair in
            let there : IsDone p.finished n = subst (λ (r : Progress). IsDone r.finished n) (sym same) (subst (IsDone q.finished) (sym file_same) done) in
            subst (Step p i) same (goes_nowhere p safe held, known_found p i n (wanted_known p i n w) there)
        by (New f) w r = from_new f w (bind_ok (gather p f) (λ after. Ok (finished (length p.files) after.0 after.1, length p.files)) (q, file) r)

    later_on : (p q : Progress) (i : Import) → Goes p q → Later p i → Later q i
    later_on p q i g later files front held =
        let l = later files (front_then p.files q.files files g.front front) held in
        (l.0, l.1, g.more l.0 l.2)

    abbrev Steps : Progress → List Import → Progress → Type 0
    Steps p is q = Goes p q × ((i : Import) → Contains is i → Later q i)

    all_go : (is : List Import) (p : Progress) (offer : Offer) (q : Progress) (o : Offer) → import_all store paths gather number source p offer is ≡ Ok (q, o) → IsSafe p → Held store p.files → Steps p is q
    all_go [] p offer q o h safe held =
        let pair : ◌≡◌ {A = Progress × Offer} (p, offer) (q, o) = cc in
        let same : p ≡ q = ap (λ (x : Progress × Offer). x.0) pair in
        subst (Steps p []) same (goes_nowhere p safe held, λ i (k, lt, is). absurd (omega arith))
    all_go (i ∷ is) p offer q o h safe held =
        let a = bind_ok (imported store paths gather number source p i) (λ after. taken_from number source after.0 i offer after.1 >>= (λ more. import_all store paths gather number source after.0 more is)) (q, o) h in
        let b = bind_ok (taken_from number source a.0.0 i offer a.0.1) (λ more. import_all store paths gather number source a.0.0 more is) (q, o) a.2 in
        let first = import_goes p i a.0.0 a.0.1 a.1 safe held (taken_done number source a.0.0 i offer b.0 a.0.1 b.1) in
        let rest = all_go is a.0.0 b.0 q o b.2 first.0.safe first.0.held in
        (goes_on p a.0.0 q first.0 rest.0, λ j c. by a.0.0 j first.1 rest c)
      where
        by : (m : Progress) (j : Import) → Later m i → Steps m is q → Contains (i ∷ is) j → Later q j
        by m j first rest (zero, lt, here) = subst (Later q) here (later_on m q i rest.0 first)
        by m j first rest (suc k, lt, here) = rest.1 j (k, omega arith, here)

  file_ends : (depth : ℕ) → EndsWell (gather_within store paths depth) → EndsWell (gather_within store paths (suc depth))
  file_ends depth ends p f q offer h safe held is =
      let a = bind_ok (read_source (length p.files) f)
      (λ s. import_all store paths (gather_within store paths depth) (length p.files) s (begun p s) (own (length p.files) s.tree) s.tree.imports) (q, offer) h in
      let named = source_named (length p.files) f a.0 a.1 in
      let has : is_some (store a.0.name) ≡ true = ap (λ (n : List ℕ). is_some (store n)) named ∙ is in
      let rest = all_go (gather_within store paths depth) ends (length p.files) a.0 a.0.tree.imports (begun p a.0) (own (length p.files) a.0.tree) q offer a.2
      (safe_front p (begun p a.0) refl (a.0 ∷ [], refl) safe) (held_push store p.files a.0 held has) in
      record {
        source = a.0;
        named = named;
        front = rest.0.front;
        safe = rest.0.safe;
        held = rest.0.held;
        leads = λ files front held s i there among. lead a.0 rest files front held s i there among;
        all = λ k lt. every a.0 k (rest.0.all k lt);
        more = rest.0.more;
      }
    where
      lead : (source : SourceFile) → Goes (begun p source) q × ((i : Import) → Contains source.tree.imports i → Later q i)
          → (files : List SourceFile) → IsFront q.files files → Held store files → FileLeads files q.finished (length p.files)
      lead source rest files front held s i there among =
          let pushed = there_pushed p.files (p.files ++ source ∷ []) source (length p.files) refl refl in
          let here = in_front (p.files ++ source ∷ []) files (length p.files) source (front_then (p.files ++ source ∷ []) q.files files rest.0.front front) pushed in
          let same : s ≡ source = cc in
          rest.1 i (subst (λ (z : SourceFile). Contains z.tree.imports i) same among) files front held

      every : (source : SourceFile) (k : ℕ) → (k < length (p.files ++ source ∷ [])) ⊎ IsDone q.finished k → (k < length p.files) ⊎ ((k ≡ length p.files) ⊎ IsDone q.finished k)
      every source k (inr done) = inr (inr done)
      every source k (inl lt) = by (last_or_before k (length p.files) (let l = length-append p.files (source ∷ []) in omega arith))
        where
          by : (k < length p.files) ⊎ (k ≡ length p.files) → (k < length p.files) ⊎ ((k ≡ length p.files) ⊎ IsDone q.finished k)
          by (inl less) = inl less
          by (inr same) = inr (inl same)

  gather_ends : (depth : ℕ) → EndsWell (gather_within store paths depth)
  gather_ends zero p f q offer h safe held is = absurd cc
  gather_ends (suc depth) p f q offer h safe held is = file_ends depth (gather_ends depth) p f q offer h safe held is

  safe_none : IsSafe no_files
  safe_none = record { closed = λ files f held k done. absurd done; apart = λ files f held k done. absurd done }

  root_held : (root : List ℕ) (o : Option (List ℕ)) (f : NewFile) → store root ≡ o → root_bytes root o ≡ Ok f → is_some (store f.name) ≡ true
  root_held root None f is h = absurd cc
  root_held root (Some b) f is h =
      let new : record { name = root; bytes = b } ≡ f = cc in
      ap (λ (z : NewFile). is_some (store z.name)) (sym new) ∙ ap (λ (o : Option (List ℕ)). is_some o) is

  -- all gathered files, as if the root were finished too
  record AllEnd (g : Gathered) : Type 0 where
    last : Progress
    files : last.files ≡ g.files
    safe : IsSafe last
    held : Held store last.files
    all : (k : ℕ) → k < length last.files → IsDone last.finished k

  all_end : (root : List ℕ) (g : Gathered) → all_of store paths root ≡ Ok g → AllEnd g
  all_end root g h =
      let f = bind_ok (root_bytes root (store root)) (λ f. gather_within store paths max_files no_files f >>= (λ done. Ok (gathered done.0 done.1))) g h in
      let d = bind_ok (gather_within store paths max_files no_files f.0) (λ done. Ok (gathered done.0 done.1)) g f.2 in
      let e = gather_ends max_files no_files f.0 d.0.0 d.0.1 d.1 safe_none tt (root_held root (store root) f.0 refl f.1) in
      let goes = goes_behind no_files f.0 d.0.0 d.0.1 e in
      let one : gathered d.0.0 d.0.1 ≡ g = cc in
      record {
        last = finished 0 d.0.0 d.0.1;
        files = ap (λ (x : Gathered). x.files) one;
        safe = goes.safe;
        held = goes.held;
        all = λ k lt. by d.0.0 d.0.1 k (goes.all k lt);
      }
    where
      by : (q : Progress) (o : Offer) (k : ℕ) → (k < 0) ⊎ IsDone (finished 0 q o).finished k → IsDone (finished 0 q o).finished k
      by q o k (inl lt) = absurd (omega arith)
      by q o k (inr done) = done

  gathering_ends : (root : List ℕ) (g : Gathered) → (all_of store paths root >>= (λ g. unless_conflict g (first_conflict g))) ≡ Ok g → AllEnd g
  gathering_ends root g h =
      let a = bind_ok (all_of store paths root) (λ g. unless_conflict g (first_conflict g)) g h in
      subst AllEnd (conflict_same a.0 g (first_conflict a.0) a.2) (all_end root a.0 a.1)

pub none_leads_to_itself : NoneLeadsToItself
none_leads_to_itself store paths root g h between k path =
    let e = gathering_ends store paths root g h in
    let here : LeadsTo store paths e.last.files between k k = subst (λ (fs : List SourceFile). LeadsTo store paths fs between k k) (sym e.files) path in
    e.safe.apart e.last.files (no_more e.last.files) e.held k (e.all k (first between e.last.files here)) between here
  where
    first : (between : ℕ) (files : List SourceFile) → LeadsTo store paths files between k k → k < length files
    first zero files h = below files k h.source h.there
    first (suc between) files (m, h, rest) = below files k h.source h.there

pub each_import_is_gathered : EachImportIsGathered
each_import_is_gathered store paths root g h k f i there among =
    let e = gathering_ends store paths root g h in
    let here : slice_get e.last.files k ≡ Some f = ap (λ (fs : List SourceFile). slice_get fs k) e.files ∙ there in
    let l = e.safe.closed e.last.files (no_more e.last.files) e.held k (e.all k (below e.last.files k f here)) f i here among in
    (l.0, ap (λ (fs : List SourceFile). first_file store fs (candidates paths i.text)) (sym e.files) ∙ l.1)
