-- A file and its imports, one after another.
use Rattle.std.proofs.Common.{ℕ, suc, ◌≡◌, ◌+◌, ◌≤◌, List, length, drop, Option, Some, None, Result, Ok, Err, sym, ap, ◌∙◌, subst}
use Rattle.std.specs.Prelude.{IfSome, IfOk, IfErr, slice_get}
use Rattle.std.proofs.lemmas.List.{drop_all}
use Rattle.sgx_base.specs.Stores.{Store, FilesState, AreOnlyRead}
use Rattle.edl_grammar.specs.Files.{fault_by}
use Rattle.edl_grammar.specs.declared.Gathered.{Gathered}
use Rattle.edl_grammar.specs.declared.Import.{Import}
use Rattle.edl_grammar.specs.declared.SourceFile.{SourceFile}
use Rattle.edl_imports.specs.declared.faults.ImportFault.{ImportFault}
use Rattle.edl_imports.specs.declared.faults.ImportCause.TheVariants as causes
use Rattle.edl_imports.specs.declared.faults.Stop.{Stop}
use Rattle.edl_imports.specs.declared.gathering.Progress.{Progress}
use Rattle.edl_imports.specs.declared.offers.Offer.{Offer}
use Rattle.edl_imports.specs.declared.search.Found.{Found}
use Rattle.edl_imports.specs.declared.search.Found.TheVariants.{Known, New}
use Rattle.edl_imports.specs.declared.search.NewFile.{NewFile}
use Rattle.edl_imports.specs.Offers.{own}
use Rattle.edl_imports.specs.Gathering.{Outcome, ◌>>=◌, wanted, reached, imported, taken_from, import_all, gather_within, read_source, begun, finished, max_files, no_files, root_bytes, name_at, tokens_at, gathered, all_of, unless_conflict, gathering}
use Rattle.edl_imports.specs.Causes.{IsStop, IsStopOf}
use Rattle.edl_imports.specs.Conflicts.{Place, first_conflict}
use Rattle.edl_imports.proofs.Steps.{IsPlain, ArePlain, always, one, both, unread, told_before, stops_as, stops_plainly}
use Rattle.edl_imports.proofs.Reading.{read_plain}
use Rattle.edl_imports.proofs.Importing.{drop_there, taken_plain}

-- what follows a step that went well
after_ok : {A B : Type 0} (x : Outcome A) (f : A → Outcome B) (a : A) → x ≡ Ok a → (x >>= f) ≡ f a
after_ok x f a h = ap (λ (o : Outcome _). o >>= f) h

after_err : {A B : Type 0} (x : Outcome A) (f : A → Outcome B) (e : ImportFault) → x ≡ Err e → (x >>= f) ≡ Err e
after_err x f e h = ap (λ (o : Outcome _). o >>= f) h

module _ (paths : List (List ℕ)) (depth : ℕ) where
  -- ---- one file

  module _ (p : Progress) (new : NewFile) (d number : ℕ) where
    abbrev Whole : Store → Outcome (Progress × Offer)
    Whole store = gather_within store paths depth p new

    abbrev Deeper : Store → SourceFile → Progress → Outcome (Progress × Offer)
    Deeper store source q = import_all store paths (gather_within store paths d) number source q (own number source.tree) source.tree.imports

    opened : (store : Store) (source : SourceFile) → depth ≡ suc d → number ≡ length p.files → read_source number new ≡ Ok source → Whole store ≡ Deeper store source (begun p source)
    opened store source deep is read =
        ap (λ (n : ℕ). gather_within store paths n p new) deep
        ∙ ap (λ (n : ℕ). read_source n new >>= (λ s. import_all store paths (gather_within store paths d) n s (begun p s) (own n s.tree) s.tree.imports)) (sym is)
        ∙ after_ok (read_source number new) (λ s. import_all store paths (gather_within store paths d) number s (begun p s) (own number s.tree) s.tree.imports) source read

    pub file_unread : (before after : FilesState) (stop : Stop) → depth ≡ suc d → number ≡ length p.files → IsStopOf (read_source number new) stop → IsStop paths before after Whole stop
    file_unread before after stop deep is =
        stops_plainly paths before after (read_source number new) Whole stop (read_plain number new)
        (always before.contents (λ store e h.
        ap (λ (n : ℕ). gather_within store paths n p new) deep
        ∙ ap (λ (n : ℕ). read_source n new >>= (λ s. import_all store paths (gather_within store paths d) n s (begun p s) (own n s.tree) s.tree.imports)) (sym is)
        ∙ after_err (read_source number new) (λ s. import_all store paths (gather_within store paths d) number s (begun p s) (own number s.tree) s.tree.imports) e h))

    pub file_gathered : (contents : Option Store) (source : SourceFile) (q after : Progress) (result : Result Offer Stop) → depth ≡ suc d → number ≡ length p.files → read_source number new ≡ Ok source
        → q ≡ begun p source → IfOk result (λ offer. IfSome contents (λ store. Deeper store source q ≡ Ok (after, offer)))
        → IfOk result (λ offer. IfSome contents (λ store. Whole store ≡ Ok (after, offer)))
    file_gathered contents source q after (Err e) deep is read pushed h = tt
    file_gathered contents source q after (Ok offer) deep is read pushed h =
        one contents (λ store e. opened store source deep is read ∙ ap (Deeper store source) (sym pushed) ∙ e) h

    pub file_stops : (before after : FilesState) (source : SourceFile) (q : Progress) (result : Result Offer Stop) → depth ≡ suc d → number ≡ length p.files → read_source number new ≡ Ok source
        → q ≡ begun p source → IfErr result (IsStop paths before after (λ store. Deeper store source q)) → IfErr result (IsStop paths before after Whole)
    file_stops before after source q (Ok offer) deep is read pushed h = tt
    file_stops before after source q (Err stop) deep is read pushed h =
        stops_as paths before before after (λ store. Deeper store source q) Whole stop (unread before)
        (always before.contents (λ store e f. opened store source deep is read ∙ ap (Deeper store source) (sym pushed) ∙ f)) h

  -- ---- the file of an import

  module _ (number : ℕ) (source : SourceFile) (p : Progress) (i : Import) where
    abbrev Wanted : Store → Outcome Found
    Wanted store = wanted store paths number source p.files i

    abbrev Imported : Store → Outcome (Progress × ℕ)
    Imported store = imported store paths (gather_within store paths depth) number source p i

    pub unwanted : (before after : FilesState) (read : List SourceFile) (stop : Stop) → read ≡ p.files → IsStop paths before after (λ store. wanted store paths number source read i) stop
        → IsStop paths before after Imported stop
    unwanted before after read stop same =
        stops_as paths before before after (λ store. wanted store paths number source read i) Imported stop (unread before)
        (always before.contents (λ store e h.
        after_err (Wanted store) (reached store paths (gather_within store paths depth) number source p) e
        (ap (λ (fs : List SourceFile). wanted store paths number source fs i) (sym same) ∙ h)))

    found_is : (store : Store) (read : List SourceFile) (found is : Found) → read ≡ p.files → found ≡ is → wanted store paths number source read i ≡ Ok found → Wanted store ≡ Ok is
    found_is store read found is same told w = ap (λ (fs : List SourceFile). wanted store paths number source fs i) (sym same) ∙ w ∙ ap (λ (f : Found). Ok f) told

    pub known_reached : (contents : Option Store) (read : List SourceFile) (found : Found) (file : ℕ) → read ≡ p.files → found ≡ Known file
        → IfSome contents (λ store. wanted store paths number source read i ≡ Ok found) → IfSome contents (λ store. Imported store ≡ Ok (p, file))
    known_reached contents read found file same told =
        one contents (λ store w. after_ok (Wanted store) (reached store paths (gather_within store paths depth) number source p) (Known file) (found_is store read found (Known file) same told w))

    module _ (before middle : FilesState) (read : List SourceFile) (found : Found) (new : NewFile) (same : read ≡ p.files) (told : found ≡ New new) (kept : AreOnlyRead before middle)
        (here : IfSome before.contents (λ store. wanted store paths number source read i ≡ Ok found)) where
      then_gathered : (store : Store) → wanted store paths number source read i ≡ Ok found
          → Imported store ≡ (gather_within store paths depth p new >>= (λ done. Ok (finished (length p.files) done.0 done.1, length p.files)))
      then_gathered store w = after_ok (Wanted store) (reached store paths (gather_within store paths depth) number source p) (New new) (found_is store read found (New new) same told w)

      pub new_stops : (after : FilesState) (stop : Stop) → IsStop paths middle after (λ store. gather_within store paths depth p new) stop → IsStop paths before after Imported stop
      new_stops after stop =
          stops_as paths before middle after (λ store. gather_within store paths depth p new) Imported stop kept
          (one before.contents (λ store w e h.
          then_gathered store w ∙ after_err (gather_within store paths depth p new) (λ done. Ok (finished (length p.files) done.0 done.1, length p.files)) e h) here)

      pub new_reached : (q after : Progress) (offer : Offer) (file : ℕ) → IfSome middle.contents (λ store. gather_within store paths depth p new ≡ Ok (q, offer))
          → file ≡ length p.files → after ≡ finished file q offer → IfSome before.contents (λ store. Imported store ≡ Ok (after, file))
      new_reached q after offer file gathered is put =
          both before.contents (λ store w g.
          then_gathered store w
          ∙ after_ok (gather_within store paths depth p new) (λ done. Ok (finished (length p.files) done.0 done.1, length p.files)) (q, offer) g
          ∙ ap (λ (n : ℕ). Ok (finished n q offer, n)) (sym is) ∙ ap (λ (r : Progress). Ok (r, file)) (sym put))
          here (told_before (λ store. gather_within store paths depth p new ≡ Ok (q, offer)) before middle kept gathered)

  -- ---- the imports of a file

  module _ (number : ℕ) (source : SourceFile) where
    abbrev Rest : Store → Progress → Offer → List Import → Outcome (Progress × Offer)
    Rest store = import_all store paths (gather_within store paths depth) number source

    abbrev All : Progress → Store → Outcome (Progress × Offer)
    All p store = Rest store p (own number source.tree) source.tree.imports

    -- so far the imports gave this, and these are left
    abbrev IsSoFar : FilesState → Progress → Progress → Offer → ℕ → Type 0
    IsSoFar files first p offer index = IfSome files.contents (λ store. Rest store p offer (drop index source.tree.imports) ≡ All first store)

    module _ (before middle : FilesState) (first p : Progress) (offer : Offer) (index : ℕ) (i : Import) (kept : AreOnlyRead before middle) (here : slice_get source.tree.imports index ≡ Some i)
        (so_far : IsSoFar before first p offer index) where
      abbrev Next : Store → Outcome (Progress × ℕ)
      Next store = imported store paths (gather_within store paths depth) number source p i

      abbrev Behind : Store → Progress × ℕ → Outcome (Progress × Offer)
      Behind store done = taken_from number source done.0 i offer done.1 >>= (λ more. Rest store done.0 more (drop (index + 1) source.tree.imports))

      turn : (store : Store) → Rest store p offer (drop index source.tree.imports) ≡ (Next store >>= Behind store)
      turn store = ap (Rest store p offer) (drop_there source.tree.imports index i here)

      pub turn_stops : (after : FilesState) (stop : Stop) → IsStop paths middle after Next stop → IsStop paths before after (All first) stop
      turn_stops after stop =
          stops_as paths before middle after Next (All first) stop kept
          (one before.contents (λ store s e h. sym s ∙ turn store ∙ after_err (Next store) (Behind store) e h) so_far)

      module _ (q : Progress) (file : ℕ) (reached : IfSome middle.contents (λ store. Next store ≡ Ok (q, file))) where
        before_too : IfSome before.contents (λ store. Next store ≡ Ok (q, file))
        before_too = told_before (λ store. Next store ≡ Ok (q, file)) before middle kept reached

        pub turn_refused : (after : FilesState) (stop : Stop) → IsStopOf (taken_from number source q i offer file) stop → IsStop paths before after (All first) stop
        turn_refused after stop =
            stops_plainly paths before after (taken_from number source q i offer file) (All first) stop (taken_plain number source q i offer file)
            (both before.contents (λ store s n e h.
            sym s ∙ turn store ∙ after_ok (Next store) (Behind store) (q, file) n
            ∙ after_err (taken_from number source q i offer file) (λ more. Rest store q more (drop (index + 1) source.tree.imports)) e h) so_far before_too)

        pub turned : (more : Offer) → taken_from number source q i offer file ≡ Ok more → IsSoFar before first q more (index + 1)
        turned more took =
            both before.contents (λ store s n.
            sym (after_ok (Next store) (Behind store) (q, file) n
            ∙ after_ok (taken_from number source q i offer file) (λ more. Rest store q more (drop (index + 1) source.tree.imports)) more took)
            ∙ sym (turn store) ∙ s) so_far before_too

    -- none is left
    pub all_turned : (files : FilesState) (first p : Progress) (offer : Offer) (index : ℕ) → length source.tree.imports ≤ index → IsSoFar files first p offer index
        → IfSome files.contents (λ store. All first store ≡ Ok (p, offer))
    all_turned files first p offer index le =
        one files.contents (λ store s. sym s ∙ ap (Rest store p offer) (drop_all index source.tree.imports le))

-- ---- the root

module _ (paths : List (List ℕ)) (root : List ℕ) where
  abbrev Root : Store → Outcome NewFile
  Root store = root_bytes root (store root)

  abbrev All_of : Store → Outcome Gathered
  All_of store = all_of store paths root

  abbrev Gathering : Store → Outcome Gathered
  Gathering store = gathering store paths root

  abbrev Answer : Progress × Offer → Outcome Gathered
  Answer done = Ok (gathered done.0 done.1)

  pub no_root : (before after : FilesState) (stop : Stop) → IsStop paths before after Root stop → IsStop paths before after All_of stop
  no_root before after stop =
      stops_as paths before before after Root All_of stop (unread before)
      (always before.contents (λ store. after_err (Root store) (λ f. gather_within store paths max_files no_files f >>= Answer)))

  module _ (before middle : FilesState) (f : NewFile) (kept : AreOnlyRead before middle) (here : IfSome before.contents (λ store. Root store ≡ Ok f)) where
    pub root_stops : (after : FilesState) (stop : Stop) → IsStop paths middle after (λ store. gather_within store paths max_files no_files f) stop → IsStop paths before after All_of stop
    root_stops after stop =
        stops_as paths before middle after (λ store. gather_within store paths max_files no_files f) All_of stop kept
        (one before.contents (λ store r e h.
        after_ok (Root store) (λ f. gather_within store paths max_files no_files f >>= Answer) f r ∙ after_err (gather_within store paths max_files no_files f) Answer e h) here)

    pub root_gathered : (p : Progress) (offer : Offer) → IfSome middle.contents (λ store. gather_within store paths max_files no_files f ≡ Ok (p, offer))
        → IfSome before.contents (λ store. All_of store ≡ Ok (gathered p offer))
    root_gathered p offer h =
        both before.contents (λ store r g.
        after_ok (Root store) (λ f. gather_within store paths max_files no_files f >>= Answer) f r ∙ after_ok (gather_within store paths max_files no_files f) Answer (p, offer) g)
        here (told_before (λ store. gather_within store paths max_files no_files f ≡ Ok (p, offer)) before middle kept h)

  abbrev Ends : Gathered → Outcome Gathered
  Ends g = unless_conflict g (first_conflict g)

  pub not_gathered : (before after : FilesState) (stop : Stop) → IsStop paths before after All_of stop → IsStop paths before after Gathering stop
  not_gathered before after stop = stops_as paths before before after All_of Gathering stop (unread before) (always before.contents (λ store. after_err (All_of store) Ends))

  conflict_plain : (g : Gathered) → ArePlain (Ends g)
  conflict_plain g e = by (first_conflict g)
    where
      by : (at : Option Place) → unless_conflict g at ≡ Err e → IsPlain e.cause
      by None h = absurd cc
      by (Some at) h =
          let same : record { name = name_at g.files at.file; cause = causes.Conflict (fault_by at.file 10 (slice_get (tokens_at g.files at.file) at.token)) } ≡ e = cc in
          subst (λ (z : ImportFault). IsPlain z.cause) same tt

  pub conflict_stops : (before after : FilesState) (g : Gathered) (result : Result Gathered Stop) → IfSome before.contents (λ store. All_of store ≡ Ok g) → IfErr result (IsStopOf (Ends g))
      → IfErr result (IsStop paths before after Gathering)
  conflict_stops before after g (Ok k) all h = tt
  conflict_stops before after g (Err stop) all h =
      stops_plainly paths before after (Ends g) Gathering stop (conflict_plain g) (one before.contents (λ store a e i. after_ok (All_of store) Ends g a ∙ i) all) h

  pub no_conflict : (contents : Option Store) (g : Gathered) (result : Result Gathered Stop) → IfSome contents (λ store. All_of store ≡ Ok g) → IfOk result (λ k. Ends g ≡ Ok k)
      → IfOk result (λ k. IfSome contents (λ store. Gathering store ≡ Ok k))
  no_conflict contents g (Err stop) all h = tt
  no_conflict contents g (Ok k) all h = one contents (λ store a. after_ok (All_of store) Ends g a ∙ h) all
