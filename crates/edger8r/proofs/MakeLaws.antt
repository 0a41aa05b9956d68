-- What is made of EDL files, a step at a time.
use Rattle.std.proofs.Common.{ℕ, ◌≡◌, ◌+◌, ◌<◌, ◌≤◌, inl, inr, List, ◌∷◌, length, get_or, drop, map, Option, Some, None, Result, Ok, Err, false, refl, sym, ap, ◌∙◌, subst, arith}
use Rattle.std.specs.Prelude.{IfSome}
use Rattle.std.proofs.lemmas.List.{drop_more, drop_all}
use Rattle.sgx_base.specs.Outcome.{OrMemory}
use Rattle.sgx_base.specs.Stores.{Store, FilesState, AreBoth, AreOthersKept, IsOnlyWritten, IsWritten, IsWriteOf}
use Rattle.sgx_base.specs.declared.files.FileFault.{FileFault}
use Rattle.edl_grammar.specs.declared.Gathered.{Gathered}
use Rattle.edl_interface.specs.declared.Interface.{Interface}
use Rattle.edl_layout.specs.declared.ForeignTypes.{ForeignTypes}
use Rattle.edl_reader.specs.declared.faults.SourceFault.{SourceFault}
use Rattle.edl_reader.specs.declared.faults.SourceFault.TheVariants as source
use Rattle.edl_reader.specs.Accepted.{IsAccepted, IsRefused}
use Rattle.edl_reader.specs.Sources.{IsEdlFault}
use Rattle.stub_printer.specs.declared.Options.{Options}
use Rattle.tool_words.specs.declared.Choices.{Choices}
use Rattle.stub_files.specs.declared.StubFile.{StubFile}
use Rattle.stub_files.specs.StubFiles.{stub_files}
use Rattle.edger8r.specs.declared.ending.Ending.{Ending}
use Rattle.edger8r.specs.declared.ending.Ending.TheVariants.{Edl, Made}
use Rattle.edger8r.specs.Made.{Stub, stub_of, stubs_of, options_of, lenient_types, of_source, Writes, MakesOf, MakesFile, MakesAll}
use Rattle.edger8r.specs.Made as made

-- ---- files that nothing is done to

both_refl : (P : Store → Store → Type 0) → ((s : Store) → P s s) → (c : Option Store) → IfSome c (λ old. IfSome c (P old))
both_refl P r None = tt
both_refl P r (Some s) = r s

pub unwritten : (name : List ℕ) (files : FilesState) → IsOnlyWritten name files files
unwritten name files = record {
  told = refl;
  others = both_refl (AreOthersKept name) (λ s other ne. refl) files.contents;
  read_faults = refl;
  misses = refl;
  write_faults = omega arith;
}

-- ---- a list from one of its places on

at_place : {X : Type 0} (xs : List X) (i : ℕ) (d : X) → i < length xs → d ≡ get_or xs i d → drop i xs ≡ d ∷ drop (i + 1) xs
at_place xs i d lt is = drop_more xs i d lt ∙ ap (λ x. x ∷ drop (i + 1) xs) (sym is)

-- ---- stubs

module _ (f : StubFile → Stub) (files : List StubFile) (i : ℕ) where
  -- the next one is written
  pub next_stub : (d : StubFile) (before middle after : FilesState) (result : Result (Unit {0}) FileFault) → i < length files → d ≡ get_or files i d
      → IsOnlyWritten (f d).name before middle → AreBoth (IsWritten (f d).name (f d).text) before middle
      → middle.write_faults ≡ before.write_faults → Writes (map f (drop (i + 1) files)) middle after result → Writes (map f (drop i files)) before after result
  next_stub d before middle after result lt is only w quiet more =
      subst (λ (xs : List StubFile). Writes (map f xs) before after result) (sym (at_place files i d lt is))
      (made.write_next (f d) (map f (drop (i + 1) files)) before middle after result only w quiet more)

  -- it is not
  pub refused_stub : (d : StubFile) (before after : FilesState) (fault : FileFault) → i < length files → d ≡ get_or files i d
      → IsOnlyWritten (f d).name before after → IsWriteOf (f d).name (f d).text (Err fault) before after → Writes (map f (drop i files)) before after (Err fault)
  refused_stub d before after fault lt is only w =
      subst (λ (xs : List StubFile). Writes (map f xs) before after (Err fault)) (sym (at_place files i d lt is))
      (made.refused (f d) (map f (drop (i + 1) files)) before after fault only w)

  -- there is none
  pub no_stub : (before : FilesState) → length files ≤ i → Writes (map f (drop i files)) before before (Ok tt)
  no_stub before le =
      subst (λ (xs : List StubFile). Writes (map f xs) before before (Ok tt)) (sym (drop_all i files le)) (made.all_written before)

pub chosen_written : (c : Choices) (file : List ℕ) (g : Gathered) (i : Interface) (o : Options) (files : List StubFile) (before after : FilesState) (result : Result (Unit {0}) FileFault)
    → o ≡ options_of c file → files ≡ stub_files c file → Writes (map (stub_of g i o) files) before after result → Writes (stubs_of c file g i) before after result
chosen_written c file g i o files before after result same chosen w =
    subst (λ (p : Options). Writes (map (stub_of g i p) (stub_files c file)) before after result) same
    (subst (λ (xs : List StubFile). Writes (map (stub_of g i o) xs) before after result) chosen w)

-- ---- EDL files

pub at_fault : (c : Choices) (file : List ℕ) (g : Gathered) (foreign : ForeignTypes) (before : FilesState) (fault : SourceFault) → foreign ≡ lenient_types
    → OrMemory source.Memory (IsEdlFault g.files (IsRefused g foreign false)) fault → MakesOf c file g before before (Err (of_source fault))
at_fault c file g foreign before fault lenient (inl m) =
    subst (λ (x : SourceFault). MakesOf c file g before before (Err (of_source x))) (sym m) made.no_memory
at_fault c file g foreign before fault lenient (inr h) = by fault (subst (λ (x : ForeignTypes). IsEdlFault g.files (IsRefused g x false) fault) lenient h)
  where
    by : (fault : SourceFault) → IsEdlFault g.files (IsRefused g lenient_types false) fault → MakesOf c file g before before (Err (of_source fault))
    by (source.Edl name f) h =
        subst (λ (n : List ℕ). MakesOf c file g before before (Err (Edl n f))) (sym h.0) (made.at_fault f h.1)
    by (source.NotFound name) h = absurd h
    by (source.ReadFault name) h = absurd h
    by source.Memory h = absurd h

pub accepted : (c : Choices) (file : List ℕ) (g : Gathered) (foreign : ForeignTypes) (i : Interface) (before after : FilesState) (result : Result (Unit {0}) FileFault) → foreign ≡ lenient_types
    → IsAccepted g foreign false i → Writes (stubs_of c file g i) before after result → MakesOf c file g before after (made.of_write result)
accepted c file g foreign i before after result lenient is w =
    made.accepted i after result (subst (λ (x : ForeignTypes). IsAccepted g x false i) lenient is) w

module _ (c : Choices) (files : List (List ℕ)) (i : ℕ) where
  -- the stubs of the next one are made
  pub next_file : (d : List ℕ) (before middle after : FilesState) (ending : Ending) → i < length files → d ≡ get_or files i d
      → MakesFile c d before middle (Ok tt) → MakesAll c (drop (i + 1) files) middle after ending → MakesAll c (drop i files) before after ending
  next_file d before middle after ending lt is m more =
      subst (λ (xs : List (List ℕ)). MakesAll c xs before after ending) (sym (at_place files i d lt is))
      (made.make_next d (drop (i + 1) files) before middle after ending m more)

  -- they are not
  pub stopped : (d : List ℕ) (before after : FilesState) (ending : Ending) → i < length files → d ≡ get_or files i d
      → MakesFile c d before after (Err ending) → MakesAll c (drop i files) before after ending
  stopped d before after ending lt is m =
      subst (λ (xs : List (List ℕ)). MakesAll c xs before after ending) (sym (at_place files i d lt is))
      (made.stopped d (drop (i + 1) files) before after ending m)

  -- there is none
  pub no_file : (before : FilesState) → length files ≤ i → MakesAll c (drop i files) before before Made
  no_file before le =
      subst (λ (xs : List (List ℕ)). MakesAll c xs before before Made) (sym (drop_all i files le)) (made.all_made before)
