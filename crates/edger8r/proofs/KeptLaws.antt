-- Files that no stub is named after stay.
use Rattle.std.proofs.Common.{ℕ, suc, ◌≡◌, ◌≢◌, List, [], ◌∷◌, map, Option, Some, None, is_some, Result, Ok, Err, refl, sym, ap, ◌∙◌, subst, arith}
use Rattle.std.specs.Prelude.{IfSome, Contains}
use Rattle.sgx_base.specs.Stores.{Store, FilesState, AreOnlyRead, AreBoth, AreOthersKept, IsOnlyWritten}
use Rattle.sgx_base.specs.declared.files.FileFault.{FileFault}
use Rattle.edl_grammar.specs.declared.Gathered.{Gathered}
use Rattle.edl_interface.specs.declared.Interface.{Interface}
use Rattle.stub_printer.specs.declared.Options.{Options}
use Rattle.tool_words.specs.declared.Choices.{Choices}
use Rattle.stub_files.specs.declared.StubFile.{StubFile}
use Rattle.stub_files.specs.StubFiles.{stub_files}
use Rattle.edger8r.specs.declared.ending.Ending.{Ending}
use Rattle.edger8r.specs.Made.{Stub, stub_of, options_of, Writes, MakesOf, MakesFile, MakesAll}
use Rattle.edger8r.specs.Made as made
use Rattle.edger8r.specs.Endings.{Ends}
use Rattle.edger8r.specs.Endings as endings
use Rattle.edger8r.specs.Answers.{IsChosen, AreOthersAsBefore}

-- the file of this name has the bytes that it had, where they are told
abbrev Same : List ℕ → Store → Store → Type 0
Same name old new = new name ≡ old name

record Stays (name : List ℕ) (before after : FilesState) : Type 0 where
  told : is_some after.contents ≡ is_some before.contents
  same : AreBoth (Same name) before after

same_by : (name : List ℕ) (a b : Option Store) → b ≡ a → IfSome a (λ old. IfSome b (Same name old))
same_by name None b e = tt
same_by name (Some s) b e = subst (λ (o : Option Store). IfSome o (Same name s)) (sym e) refl

same_later : (name : List ℕ) (a b c : Option Store) → is_some b ≡ is_some a → IfSome a (λ old. IfSome b (Same name old))
    → IfSome b (λ old. IfSome c (Same name old)) → IfSome a (λ old. IfSome c (Same name old))
same_later name None b c told p q = tt
same_later name (Some s) None c told p q = absurd cc
same_later name (Some s) (Some t) None told p q = tt
same_later name (Some s) (Some t) (Some u) told p q = q ∙ p

same_other : (name other : List ℕ) → name ≢ other → (a b : Option Store) → IfSome a (λ old. IfSome b (AreOthersKept other old)) → IfSome a (λ old. IfSome b (Same name old))
same_other name other ne None b h = tt
same_other name other ne (Some s) None h = tt
same_other name other ne (Some s) (Some t) h = h name ne

module _ (name : List ℕ) where
  stays : (files : FilesState) → Stays name files files
  stays files = record { told = refl; same = same_by name files.contents files.contents refl }

  later : (before middle after : FilesState) → Stays name before middle → Stays name middle after → Stays name before after
  later before middle after p q = record {
    told = q.told ∙ p.told;
    same = same_later name before.contents middle.contents after.contents p.told p.same q.same;
  }

  by_reading : (before after : FilesState) → AreOnlyRead before after → Stays name before after
  by_reading before after kept = record { told = ap is_some kept.contents; same = same_by name before.contents after.contents kept.contents }

  by_writing : (other : List ℕ) (before after : FilesState) → name ≢ other → IsOnlyWritten other before after → Stays name before after
  by_writing other before after ne only = record { told = only.told; same = same_other name other ne before.contents after.contents only.others }

  -- ---- stubs of other names

  abbrev AreOther : List Stub → Type 0
  AreOther [] = Unit {0}
  AreOther (stub ∷ stubs) = (name ≢ stub.name) × AreOther stubs

  others_of : (g : Gathered) (i : Interface) (o : Options) (files : List StubFile) → ((f : StubFile) → Contains files f → f.name ≢ name) → AreOther (map (stub_of g i o) files)
  others_of g i o [] h = tt
  others_of g i o (f ∷ files) h =
      ((λ e. h f (0, omega arith, refl) (sym e)), others_of g i o files (λ x there. h x (suc there.0, (let lt = there.1 in omega arith), there.2)))

  by_stubs : (stubs : List Stub) (before after : FilesState) (result : Result (Unit {0}) FileFault) → AreOther stubs → Writes stubs before after result → Stays name before after
  by_stubs stubs before after result other (made.all_written files) = stays files
  by_stubs stubs before after result other (made.write_next stub rest first middle last answer only is quiet more) =
      later first middle last (by_writing stub.name first middle other.0 only) (by_stubs rest middle last answer other.1 more)
  by_stubs stubs before after result other (made.refused stub rest first last fault only is) = by_writing stub.name first last other.0 only
  by_stubs stubs before after result other (made.out_of_memory rest files) = stays files

  -- ---- EDL files

  module _ (c : Choices) where
    abbrev NotOf : List ℕ → Type 0
    NotOf file = (f : StubFile) → Contains (stub_files c file) f → f.name ≢ name

    by_gathered : (file : List ℕ) (g : Gathered) (before after : FilesState) (result : Result (Unit {0}) Ending) → NotOf file → MakesOf c file g before after result → Stays name before after
    by_gathered file g before after result other (made.at_fault f refused) = stays before
    by_gathered file g before after result other made.no_memory = stays before
    by_gathered file g before after result other (made.accepted i last answer accepted w) =
        by_stubs (map (stub_of g i (options_of c file)) (stub_files c file)) before last answer (others_of g i (options_of c file) (stub_files c file) other) w

    by_file : (file : List ℕ) (before after : FilesState) (result : Result (Unit {0}) Ending) → NotOf file → MakesFile c file before after result → Stays name before after
    by_file file before after result other (made.ungathered fault kept why) = by_reading before after kept
    by_file file before after result other (made.gathered g read answer kept root m) =
        later before read after (by_reading before read kept) (by_gathered file g read after answer other m)

    by_all : (files : List (List ℕ)) (before after : FilesState) (ending : Ending) → ((file : List ℕ) → Contains files file → NotOf file) → MakesAll c files before after ending → Stays name before after
    by_all files before after ending other (made.all_made same) = stays same
    by_all files before after ending other (made.make_next file rest first middle last e m more) =
        later first middle last (by_file file first middle (Ok tt) (other file (0, omega arith, refl)) m)
        (by_all rest middle last e (λ x there. other x (suc there.0, (let lt = there.1 in omega arith), there.2)) more)
    by_all files before after ending other (made.stopped file rest first last e m) = by_file file first last (Err e) (other file (0, omega arith, refl)) m

-- ---- the law

stays_by : (words : List (List ℕ)) (name : List ℕ) (before after : FilesState) (ending : Ending) → (IsChosen words name → ⊥) → Ends words before after ending → Stays name before after
stays_by words name before after ending free (endings.faulty_words r) = stays name before
stays_by words name before after ending free (endings.helped r) = stays name before
stays_by words name before after ending free endings.no_memory = stays name before
stays_by words name before after ending free (endings.making c last e asked m) =
    by_all name c c.files before last e
    (λ file of_file f of_stub is. free (record { choices = c; asked = asked; file = file; of_file = of_file; stub = f; of_stub = of_stub; named = is })) m

pub others_stay : (words : List (List ℕ)) (before after : FilesState) (ending : Ending) → Ends words before after ending → AreOthersAsBefore words before after
others_stay words before after ending e = λ name free. (stays_by words name before after ending free e).same
