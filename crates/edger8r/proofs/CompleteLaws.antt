-- Where all is well, all stubs are made unless memory runs out.
use Rattle.std.proofs.Common.{ℕ, ◌≡◌, ◌≤◌, ◌⊎◌, inl, inr, List, Option, Some, None, is_some, Result, Ok, Err, refl, sym, ap, ◌∙◌, subst, arith, true, false}
use Rattle.std.specs.Prelude.{IfSome}
use Rattle.sgx_base.specs.Counts.{Rose}
use Rattle.sgx_base.specs.Outcome.{OrMemory}
use Rattle.sgx_base.specs.Stores.{Store, FilesState, AreOnlyRead, IsWritten, IsOnlyWritten, ReadFailed, WriteFailed}
use Rattle.sgx_base.specs.declared.Fault.{Fault}
use Rattle.sgx_base.specs.declared.files.FileFault.{FileFault}
use Rattle.sgx_base.specs.declared.files.FileFault.TheVariants as write
use Rattle.edl_grammar.specs.declared.Gathered.{Gathered}
use Rattle.edl_imports.specs.declared.faults.ImportFault.{ImportFault}
use Rattle.edl_interface.specs.declared.Interface.{Interface}
use Rattle.edl_reader.specs.declared.faults.SourceFault.{SourceFault}
use Rattle.edl_reader.specs.declared.faults.SourceFault.TheVariants as source
use Rattle.edl_reader.specs.Accepted.{IsAccepted, IsRefused}
use Rattle.edl_reader.specs.Sources.{IsRoot, IsNoRoot, GivesRoot, IsUngathered}
use Rattle.tool_words.specs.declared.Choices.{Choices}
use Rattle.edger8r.specs.declared.ending.Ending.{Ending}
use Rattle.edger8r.specs.declared.ending.Ending.TheVariants.{Made, Memory}
use Rattle.edger8r.specs.Made.{Stub, stubs_of, lenient_types, of_source, of_write, Writes, MakesOf, MakesFile, MakesAll}
use Rattle.edger8r.specs.Made as made
use Rattle.edger8r.specs.Answers.{AreStored, AreFaultless}

-- ---- counts, which never fall

record Grow (before after : FilesState) : Type 0 where
  reads : before.read_faults ≤ after.read_faults
  writes : before.write_faults ≤ after.write_faults

grow : (files : FilesState) → Grow files files
grow files = record { reads = omega arith; writes = omega arith }

grow_later : (before middle after : FilesState) → Grow before middle → Grow middle after → Grow before after
grow_later before middle after p q =
    let a = p.reads in let b = q.reads in let c = p.writes in let d = q.writes in
    record { reads = omega arith; writes = omega arith }

by_reading : (before after : FilesState) → AreOnlyRead before after → Grow before after
by_reading before after kept = let same = kept.write_faults in record { reads = kept.read_faults; writes = omega arith }

by_writing : (name : List ℕ) (before after : FilesState) → IsOnlyWritten name before after → Grow before after
by_writing name before after only = let same = only.read_faults in record { reads = omega arith; writes = only.write_faults }

by_stubs : (stubs : List Stub) (before after : FilesState) (result : Result (Unit {0}) FileFault) → Writes stubs before after result → Grow before after
by_stubs stubs before after result (made.all_written files) = grow files
by_stubs stubs before after result (made.write_next stub rest first middle last answer only is quiet more) =
    grow_later first middle last (by_writing stub.name first middle only) (by_stubs rest middle last answer more)
by_stubs stubs before after result (made.refused stub rest first last fault only is) = by_writing stub.name first last only
by_stubs stubs before after result (made.out_of_memory rest files) = grow files

rose_later : (a b c : ℕ) → a ≤ b → Rose b c → Rose a c
rose_later a b c le (inl h) = inl (omega arith)
rose_later a b c le (inr h) = inr h

-- ---- stores that are told

-- what holds of both contents, where those before are told
told : (P : Store → Store → Type 0) (a b : Option Store) (store : Store) → a ≡ Some store → is_some b ≡ is_some a → IfSome a (λ old. IfSome b (P old))
    → (later : Store) × (b ≡ Some later) × P store later
told P a b store e same h = by b (same ∙ ap is_some e) (subst (λ (o : Option Store). IfSome o (λ old. IfSome b (P old))) e h)
  where
    by : (o : Option Store) → is_some o ≡ true → IfSome o (P store) → (later : Store) × (o ≡ Some later) × P store later
    by (Some later) s p = (later, refl, p)
    by None s p = absurd cc

-- what the contents have
here : (P : Store → Type 0) (contents : Option Store) (store : Store) → contents ≡ Some store → IfSome contents P → P store
here P contents store e h = subst (λ (o : Option Store). IfSome o P) e h

-- ---- the writing

abbrev is_ok : {E : Type 0} → Result (Unit {0}) E → Type 0
is_ok (Ok done) = Unit {0}
is_ok (Err e) = ⊥

are_stored : (stubs : List Stub) (before after : FilesState) (result : Result (Unit {0}) FileFault) (store : Store) → Writes stubs before after result → before.contents ≡ Some store → is_ok result
    → (later : Store) × (after.contents ≡ Some later) × AreStored stubs store later
are_stored stubs before after result store (made.all_written files) e ok = (store, e, refl)
are_stored stubs before after result store (made.write_next stub rest first middle last answer only is quiet more) e ok =
    let (m, t, w) = told (IsWritten stub.name stub.text) first.contents middle.contents store e only.told is in
    let (later, u, s) = are_stored rest middle last answer m more t ok in
    (later, u, (m, w, s))
are_stored stubs before after result store (made.refused stub rest first last fault only is) e ok = absurd ok
are_stored stubs before after result store (made.out_of_memory rest files) e ok = absurd ok

-- a write failed
abbrev has_failed : Result (Unit {0}) FileFault → Type 0
has_failed (Err write.Failed) = Unit {0}
has_failed _ = ⊥

write_failed : (stubs : List Stub) (before after : FilesState) (result : Result (Unit {0}) FileFault) → Writes stubs before after result → has_failed result → WriteFailed before after
write_failed stubs before after result (made.all_written files) h = absurd h
write_failed stubs before after result (made.write_next stub rest first middle last answer only is quiet more) h =
    rose_later first.write_faults middle.write_faults last.write_faults only.write_faults (write_failed rest middle last answer more h)
write_failed stubs before after result (made.refused stub rest first last write.Failed only is) h = is
write_failed stubs before after result (made.refused stub rest first last write.Memory only is) h = absurd h
write_failed stubs before after result (made.out_of_memory rest files) h = absurd h

-- ---- EDL files

-- it went well, and then this holds, or memory ran out
abbrev Well : Type 0 → Result (Unit {0}) Ending → Type 0
Well P (Ok done) = P
Well P (Err e) = e ≡ Memory

module _ (c : Choices) (file : List ℕ) where
  abbrev Stored : Gathered → Store → FilesState → Type 0
  Stored g store after = (i : Interface) × (later : Store) × IsAccepted g lenient_types false i × (after.contents ≡ Some later) × AreStored (stubs_of c file g i) store later

  of_gathered : (g : Gathered) (before after : FilesState) (result : Result (Unit {0}) Ending) (store : Store) → MakesOf c file g before after result → before.contents ≡ Some store
      → ((f : Fault) → ¬ IsRefused g lenient_types false f) → ¬ WriteFailed before after → Well (Stored g store after) result
  of_gathered g before after result store (made.at_fault f refused) e clean none = absurd (clean f refused)
  of_gathered g before after result store made.no_memory e clean none = refl
  of_gathered g before after result store (made.accepted i last (Ok done) accepted w) e clean none =
      let (later, t, s) = are_stored (stubs_of c file g i) before last (Ok done) store w e tt in
      (i, later, accepted, t, s)
  of_gathered g before after result store (made.accepted i last (Err write.Failed) accepted w) e clean none =
      absurd (none (write_failed (stubs_of c file g i) before last (Err write.Failed) w tt))
  of_gathered g before after result store (made.accepted i last (Err write.Memory) accepted w) e clean none = refl

  abbrev of_ok : Gathered → Result Gathered ImportFault → Gathered
  of_ok d (Ok g) = g
  of_ok d (Err e) = d

  module _ (rest : List (List ℕ)) (store : Store) (g : Gathered) (root : IsRoot store c.search_path file g) where
    not_ungathered : (before after : FilesState) (fault : SourceFault) → before.contents ≡ Some store → ¬ ReadFailed before after
        → OrMemory source.Memory (IsUngathered c.search_path file before after) fault → of_source fault ≡ Memory
    not_ungathered before after fault e none (inl m) = ap of_source m
    not_ungathered before after fault e none (inr h) = by fault h
      where
        clash : (told : SourceFault) → IsNoRoot store c.search_path file told → ⊥
        clash told n = let both : Ok g ≡ Err n.fault = sym root ∙ n.gathered in absurd cc

        given : (told : SourceFault) → IfSome before.contents (λ s. IsNoRoot s c.search_path file told) → ⊥
        given told h = clash told (here (λ s. IsNoRoot s c.search_path file told) before.contents store e h)

        by : (fault : SourceFault) → IsUngathered c.search_path file before after fault → of_source fault ≡ Memory
        by (source.Edl name f) u = absurd (given (source.Edl name f) u.1)
        by (source.NotFound name) u = absurd (given (source.NotFound name) u.2)
        by (source.ReadFault name) u = absurd (none u.0)
        by source.Memory u = absurd u

    same_root : (files : FilesState) (other : Gathered) → files.contents ≡ Some store → GivesRoot files c.search_path file other → other ≡ g
    same_root files other e r =
        let is = here (λ s. IsRoot s c.search_path file other) files.contents store e r.told in
        ap (of_ok g) (sym is ∙ root)

    of_file : (before after : FilesState) (result : Result (Unit {0}) Ending) → MakesFile c file before after result → before.contents ≡ Some store
        → ((f : Fault) → ¬ IsRefused g lenient_types false f) → ¬ ReadFailed before after → ¬ WriteFailed before after → Well (Stored g store after) result
    of_file before after result (made.ungathered fault kept why) e clean no_read no_write = not_ungathered before after fault e no_read why
    of_file before after result (made.gathered other read answer kept r m) e clean no_read no_write =
        of_gathered g read after answer store (subst (λ (x : Gathered). MakesOf c file x read after answer) (same_root before other e r) m) (kept.contents ∙ e) clean
        (λ failed. no_write (let same = kept.write_faults in rose_later before.write_faults read.write_faults after.write_faults (omega arith) failed))

-- ---- all of them

of_made : (c : Choices) (file : List ℕ) (g : Gathered) (before after : FilesState) (result : Result (Unit {0}) Ending) → MakesOf c file g before after result → Grow before after
of_made c file g before after result (made.at_fault f refused) = grow before
of_made c file g before after result made.no_memory = grow before
of_made c file g before after result (made.accepted i last answer accepted w) = by_stubs (stubs_of c file g i) before last answer w

grow_by_file : (c : Choices) (file : List ℕ) (before after : FilesState) (result : Result (Unit {0}) Ending) → MakesFile c file before after result → Grow before after
grow_by_file c file before after result (made.ungathered fault kept why) = by_reading before after kept
grow_by_file c file before after result (made.gathered g read answer kept r m) =
    grow_later before read after (by_reading before read kept) (of_made c file g read after answer m)

grow_by_all : (c : Choices) (files : List (List ℕ)) (before after : FilesState) (ending : Ending) → MakesAll c files before after ending → Grow before after
grow_by_all c files before after ending (made.all_made same) = grow same
grow_by_all c files before after ending (made.make_next file rest first middle last e m more) =
    grow_later first middle last (grow_by_file c file first middle (Ok tt) m) (grow_by_all c rest middle last e more)
grow_by_all c files before after ending (made.stopped file rest first last e m) = grow_by_file c file first last (Err e) m

-- a count that rose to the middle rose to the end
rose_earlier : (a b c : ℕ) → a ≤ b → b ≤ c → Rose a b → Rose a c
rose_earlier a b c l m (inl h) = inl (omega arith)
rose_earlier a b c l m (inr h) = grind arith

pub all_well : (c : Choices) (files : List (List ℕ)) (before after : FilesState) (ending : Ending) (store : Store) → MakesAll c files before after ending → before.contents ≡ Some store → AreFaultless c files store
    → ¬ ReadFailed before after → ¬ WriteFailed before after → (ending ≡ Made) ⊎ (ending ≡ Memory)
all_well c files before after ending store (made.all_made same) e clean no_read no_write = inl refl
all_well c files before after ending store (made.make_next file rest first middle last answer m more) e clean no_read no_write =
    let p = grow_by_file c file first middle (Ok tt) m in
    let q = grow_by_all c rest middle last answer more in
    let (i, later, accepted, t, stored) =
    of_file c file rest store clean.0 clean.1 first middle (Ok tt) m e clean.2
    (λ failed. no_read (rose_earlier first.read_faults middle.read_faults last.read_faults p.reads q.reads failed))
    (λ failed. no_write (rose_earlier first.write_faults middle.write_faults last.write_faults p.writes q.writes failed)) in
    all_well c rest middle last answer later more t (clean.3 i later accepted stored)
    (λ failed. no_read (rose_later first.read_faults middle.read_faults last.read_faults p.reads failed))
    (λ failed. no_write (rose_later first.write_faults middle.write_faults last.write_faults p.writes failed))
all_well c files before after ending store (made.stopped file rest first last answer m) e clean no_read no_write =
    inr (of_file c file rest store clean.0 clean.1 first last (Err answer) m e clean.2 no_read no_write)
