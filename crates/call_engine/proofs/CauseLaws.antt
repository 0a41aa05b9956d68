-- How the causes at which the preparing ends are told.
use Rattle.std.proofs.Common.{ℕ, ◌≡◌, ◌⊎◌, inl, inr, Bool, true, false, List, Option, Some, None, IfSome, IfOk, IfErr, Result, Ok, Err, sym, ap, subst, arith, ◌≤◌}
use Rattle.sgx_base.specs.Counts.{Rose}
use Rattle.sgx_base.specs.Outcome.{OrMemory}
use Rattle.sgx_base.specs.Stores.{Store, FilesState, Holds, AreOnlyRead}
use Rattle.sgx_base.specs.declared.Fault.{Fault}
use Rattle.edl_grammar.specs.declared.Gathered.{Gathered}
use Rattle.edl_grammar.specs.declared.SourceFile.{SourceFile}
use Rattle.edl_layout.specs.declared.ForeignTypes.{ForeignTypes}
use Rattle.edl_imports.specs.Gathering.{name_at}
use Rattle.edl_interface.specs.declared.Interface.{Interface}
use Rattle.attr_rules.specs.ForRun.{AreForRun}
use Rattle.edl_reader.specs.declared.faults.SourceFault.{SourceFault}
use Rattle.edl_reader.specs.declared.faults.SourceFault.TheVariants as source
use Rattle.edl_reader.specs.Accepted.{IsAccepted, IsRefused}
use Rattle.edl_reader.specs.Sources.{IsRoot, IsNoRoot, GivesRoot, GivesNoRoot, AreParsed, IsUngathered}
use Rattle.edl_reader.specs.Sources as sources
use Rattle.script_reader.specs.Foreign.{foreign_types}
use Rattle.call_machine.specs.declared.Machine.{Machine}
use Rattle.call_engine.specs.declared.faults.PrepareFault.{PrepareFault}
use Rattle.call_engine.specs.declared.faults.PrepareFault.TheVariants.{Edl, Script as of_line, NotFound, ReadFault, Memory}
use Rattle.call_engine.specs.Told.{of_source, IsEdlFault, IsFaultOf}
use Rattle.call_engine.specs.Interfaces.{AreKnown}
use Rattle.call_engine.specs.Plain.{plain_script}
use Rattle.call_engine.specs.Prepared.{Prepares, ungathered, no_script, without_interface, faulty, machine, IsInterface, in_types, in_script, IsMachineOf, IsMachineFault, FilesGive, IsUnprepared, IsUnread}

-- where the contents are told, one fact follows from two others
both : {P Q R : Store → Type 0} (contents : Option Store) → ((store : Store) → P store → Q store → R store) → IfSome contents P → IfSome contents Q → IfSome contents R
both None step p q = tt
both (Some store) step p q = step store p q

one : {P R : Store → Type 0} (contents : Option Store) → ((store : Store) → P store → R store) → IfSome contents P → IfSome contents R
one None step p = tt
one (Some store) step p = step store p

rose_later : (a b c : ℕ) → a ≤ b → Rose b c → Rose a c
rose_later a b c le (inl h) = inl (omega arith)
rose_later a b c le (inr h) = inr h

-- what follows from the fault, also where memory may have run out
or_memory : {M P Q : Type 0} → (P → Q) → M ⊎ P → M ⊎ Q
or_memory step (inl m) = inl m
or_memory step (inr h) = inr (step h)

-- ---- the interface

pub for_run : (g : Gathered) (foreign : ForeignTypes) → AreParsed g → AreKnown foreign → AreForRun g foreign
for_run g foreign parsed known =
    record { strict = known.strict; aligned = known.aligned; trees = parsed.trees; names = parsed.names }

-- a fault of gathered files is told
pub edl_told : (files : List SourceFile) (Is : Fault → Type 0) (e : SourceFault)
    → OrMemory source.Memory (sources.IsEdlFault files Is) e → OrMemory Memory (IsEdlFault files Is) (of_source e)
edl_told files Is e (inl m) = inl (ap of_source m)
edl_told files Is e (inr h) = inr (told e h)
  where
    told : (e : SourceFault) → sources.IsEdlFault files Is e → IsEdlFault files Is (of_source e)
    told (source.Edl name f) h = h
    told (source.NotFound name) h = absurd h
    told (source.ReadFault name) h = absurd h
    told source.Memory h = absurd h

edl_weaker : (files : List SourceFile) (P Q : Fault → Type 0) → ((f : Fault) → P f → Q f) → (fault : PrepareFault)
    → IsEdlFault files P fault → IsEdlFault files Q fault
edl_weaker files P Q step (Edl name f) h = (h.0, step f h.1)
edl_weaker files P Q step (of_line line code) h = absurd h
edl_weaker files P Q step (NotFound name) h = absurd h
edl_weaker files P Q step (ReadFault name) h = absurd h
edl_weaker files P Q step Memory h = absurd h

-- ---- the gathering

module _ (racing : Bool) (paths : List (List ℕ)) (edl script : List ℕ) (before after : FilesState) where
  abbrev Tells : PrepareFault → Type 0
  Tells = OrMemory Memory (IsUnprepared racing paths edl script before after)

  given : (e : SourceFault) → GivesNoRoot before paths edl e → FilesGive racing before paths edl script (Err (of_source e))
  given e = one {P = λ store. IsNoRoot store paths edl e} {R = λ store. Prepares racing store paths edl script (Err (of_source e))}
      before.contents (λ store is. ungathered e is)

  by_cause : (e : SourceFault) → IsUngathered paths edl before after e → Tells (of_source e)
  by_cause (source.Edl name f) h = inr (inl h.0, given (source.Edl name f) h.1)
  by_cause (source.NotFound name) h = inr (h.0, inl h.1, given (source.NotFound name) h.2)
  by_cause (source.ReadFault name) h = inr (h.0, inl h.1)
  by_cause source.Memory h = absurd h

  -- the files were not gathered
  pub not_gathered : (e : SourceFault) → OrMemory source.Memory (IsUngathered paths edl before after) e → Tells (of_source e)
  not_gathered e (inl m) = inl (ap of_source m)
  not_gathered e (inr h) = by_cause e h

-- ---- the machine

module _ (racing : Bool) (g : Gathered) (text : List ℕ) where
  types_fault : (fault : PrepareFault) → IsFaultOf (foreign_types text) fault → IsMachineFault racing g text fault
  types_fault (of_line line code) h = in_types h
  types_fault (Edl name f) h = absurd h
  types_fault (NotFound name) h = absurd h
  types_fault (ReadFault name) h = absurd h
  types_fault Memory h = absurd h

  -- a fault of the script's foreign types
  pub misdeclared : (fault : PrepareFault) → OrMemory Memory (IsFaultOf (foreign_types text)) fault
      → OrMemory Memory (IsMachineFault racing g text) fault
  misdeclared fault = or_memory (types_fault fault)

  files_fault : (foreign : ForeignTypes) → foreign_types text ≡ Ok foreign → (fault : PrepareFault)
      → IsEdlFault g.files (IsRefused g foreign true) fault → IsMachineFault racing g text fault
  files_fault foreign declared (Edl name f) h =
      (h.0, record { foreign = foreign; declared = declared; refused = h.1 })
  files_fault foreign declared (of_line line code) h = absurd h
  files_fault foreign declared (NotFound name) h = absurd h
  files_fault foreign declared (ReadFault name) h = absurd h
  files_fault foreign declared Memory h = absurd h

  -- the files have no interface
  pub no_interface : (foreign : ForeignTypes) → foreign_types text ≡ Ok foreign → (result : Result Interface PrepareFault)
      → IfErr result (OrMemory Memory (IsEdlFault g.files (IsRefused g foreign true)))
      → IfErr result (OrMemory Memory (IsMachineFault racing g text))
  no_interface foreign declared (Ok i) h = tt
  no_interface foreign declared (Err fault) h = or_memory (files_fault foreign declared fault) h

  script_fault : (i : Interface) → IsInterface g text i → (fault : PrepareFault)
      → IsFaultOf (plain_script i racing text) fault → IsMachineFault racing g text fault
  script_fault i interface (of_line line code) h = in_script i interface h
  script_fault i interface (Edl name f) h = absurd h
  script_fault i interface (NotFound name) h = absurd h
  script_fault i interface (ReadFault name) h = absurd h
  script_fault i interface Memory h = absurd h

  -- the script breaks a rule
  pub no_plain_script : (i : Interface) → IsInterface g text i → (fault : PrepareFault)
      → OrMemory Memory (IsFaultOf (plain_script i racing text)) fault
      → OrMemory Memory (IsMachineFault racing g text) fault
  no_plain_script i interface fault = or_memory (script_fault i interface fault)

pub an_interface : (g : Gathered) (text : List ℕ) (foreign : ForeignTypes) → foreign_types text ≡ Ok foreign
    → (result : Result Interface PrepareFault) → IfOk result (IsAccepted g foreign true) → IfOk result (IsInterface g text)
an_interface g text foreign declared (Ok i) h = record { foreign = foreign; declared = declared; accepted = h }
an_interface g text foreign declared (Err fault) h = tt

-- ---- the script

module _ (racing : Bool) (paths : List (List ℕ)) (edl script : List ℕ) (g : Gathered) where
  -- what the script holds, told of the contents before
  found_before : (items text : List ℕ) (before middle : FilesState) → AreOnlyRead before middle → text ≡ items → Holds middle script (Some items)
      → Holds before script (Some text)
  found_before items text before middle kept same found =
      subst (λ (t : List ℕ). Holds before script (Some t)) (sym same)
      (subst (λ (c : Option Store). IfSome c (λ store. store script ≡ Some items)) kept.contents found)

  -- the script is not there, or could not be read
  script_unread : (before middle after : FilesState) (fault : PrepareFault) → AreOnlyRead before middle → GivesRoot before paths edl g
      → IsUnread script middle after fault → IsUnprepared racing paths edl script before after fault
  script_unread before middle after (ReadFault name) kept root h =
      (rose_later before.read_faults middle.read_faults after.read_faults kept.read_faults h.1, inr (h.0, g, root))
  script_unread before middle after (NotFound name) kept root h =
      let none : Holds before script None = subst (λ (c : Option Store). IfSome c (λ store. store script ≡ None)) kept.contents h.2 in (
        inl (rose_later before.misses middle.misses after.misses kept.misses h.1),
        inr (h.0, g, root),
        subst (λ (n : List ℕ). FilesGive racing before paths edl script (Err (NotFound n))) (sym h.0)
            (both {P = λ store. IsRoot store paths edl g} {Q = λ store. store script ≡ None} {R = λ store. Prepares racing store paths edl script (Err (NotFound script))} before.contents
            (λ store r n. no_script g r n) root.told none),
      )
  script_unread before middle after (Edl name f) kept root h = absurd h
  script_unread before middle after (of_line line code) kept root h = absurd h
  script_unread before middle after Memory kept root h = absurd h

  pub unread_script : (before middle after : FilesState) (fault : PrepareFault) → AreOnlyRead before middle → GivesRoot before paths edl g
      → OrMemory Memory (IsUnread script middle after) fault → OrMemory Memory (IsUnprepared racing paths edl script before after) fault
  unread_script before middle after fault kept root = or_memory (script_unread before middle after fault kept root)

  -- the files are read, and give this answer
  answered : (text : List ℕ) (files : FilesState) (answer : Result Machine PrepareFault) → GivesRoot files paths edl g
      → Holds files script (Some text)
      → ((store : Store) → IsRoot store paths edl g → store script ≡ Some text → Prepares racing store paths edl script answer)
      → FilesGive racing files paths edl script answer
  answered text files answer root found step =
      both {P = λ store. IsRoot store paths edl g} {Q = λ store. store script ≡ Some text} {R = λ store. Prepares racing store paths edl script answer}
      files.contents step root.told found

  -- the files are read, and give no machine
  none_given : (text : List ℕ) (before after : FilesState) (fault : PrepareFault) → GivesRoot before paths edl g
      → Holds before script (Some text) → IsMachineFault racing g text fault → IsUnprepared racing paths edl script before after fault
  none_given text before after (Edl name f) root found h = (
    inr (record { gathered = g; root = root; text = text; held = found; refused = h.1; named = h.0 }),
    subst (λ (n : List ℕ). FilesGive racing before paths edl script (Err (Edl n f))) (sym h.0)
        (answered text before (Err (Edl (name_at g.files f.file) f)) root found (λ store r t. without_interface g text f r t h.1)),
  )
  none_given text before after (of_line line code) root found h =
      answered text before (Err (of_line line code)) root found (λ store r t. faulty g text line code r t h)
  none_given text before after (ReadFault name) root found h = absurd h
  none_given text before after (NotFound name) root found h = absurd h
  none_given text before after Memory root found h = absurd h

  -- the answer, where the script was read after the EDL file
  pub prepared : (items text : List ℕ) (result : Result Machine PrepareFault) (before middle : FilesState) → AreOnlyRead before middle → text ≡ items
      → GivesRoot before paths edl g → Holds middle script (Some items) → IfOk result (IsMachineOf racing g text)
      → IfOk result (λ m. FilesGive racing before paths edl script (Ok m))
  prepared items text (Ok m) before middle kept same root found h =
      answered text before (Ok m) root (found_before items text before middle kept same found) (λ store r t. machine g text m r t h)
  prepared items text (Err e) before middle kept same root found h = tt

  pub unprepared : (items text : List ℕ) (result : Result Machine PrepareFault) (before middle after : FilesState) → AreOnlyRead before middle → text ≡ items
      → GivesRoot before paths edl g → Holds middle script (Some items) → IfErr result (OrMemory Memory (IsMachineFault racing g text))
      → IfErr result (OrMemory Memory (IsUnprepared racing paths edl script before after))
  unprepared items text (Ok m) before middle after kept same root found h = tt
  unprepared items text (Err e) before middle after kept same root found h =
      or_memory (none_given text before after e root (found_before items text before middle kept same found)) h
