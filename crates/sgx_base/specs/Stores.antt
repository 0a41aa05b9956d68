-- Files by their names, and what a read or a write of one does.
use Rattle.std.specs.Prelude.{ℕ, ◌≡◌, ◌≢◌, ◌≤◌, List, Option, Some, None, is_some, IfSome, Result, Ok, Err, vec_len}
use Rattle.std.specs.Global.{Vec}
use Rattle.sgx_base.specs.Counts.{Rose}
use Rattle.sgx_base.specs.declared.files.FileFault.{FileFault}
use Rattle.sgx_base.specs.declared.files.FileFault.TheVariants.{Failed, Memory}

-- the bytes of each file, none where there is no file of that name
abbrev pub Store : Type 0
Store = List ℕ → Option (List ℕ)

-- no file other than this one changes
abbrev pub AreOthersKept : List ℕ → Store → Store → Type 0
AreOthersKept name before after = (other : List ℕ) → other ≢ name → after other ≡ before other

-- the file has these bytes, and no other file changes
pub record IsWritten (name bytes : List ℕ) (before after : Store) : Type 0 where
  pub here : after name ≡ Some bytes
  pub others : AreOthersKept name before after

-- the most bytes that a file that is read may have
abbrev pub max_file_size : ℕ
max_file_size = 134217728

-- what files show of themselves: their contents, where they tell them, and the counts of reads that failed, of writes
-- that failed and of names that were missed
pub record FilesState : Type 0 where
  pub contents : Option Store
  pub read_faults : ℕ
  pub write_faults : ℕ
  pub misses : ℕ

-- files that tell no contents, with these counts
abbrev pub untold : ℕ → ℕ → ℕ → FilesState
untold read_faults write_faults misses =
    record { contents = None; read_faults = read_faults; write_faults = write_faults; misses = misses }

-- where the contents are told, the name has this
abbrev pub Holds : FilesState → List ℕ → Option (List ℕ) → Type 0
Holds files name file = IfSome files.contents (λ store. store name ≡ file)

-- where the contents are told before and after, they are so
abbrev pub AreBoth : (Store → Store → Type 0) → FilesState → FilesState → Type 0
AreBoth Are before after = IfSome before.contents (λ old. IfSome after.contents (Are old))

-- the count of failed reads rose
abbrev pub ReadFailed : FilesState → FilesState → Type 0
ReadFailed before after = Rose before.read_faults after.read_faults

-- the count of failed writes rose
abbrev pub WriteFailed : FilesState → FilesState → Type 0
WriteFailed before after = Rose before.write_faults after.write_faults

-- the count of missed names rose
abbrev pub Missed : FilesState → FilesState → Type 0
Missed before after = Rose before.misses after.misses

-- the files were read at most: the contents stay, no write failed, and no count fell
pub record AreOnlyRead (before after : FilesState) : Type 0 where
  pub contents : after.contents ≡ before.contents
  pub write_faults : after.write_faults ≡ before.write_faults
  pub read_faults : before.read_faults ≤ after.read_faults
  pub misses : before.misses ≤ after.misses

-- what the answer to a read of this name tells: its bytes, that no file has the name, that the read failed, or nothing,
-- as memory ran out
abbrev pub IsReadOf : List ℕ → Result (Option (Vec ℕ)) FileFault → FilesState → FilesState → Type 0
IsReadOf name (Ok (Some bytes)) before after = Holds before name (Some bytes.items) × (vec_len bytes ≤ max_file_size)
IsReadOf name (Ok None) before after = Holds before name None × Missed before after
IsReadOf name (Err Failed) before after = ReadFailed before after
IsReadOf name (Err Memory) before after = Unit {0}

-- this file was written at most: the others stay, no read failed, no name was missed, and the count of failed writes
-- did not fall
pub record IsOnlyWritten (name : List ℕ) (before after : FilesState) : Type 0 where
  pub told : is_some after.contents ≡ is_some before.contents
  pub others : AreBoth (AreOthersKept name) before after
  pub read_faults : after.read_faults ≡ before.read_faults
  pub misses : after.misses ≡ before.misses
  pub write_faults : before.write_faults ≤ after.write_faults

-- what the answer to a write of this file tells: that it has these bytes, that the write failed, or nothing
abbrev pub IsWriteOf : List ℕ → List ℕ → Result (Unit {0}) FileFault → FilesState → FilesState → Type 0
IsWriteOf name bytes (Ok done) before after = AreBoth (IsWritten name bytes) before after
IsWriteOf name bytes (Err Failed) before after = WriteFailed before after
IsWriteOf name bytes (Err Memory) before after = Unit {0}
