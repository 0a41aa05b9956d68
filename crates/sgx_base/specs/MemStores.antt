-- Files and a sink in memory, of which chosen calls fail.
use Rattle.std.specs.Prelude.{ℕ, ◌==◌, Bool, if◌then◌else◌, nat_le, List, [], ◌∷◌, ◌++◌, length, find, Option, Some, None, option_map, Result, Ok, Err}
use Rattle.std.specs.List.{list_any}
use Rattle.std.specs.Str.{bytes_eq}
use Rattle.sgx_base.specs.Counts.{raised}
use Rattle.sgx_base.specs.Stores.{Store, FilesState, max_file_size}
use Rattle.sgx_base.specs.declared.files.FileFault.{FileFault}
use Rattle.sgx_base.specs.declared.files.FileFault.TheVariants.{Failed}
use Rattle.sgx_base.specs.declared.mem_files.StoredFile.{StoredFile}

-- the bytes of the file of this name
abbrev pub stored : List StoredFile → Store
stored files name = option_map (λ file. file.bytes) (find (λ file. bytes_eq file.name name) files)

-- the files with one written: in the place of the one of its name, or at the end
abbrev pub with_file : StoredFile → List StoredFile → List StoredFile
with_file file [] = file ∷ []
with_file file (first ∷ files) = if bytes_eq first.name file.name then file ∷ files else first ∷ with_file file files

-- files in memory: the numbers of the calls that fail, the calls so far, and the counts
pub record MemStore : Type 0 where
  pub files : List StoredFile
  pub failing : List ℕ
  pub calls : ℕ
  pub read_faults : ℕ
  pub write_faults : ℕ
  pub misses : ℕ

-- no files, of which these calls fail
abbrev pub empty_store : List ℕ → MemStore
empty_store failing =
    record { files = []; failing = failing; calls = 0; read_faults = 0; write_faults = 0; misses = 0 }

-- the store with a file of this name written
abbrev pub with_bytes : List ℕ → List ℕ → MemStore → MemStore
with_bytes name bytes store = record store { files = with_file (record { name = name; bytes = bytes }) store.files }

-- the store after one call more
abbrev pub called : MemStore → MemStore
called store = record store { calls = raised store.calls }

-- the store after one call more, a write that failed
abbrev pub after_failed_write : MemStore → MemStore
after_failed_write store = record (called store) { write_faults = raised store.write_faults }

-- what such files show of themselves
abbrev pub state_of : MemStore → FilesState
state_of store = record {
  contents = Some (stored store.files);
  read_faults = store.read_faults;
  write_faults = store.write_faults;
  misses = store.misses;
}

-- a sink in memory: its bytes, the numbers of the calls that fail, the calls so far, and the count
pub record MemText : Type 0 where
  pub written : List ℕ
  pub failing : List ℕ
  pub calls : ℕ
  pub faults : ℕ

-- whether the call after so many others is one of those that fail
abbrev pub is_failing : List ℕ → ℕ → Bool
is_failing failing calls = list_any (λ number. number == raised calls) failing

-- what a read finds: a file of more bytes than may be read fails
abbrev pub found_answer : Option (List ℕ) → Result (Option (List ℕ)) FileFault
found_answer None = Ok None
found_answer (Some bytes) = if nat_le (length bytes) max_file_size then Ok (Some bytes) else Err Failed

-- what the next read of this name gives where memory lasts
abbrev pub read_answer : List ℕ → MemStore → Result (Option (List ℕ)) FileFault
read_answer name store =
    if is_failing store.failing store.calls then Err Failed else found_answer (stored store.files name)

-- the store after a read that this is the answer of
abbrev pub after_answer : Result (Option (List ℕ)) FileFault → MemStore → MemStore
after_answer (Ok (Some bytes)) store = called store
after_answer (Ok None) store = record (called store) { misses = raised store.misses }
after_answer (Err fault) store = record (called store) { read_faults = raised store.read_faults }

-- no text, in a sink of which these calls fail
abbrev pub empty_text : List ℕ → MemText
empty_text failing = record { written = []; failing = failing; calls = 0; faults = 0 }

-- the text after one call more, with this at its end
abbrev pub with_piece : MemText → List ℕ → MemText
with_piece text piece = record text { written = text.written ++ piece; calls = raised text.calls }

-- the text after one call more, which failed
abbrev pub after_failed_piece : MemText → MemText
after_failed_piece text = record text { calls = raised text.calls; faults = raised text.faults }
