-- What a program did, against what it must do.
use Rattle.std.specs.Prelude.{ℕ, Bool, false, ◌&&◌, nat_eq, Option, Some, None, string_bytes, List}
use Rattle.std.specs.List.{list_all}
use Rattle.std.specs.Str.{bytes_eq}
use Rattle.sgx_base.specs.MemStores.{MemStore, stored}
use Rattle.case_files.specs.declared.trials.NamedFile.{NamedFile}
use Rattle.case_files.specs.declared.trials.Trial.{Trial}

-- whether these are the bytes, where there are any
abbrev pub are_bytes : List ℕ → Option (List ℕ) → Bool
are_bytes bytes None = false
are_bytes bytes (Some found) = bytes_eq found bytes

-- whether the store holds a file, with just its bytes
abbrev pub is_held : MemStore → NamedFile → Bool
is_held store file = are_bytes file.bytes.items (stored store.files (string_bytes file.name))

-- whether a program that gave this status did what it must: the status, the bytes in the sink and the files in the
-- store are those wanted
abbrev pub is_met : Trial → ℕ → Bool
is_met trial status =
    nat_eq status trial.status
    && (bytes_eq trial.sink.written trial.written.items && list_all (is_held trial.files) trial.held.items)
