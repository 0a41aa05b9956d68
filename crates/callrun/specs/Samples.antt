-- What a sample runs: one script of many calls on one EDL text, which are no files.
use Rattle.std.specs.Prelude.{ℕ, if◌then◌else◌, Some, None, List, codes}
use Rattle.std.specs.Str.{bytes_eq}
use Rattle.sgx_base.specs.Stores.{Store, FilesState}
use Rattle.sample_script.specs.Sample.{sample}

-- the names of its two texts
abbrev pub edl_name : List ℕ
edl_name = codes "a.edl"

abbrev pub script_name : List ℕ
script_name = codes "s.txt"

-- an EDL file of one function, with a buffer and its length
abbrev pub edl_text : List ℕ
edl_text = codes "enclave { trusted { public uint64_t f([in, size=len] const uint8_t* buf, size_t len); }; };"

-- the EDL text and this script under their names, and no other file
abbrev pub texts : List ℕ → Store
texts script name =
    if bytes_eq name edl_name then Some edl_text else (if bytes_eq name script_name then Some script else None)

-- what these texts show of themselves: no read of them fails
abbrev pub texts_state : List ℕ → ℕ → ℕ → FilesState
texts_state script write_faults misses =
    record { contents = Some (texts script); read_faults = 0; write_faults = write_faults; misses = misses }

-- the texts of a sample of so many calls, before they are read
abbrev pub sample_files : ℕ → FilesState
sample_files calls = texts_state (sample calls) 0 0
