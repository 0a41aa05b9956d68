-- The texts of a sample, which are no files.
use Rattle.std.specs.Prelude.{ℕ, if◌then◌else◌, Some, None, List, codes}
use Rattle.std.specs.Str.{bytes_eq}
use Rattle.sgx_base.specs.Stores.{Store}

-- their names
abbrev pub edl_name : List ℕ
edl_name = codes "a.edl"

abbrev pub script_name : List ℕ
script_name = codes "s.txt"

-- an EDL file of one function, with a buffer and its length
abbrev pub edl_text : List ℕ
edl_text = codes "enclave { trusted { public uint64_t f([in, size=len] const uint8_t* buf, size_t len); }; };"

-- the EDL text and this script under their names, and no other file
abbrev pub texts : List ℕ → Store
texts script name =
    if bytes_eq name edl_name then Some edl_text else (if bytes_eq name script_name then Some script else None)
