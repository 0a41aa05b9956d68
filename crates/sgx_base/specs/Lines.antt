-- The lines that programs write where there is a fault.
use Rattle.std.specs.Prelude.{ℕ, ◌++◌, List, codes, decimal}
use Rattle.sgx_base.specs.Messages.{edl_message, script_message}
use Rattle.sgx_base.specs.declared.Fault.{Fault}

-- a place, the code of a fault there, and what is wrong
abbrev pub told_at : Fault → List ℕ
told_at fault =
    codes ":" ++ (decimal fault.line ++ (codes ":" ++ (decimal fault.column
    ++ (codes ": error E" ++ (decimal fault.code ++ (codes ": " ++ (edl_message fault.code ++ codes "\n")))))))

-- a fault of the EDL file of this name
abbrev pub edl_line : List ℕ → Fault → List ℕ
edl_line name fault = name ++ told_at fault

-- a line, the code of a fault there, and what is wrong
abbrev pub told_of_line : ℕ → ℕ → List ℕ
told_of_line line code =
    codes ":" ++ (decimal line
    ++ (codes ": script S" ++ (decimal code ++ (codes ": " ++ (script_message code ++ codes "\n")))))

-- a fault of the script of this name
abbrev pub script_line : List ℕ → ℕ → ℕ → List ℕ
script_line name line code = name ++ told_of_line line code

-- the file of this name could not be read
abbrev pub unread_line : List ℕ → List ℕ
unread_line name = codes "read fault: " ++ (name ++ codes "\n")

-- there is no file of this name
abbrev pub missing_line : List ℕ → List ℕ
missing_line name = codes "not found: " ++ (name ++ codes "\n")
