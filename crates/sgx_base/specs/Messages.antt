-- The texts of faults, by their codes.
use Rattle.std.specs.Prelude.{ℕ, zero, suc, List, [], ◌∷◌, slice_get, unwrap_or, codes}

-- the faults of EDL files, E1 to E40
abbrev pub edl_messages : List (List ℕ)
edl_messages =
    codes "byte not allowed"
    ∷ codes "comment not closed"
    ∷ codes "text not closed"
    ∷ codes "number too wide"
    ∷ codes "too many tokens"
    ∷ codes "unexpected token or end"
    ∷ codes "declaration too deep"
    ∷ codes "import cycle"
    ∷ codes "no such function"
    ∷ codes "name declared in two files"
    ∷ codes "too many files"
    ∷ codes "unknown type"
    ∷ codes "type holds itself"
    ∷ codes "type or frame too large"
    ∷ codes "pointer needs a direction or user_check"
    ∷ codes "direction with user_check"
    ∷ codes "size or count with a string"
    ∷ codes "string with wstring"
    ∷ codes "string needs in"
    ∷ codes "pointer attribute on a plain value"
    ∷ codes "unknown attribute"
    ∷ codes "attribute given twice"
    ∷ codes "sizefunc is not supported"
    ∷ codes "size or count on an array"
    ∷ codes "unknown parameter"
    ∷ codes "parameter is not an integer"
    ∷ codes "void pointer needs size"
    ∷ codes "string on another type"
    ∷ codes "array without a length"
    ∷ codes "array of pointers"
    ∷ codes "name given twice"
    ∷ codes "unknown function in allow"
    ∷ codes "no public ECALL"
    ∷ codes "switchless ECALL must be public"
    ∷ codes "allow on a switchless OCALL"
    ∷ codes "readonly needs isptr"
    ∷ codes "isptr or isary on a type that is not foreign"
    ∷ codes "the runner does not take this"
    ∷ codes "too many parameters"
    ∷ codes "too many functions"
    ∷ []

abbrev pub edl_message : ℕ → List ℕ
edl_message zero = []
edl_message (suc n) = unwrap_or (slice_get edl_messages n) []

-- the faults of scripts, S1 to S20
abbrev pub script_messages : List (List ℕ)
script_messages =
    codes "line not understood"
    ∷ codes "number out of range"
    ∷ codes "setting given twice"
    ∷ codes "address outside host memory"
    ∷ codes "unknown function"
    ∷ codes "wrong arguments"
    ∷ codes "value does not fit"
    ∷ codes "unknown name in body"
    ∷ codes "skip past the end"
    ∷ codes "no such cell"
    ∷ codes "given twice"
    ∷ codes "block not closed or not begun"
    ∷ codes "races out of order"
    ∷ codes "not for this program"
    ∷ codes "call in a switchless handler"
    ∷ codes "too many"
    ∷ codes "stacks do not fit"
    ∷ codes "bad hex"
    ∷ codes "only with a frame"
    ∷ codes "setting too late"
    ∷ []

abbrev pub script_message : ℕ → List ℕ
script_message zero = []
script_message (suc n) = unwrap_or (slice_get script_messages n) []
