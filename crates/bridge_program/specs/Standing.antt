-- Where a participant stands by its call stack, whose latest entry is first: in the host, or in the enclave.
use Rattle.std.specs.Prelude.{ℕ, ◌≡◌, List, [], ◌∷◌, Option, None, IsSome}
use Rattle.bridge_program.specs.Entry.{Entered}

-- the OCALL in progress on the latest entry
abbrev pub current_ocall : List Entered → Option ℕ
current_ocall [] = None
current_ocall (e ∷ stack) = e.ocall

-- there is an entry, and an OCALL is in progress on the latest one
abbrev pub HasOcall : List Entered → Type 0
HasOcall [] = ⊥
HasOcall (e ∷ stack) = IsSome e.ocall

-- there is an entry, and no OCALL is in progress on the latest one
abbrev pub IsInEnclave : List Entered → Type 0
IsInEnclave [] = ⊥
IsInEnclave (e ∷ stack) = e.ocall ≡ None

-- there is no entry, or an OCALL is in progress on the latest one
abbrev pub IsInHost : List Entered → Type 0
IsInHost [] = Unit {0}
IsInHost (e ∷ stack) = IsSome e.ocall

-- the stack with another OCALL, or none, on its latest entry
abbrev pub with_ocall : Option ℕ → List Entered → List Entered
with_ocall ocall [] = []
with_ocall ocall (e ∷ stack) = record e { ocall = ocall } ∷ stack
