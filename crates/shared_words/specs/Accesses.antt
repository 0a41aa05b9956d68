-- Accesses as requests of steps.
use Rattle.std.specs.Prelude.{ℕ, ◌<◌}
use Rattle.word_port.specs.declared.Side.{Side}
use Rattle.word_port.specs.Requests.{Request, load_of, swap_of, add_of, cas_of}
use Rattle.shared_words.specs.declared.accesses.Access.{Access}
use Rattle.shared_words.specs.declared.accesses.Access.TheVariants.{Load, Swap, Add, Cas}

-- the step that is asked for
abbrev pub request_of : Side → ℕ → Access → Request
request_of side index Load = load_of side index
request_of side index (Swap value) = swap_of side index value
request_of side index (Add by) = add_of side index by
request_of side index (Cas old new) = cas_of side index old new

-- what may be done to a host byte: a load, or a swap of a byte
abbrev pub IsByteAccess : Access → Type 0
IsByteAccess Load = Unit {0}
IsByteAccess (Swap value) = value < 256
IsByteAccess (Add by) = ⊥
IsByteAccess (Cas old new) = ⊥
