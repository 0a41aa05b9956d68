use Rattle.std.proofs.Common.{refl, Some, None}
use Rattle.enclave_memory.specs.Arguments.{by_number, by_place}
use Rattle.runtime_tables.proofs.frames.arg_of.Goals as goal

pub returns-in-Number : goal.returns-in-Number
returns-in-Number c = λ arena first second. (by_number c.in-Number.number, refl)

pub returns-in-Null : goal.returns-in-Null
returns-in-Null c = λ arena first second. (by_place None, tt)

pub returns-in-First : goal.returns-in-First
returns-in-First c = λ arena (number, bytes, is) second. (by_place (Some number), (bytes, is))

pub returns-in-Second : goal.returns-in-Second
returns-in-Second c = λ arena first (number, bytes, is). (by_place (Some number), (bytes, is))
