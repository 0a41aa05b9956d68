use Rattle.std.proofs.Common.{◌≡◌, map, take}
use Rattle.bridge_program.specs.Tables.{ecall_bridge, ocall_bridge}
use Rattle.bridge_program.proofs.compiled.compile.Given as goal

-- the ECALLs so far
abbrev pub invariant-loop-function : goal.invariant-loop-function
invariant-loop-function l = l.ecalls ≡ map ecall_bridge (take l.function-index l.function-items)

-- the OCALLs so far
abbrev pub invariant-loop-function-2 : goal.invariant-loop-function-2
invariant-loop-function-2 l = l.ocalls ≡ map ocall_bridge (take l.function-index l.function-items)
