use Rattle.std.proofs.Common.{◌≡◌, ◌++◌, take}
use Rattle.bridge_program.specs.Lists.{each_from}
use Rattle.bridge_program.specs.Passes.{instructions_of}
use Rattle.bridge_program.proofs.passes.push_each.Given as goal

-- what is done for the parameters so far
abbrev pub invariant-loop-place : goal.invariant-loop-place
invariant-loop-place l = l.list ≡ l.fn.list ++ each_from 0 (instructions_of l.pass) (take l.place l.param-items)
