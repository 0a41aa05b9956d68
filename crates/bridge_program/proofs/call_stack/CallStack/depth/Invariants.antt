use Rattle.std.proofs.Common.{◌≡◌, ◌≤◌, ◌*◌, map, take}
use Rattle.bridge_program.specs.Stack.{entered}
use Rattle.bridge_program.specs.Entry.{calls_in_progress}
use Rattle.bridge_program.proofs.call_stack.CallStack.depth.Given as goal

-- the calls of the entries so far
abbrev pub invariant-loop-entry : goal.invariant-loop-entry
invariant-loop-entry l = (l.depth ≡ calls_in_progress (map entered (take l.entry-index l.entry-items))) × (l.depth ≤ 2 * l.entry-index)
