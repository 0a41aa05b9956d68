use Rattle.std.proofs.Common.{arith}
use Rattle.std.proofs.lemmas.Grind.{common_steps}
use Rattle.bridge_program.proofs.Depths.{calls-reverse}
use Rattle.bridge_program.proofs.call_stack.CallStack.depth.Goals as goal

pub returns : goal.returns
returns c = rw (← c.self.view_is, calls-reverse) (grind (arith, common_steps))
