use Rattle.std.proofs.Common.{◌≡◌, ◌++◌, take}
use Rattle.bridge_text.specs.Bridges.{list_text}
use Rattle.bridge_text.proofs.instructions.put_bridge.Given as goal

abbrev pub invariant-loop-instr : goal.invariant-loop-instr
invariant-loop-instr l = l.out.items ≡ l.initial.out.items ++ list_text l.f l.ordinal (take l.instr-index l.list)
