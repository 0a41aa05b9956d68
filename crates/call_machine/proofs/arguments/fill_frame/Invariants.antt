use Rattle.std.proofs.Common.{◌≡◌, drop}
use Rattle.call_machine.specs.Calls.{call_frame}
use Rattle.call_machine.proofs.HostFrames.{filled}
use Rattle.call_machine.proofs.arguments.fill_frame.Given as goal

-- the fields that are still to come make the frame
abbrev pub invariant-loop-i : goal.invariant-loop-i
invariant-loop-i l =
    filled l.place.frame l.frame (drop l.i l.fn.function.params) (drop l.i l.args) (drop l.i l.lengths) ≡ call_frame l.fn.function l.place.frame l.args l.lengths
