use Rattle.std.proofs.Common.{◌≡◌, false, subst}
use Rattle.edl_interface.specs.Parameters.{has_frame}
use Rattle.call_machine.specs.OcallPhases.{IsFrameFor}
use Rattle.call_machine.proofs.OcallAnswers.{frameless_reply}
use Rattle.call_machine.proofs.ocalls.load_reply.Goals as goal

pub returns-in-None-clause-ok : goal.returns-in-None-clause-ok
returns-in-None-clause-ok g c passed are =
    let none : has_frame c.args.function.now ≡ false =
    subst (λ o. IsFrameFor c.args.function.now c.args.args.now.items c.args.arena.now (g.P.WordPort.state c.args.port.now).host o) c.in-None.is c.requires.frame in
    rw c.in-None.is (frameless_reply c.args.function.now passed (g.P.WordPort.state c.args.port.now) c.args.arena.now none)
