use Rattle.std.proofs.Common.{◌≤◌, ◌∙◌, List, length, get_or, sym, ap, subst, arith}
use Rattle.call_script.specs.declared.HostAct.{HostAct}
use Rattle.call_machine.specs.HostActs.{AreThreadActs}
use Rattle.call_machine.specs.Reported.{acts_at}
use Rattle.call_machine.proofs.PlainMachines.{first_of, acts_sound}
use Rattle.call_machine.proofs.HostActs.{acts_of_thread}
use Rattle.call_machine.proofs.run.first_acts.Goals as goal

pub bounds-as_slice-0 : goal.bounds-as_slice-0
bounds-as_slice-0 c =
    let some : 1 ≤ length c.as_slice.result.now = subst (λ (l : List (List HostAct)). 1 ≤ length l) (sym c.as_slice.ensures) c.requires.script.threads.first in
    omega (arith, some)

pub returns-clause-acts : goal.returns-clause-acts
returns-clause-acts c =
    c.as_slice-2.ensures
    ∙ first_of c.args.machine.now.script.threads c.index-as_slice-0.result c.requires.script.threads.first
    (c.index-as_slice-0.is ∙ ap (λ (l : List (List HostAct)). get_or l 0 c.index-as_slice-0.result) c.as_slice.ensures)

pub returns-clause-sound : goal.returns-clause-sound
returns-clause-sound c =
    let acts =
    c.as_slice-2.ensures
    ∙ first_of c.args.machine.now.script.threads c.index-as_slice-0.result c.requires.script.threads.first
    (c.index-as_slice-0.is ∙ ap (λ (l : List (List HostAct)). get_or l 0 c.index-as_slice-0.result) c.as_slice.ensures) in
    subst (λ (l : List HostAct). AreThreadActs c.args.machine.now.interface c.args.machine.now.script.settings.host l) (sym acts)
    (acts_of_thread c.args.machine.now.interface c.args.machine.now.script.settings.host (acts_at c.args.machine.now 0) (acts_sound c.args.machine.now c.requires))
