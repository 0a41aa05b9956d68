use Rattle.std.proofs.Common.{ℕ, ◌≤◌, ◌<◌, ◌^◌, List, length, All, sym, subst}
use Rattle.word_port.specs.declared.Race.{Race}
use Rattle.word_port.specs.Plain.{HasBytes, AreInOrder}
use Rattle.call_machine.proofs.PlainMachines.{port_words}
use Rattle.call_machine.proofs.run.first_port.Goals as goal

pub new-requires-clause-some : goal.new-requires-clause-some
new-requires-clause-some c =
    subst (λ (l : List ℕ). 1 ≤ length l) (sym c.as_slice.ensures) (port_words c.args.machine.now.interface c.requires.racing c.args.machine.now.script c.requires.script).some

pub new-requires-clause-few : goal.new-requires-clause-few
new-requires-clause-few c =
    subst (λ (l : List ℕ). length l ≤ 2 ^ 20) (sym c.as_slice.ensures) (port_words c.args.machine.now.interface c.requires.racing c.args.machine.now.script c.requires.script).few

pub new-requires-clause-host : goal.new-requires-clause-host
new-requires-clause-host c =
    subst (λ (l : List ℕ). c.args.machine.now.script.settings.host ≤ length l) (sym c.as_slice.ensures) (port_words c.args.machine.now.interface c.requires.racing c.args.machine.now.script c.requires.script).host

pub new-requires-clause-bytes : goal.new-requires-clause-bytes
new-requires-clause-bytes c =
    subst (λ (l : List ℕ). HasBytes c.args.machine.now.script.settings.host l) (sym c.as_slice.ensures) (port_words c.args.machine.now.interface c.requires.racing c.args.machine.now.script c.requires.script).bytes

pub new-requires-clause-order : goal.new-requires-clause-order
new-requires-clause-order c =
    subst (λ (l : List Race). AreInOrder l) (sym c.as_slice-2.ensures) (port_words c.args.machine.now.interface c.requires.racing c.args.machine.now.script c.requires.script).order

pub new-requires-clause-first : goal.new-requires-clause-first
new-requires-clause-first c =
    subst (λ (l : List Race). All (λ r. 1 ≤ r.at) l) (sym c.as_slice-2.ensures) (port_words c.args.machine.now.interface c.requires.racing c.args.machine.now.script c.requires.script).first

pub new-requires-clause-aims : goal.new-requires-clause-aims
new-requires-clause-aims c =
    subst (λ (l : List Race). All (λ r. r.index < c.args.machine.now.script.settings.host) l) (sym c.as_slice-2.ensures) (port_words c.args.machine.now.interface c.requires.racing c.args.machine.now.script c.requires.script).aims
