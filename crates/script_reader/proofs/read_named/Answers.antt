use Rattle.std.proofs.Common.{◌≡◌, ◌∙◌, ap, sym, Option}
use Rattle.std.specs.Prelude.{option_map}
use Rattle.call_script.specs.Block.{placed_lines}
use Rattle.call_script.specs.Faults.{Fault}
use Rattle.call_script.specs.Meaning.{script_value}
use Rattle.call_script.specs.Reading.{script_of, unless_fault}
use Rattle.script_faults.specs.Fault.{fault_of}
use Rattle.script_reader.proofs.read_named.Goals as goal

pub returns-in-Some-clause-exact : goal.returns-in-Some-clause-exact
unfolding script_of
returns-in-Some-clause-exact c =
    let value = script_value c.args.interface.now c.args.racing (placed_lines c.args.bytes.now) in
    ap (λ (fault : Option Fault). unless_fault fault value) (sym c.in_ok-line.ensures ∙ ap (option_map fault_of) c.in-Some.is)
