use Rattle.script_reader.specs.Foreign as spec
use Rattle.script_reader.proofs.foreign.line_outside.Goals as goal

pub returns : goal.returns
unfolding spec.line_outside
returns c = c.line_in.ensures
