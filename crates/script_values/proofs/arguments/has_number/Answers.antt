use Rattle.std.proofs.Common.{arith}
use Rattle.script_values.proofs.NumberLaws.{no_double}
use Rattle.script_values.proofs.arguments.has_number.Goals as goal

pub returns-in-None : goal.returns-in-None
returns-in-None c = no_double c.args.plain c.args.number c.if-not-plain.false (omega arith) c.in-None.ensures
