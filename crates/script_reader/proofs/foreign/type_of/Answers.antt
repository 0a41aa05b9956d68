use Rattle.std.proofs.Common.{arith}
use Rattle.script_value.proofs.RangeLaws.{size_fits, alignment_fits}
use Rattle.script_reader.proofs.foreign.type_of.Goals as goal

pub overflow_cast-result : goal.overflow_cast-result
overflow_cast-result c =
    omega (arith, size_fits c.args.name.now c.args.size.now c.args.alignment.now c.requires, c.number_of.ensures)

pub overflow_cast-result-2 : goal.overflow_cast-result-2
overflow_cast-result-2 c =
    omega (arith, alignment_fits c.args.name.now c.args.size.now c.args.alignment.now c.requires, c.number_of-2.ensures)
