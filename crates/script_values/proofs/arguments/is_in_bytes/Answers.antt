use Rattle.std.proofs.Common.{arith, ◌<◌, ◌*◌, ◌^◌}
use Rattle.std.proofs.lemmas.Bool.Decides.{nat_tests}
use Rattle.script_values.proofs.NumberLaws.{eight}
use Rattle.script_values.proofs.arguments.is_in_bytes.Goals as goal

pub returns-then-size-ge8 : goal.returns-then-size-ge8
returns-then-size-ge8 c =
    let below : c.args.number < 2 ^ (8 * c.args.size) = eight c.args.size c.args.number (omega arith) (omega arith) in
    grind (arith, nat_tests, below)
