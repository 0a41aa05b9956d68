use Rattle.script_reader.proofs.ForeignLaws.{stop}
use Rattle.script_reader.proofs.foreign.read.Goals as goal

pub returns-in-Err : goal.returns-in-Err
returns-in-Err c =
    stop c.args.bytes.now c.loop-line.types c.loop-line.lines c.loop-line.invariant c.in-Some.line.number
    c.in-Some.line.words c.next.new.self c.in-Some.ensures c.in-Err.fault c.in-Err.ensures
