use Rattle.edl_imports.proofs.Reading.{lexing_stops}
use Rattle.edl_imports.proofs.gathering.tokens_of.Goals as goal

pub returns-in-Err : goal.returns-in-Err
returns-in-Err c = record {
  ok = tt;
  within = tt;
  err = lexing_stops c.args.number c.args.file.now c.bytes.result.now c.as_slice.result.now c.in-Err.fault c.lex_stop.result c.bytes.ensures c.as_slice.ensures c.in-Err.ensures.fault c.in-Err.ensures.refused c.lex_stop.ensures.memory c.lex_stop.ensures.told;
}
