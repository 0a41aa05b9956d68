use Rattle.std.proofs.Common.{◌≡◌, ◌+◌, drop}
use Rattle.call_script.specs.Meaning.{written}
use Rattle.script_value.proofs.words.write.Given as goal

abbrev pub invariant-loop-byte : goal.invariant-loop-byte
invariant-loop-byte l = record {
  rest : written l.host l.index (drop l.byte-index l.bytes) ≡ written l.initial.host l.at l.bytes;
  place : l.index ≡ l.at + l.byte-index;
}
