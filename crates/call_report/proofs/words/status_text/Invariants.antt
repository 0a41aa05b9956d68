use Rattle.std.proofs.Common.{◌≡◌, ◌++◌, string_bytes, replicate, codes}
use Rattle.call_report.proofs.words.status_text.Given as goal

abbrev pub invariant-loop-zeros : goal.invariant-loop-zeros
invariant-loop-zeros l = string_bytes l.text ≡ codes "0x" ++ replicate l.zeros 48
