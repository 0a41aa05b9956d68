use Rattle.std.proofs.Common.{length}
use Rattle.call_report.proofs.words.+append_line.Given as goal

abbrev pub decreases-append_line : goal.decreases-append_line
decreases-append_line l = length l.words.now
