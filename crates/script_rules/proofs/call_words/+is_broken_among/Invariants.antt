use Rattle.std.proofs.Common.{length}
use Rattle.script_rules.proofs.call_words.+is_broken_among.Given as goal

abbrev pub decreases-is_broken_among : goal.decreases-is_broken_among
decreases-is_broken_among l = length l.params.now
