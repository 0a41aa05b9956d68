use Rattle.std.proofs.Common.{length, ◌-◌, ◌≤◌, ◌≡◌, ◌≢◌, All, take}
use Rattle.case_files.proofs.escapes.expanded.Given as goal

abbrev pub invariant-loop-at : goal.invariant-loop-at
invariant-loop-at l = record { within : l.at ≤ length l.text; as_they_are : All (λ byte. byte ≢ 92) l.text → l.out.items ≡ take l.at l.text }

abbrev pub decreases-loop-at : goal.decreases-loop-at
decreases-loop-at l = length l.text - l.at
