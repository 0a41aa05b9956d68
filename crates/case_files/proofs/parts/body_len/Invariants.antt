use Rattle.std.proofs.Common.{length, ◌-◌, ◌≤◌, ◌≡◌, ◌+◌, drop, true}
use Rattle.case_files.specs.Parts.{body_length}
use Rattle.case_files.proofs.parts.body_len.Given as goal

abbrev pub invariant-loop-len : goal.invariant-loop-len
invariant-loop-len l = record { within : l.len ≤ length l.bytes; rest : l.len + body_length l.begins (drop l.len l.bytes) ≡ body_length true l.bytes }

abbrev pub decreases-loop-len : goal.decreases-loop-len
decreases-loop-len l = length l.bytes - l.len
