use Rattle.std.proofs.Common.{◌≡◌, ◌-◌, ◌++◌}
use Rattle.sample_script.specs.Sample.{call_lines}
use Rattle.sample_script.proofs.append_calls.Given as goal

-- what is still to come
abbrev pub invariant-loop-place : goal.invariant-loop-place
invariant-loop-place l = l.text.items ++ call_lines l.place l.number (l.calls - l.place) ≡ l.initial.text.items ++ call_lines 0 1 l.calls
