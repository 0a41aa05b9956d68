use Rattle.std.proofs.Common.{◌≡◌, ◌-◌, ◌%◌, ◌++◌, map}
use Rattle.std.specs.List.{range_with_len}
use Rattle.sample_script.proofs.first_bytes.Given as goal

-- what is still to come
abbrev pub invariant-loop-place : goal.invariant-loop-place
invariant-loop-place l = l.bytes.items ++ map (λ j. j % 256) (range_with_len l.place (512 - l.place)) ≡ map (λ j. j % 256) (range_with_len 0 512)
