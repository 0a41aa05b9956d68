-- Counts of faults.
use Rattle.std.specs.Prelude.{ℕ, ◌≡◌, ◌+◌, ◌-◌, ◌^◌, ◌<◌, ◌⊎◌, min}

-- a count rose, or stands at the end of its type, where it cannot rise
abbrev pub Rose : ℕ → ℕ → Type 0
Rose before after = (before < after) ⊎ (after + 1 ≡ 2 ^ 64)

-- a count that rises by one, and stays at the end of its type
abbrev pub raised : ℕ → ℕ
raised count = min (count + 1) (2 ^ 64 - 1)
