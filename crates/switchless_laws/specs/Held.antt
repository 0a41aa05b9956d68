-- The calls that were served and are not yet taken.
use Rattle.std.specs.Prelude.{ℕ, zero, suc, ◌+◌, if◌then◌else◌, List, [], ◌∷◌, ◌++◌, slice_index}
use Rattle.switchless.specs.Slots.{is_done}
use Rattle.switchless.specs.Counts.{Completed, completed_in}
use Rattle.switchless.specs.declared.Pool.{Pool as Slots}

-- the call in a word that is done
abbrev pub call_in : ℕ → List Completed
call_in word = if is_done word then completed_in word ∷ [] else []

-- the calls in the words of so many slots from one on
abbrev pub calls_in : List ℕ → ℕ → ℕ → List Completed
calls_in words from zero = []
calls_in words from (suc count) = calls_in words from count ++ call_in (slice_index words (from + count))

-- the calls that the pool's slots hold as done
abbrev pub held_in : Slots → List ℕ → List Completed
held_in pool words = calls_in words pool.from pool.slots
