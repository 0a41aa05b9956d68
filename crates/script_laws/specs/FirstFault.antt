-- The first fault, as a reader finds it that goes from line to line.
use Rattle.std.specs.Prelude.{ℕ, ◌+◌, ◌<◌, ◌≤◌, Bool, false, ◌==◌, List, [], ◌∷◌, filter_map, slice_get, Option, Some, None}
use Rattle.edl_interface.specs.declared.Interface.{Interface}
use Rattle.call_script.specs.Spelling.{NumberedLine}
use Rattle.call_script.specs.Block.{Block, placed_lines, left_open}
use Rattle.call_script.specs.Standing.{Standing}
use Rattle.call_script.specs.Faults.{Fault, fault_by}
use Rattle.script_lines.specs.Nesting.{outermost}

abbrev pub first_of : {A B : Type 0} → (A → Option B) → List A → Option B
first_of f xs = slice_get (filter_map f xs) 0

-- the lines' numbers rise, from at least this on
unfoldable pub Rising : ℕ → List NumberedLine → Type 0
Rising n [] = Unit {0}
Rising n (l ∷ ls) = (n ≤ l.number) × Rising (l.number + 1) ls

-- the blocks' numbers fall from the innermost to the outermost, from below this on
unfoldable pub Below : ℕ → List Block → Type 0
Below m [] = Unit {0}
Below m (b ∷ bs) = (b.number < m) × Below b.number bs

abbrev pub is_outermost : Option ℕ → ℕ → Bool
is_outermost None n = false
is_outermost (Some o) n = o == n

-- the number of the outermost block that is left open
abbrev pub left_outermost : List ℕ → Option ℕ
left_outermost bytes = outermost (left_open (placed_lines bytes))

-- the fault of a line, where of the blocks left open the outermost alone is known
abbrev pub fault_with : Interface → Bool → Option ℕ → Standing → Option Fault
fault_with i racing o s = fault_by i racing (is_outermost o s.here.number) s
