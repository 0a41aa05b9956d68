-- How much more may come of what a script may have so many of.
use Rattle.std.specs.Prelude.{ℕ, ◌≡◌, ◌-◌, ◌^◌, min, Bool, List, ◌∷◌, count_by, sum_by}
use Rattle.call_script.specs.Faults.{max_acts, max_threads, max_racers}
use Rattle.call_script.specs.Line.{Line, Thread}
use Rattle.call_script.specs.Standing.{is_act, is_thread, is_racer, race_length}
use Rattle.script_faults.specs.declared.room.Room.{Room}

-- how many lines of a kind may come behind these
abbrev pub left : ℕ → (Line → Bool) → List Line → ℕ
left most kind ls = most - count_by kind ls

-- this much more may come behind these lines
pub record HasRoom (ls : List Line) (r : Room) : Type 0 where
  pub acts : r.acts ≡ left max_acts is_act ls
  pub threads : r.threads ≡ left max_threads is_thread (Thread ∷ ls)
  pub racers : r.racers ≡ left max_racers is_racer ls
  pub race_bytes : r.race_bytes ≡ min (sum_by race_length ls) (2 ^ 64 - 1)
