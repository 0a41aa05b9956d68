-- The rule of limits, by what a line is too many for.
use Rattle.std.specs.Prelude.{ℕ, ◌≡◌, ◌+◌, ◌*◌, Bool, ◌&&◌, ◌||◌, nat_lt, List, ◌∷◌, map, fold, sum_by}
use Rattle.call_script.specs.Block.{Block}
use Rattle.call_script.specs.Faults.{max_acts, max_threads, max_racers, max_actions, max_temporaries, max_nesting, max_repetitions, max_race_bytes}
use Rattle.call_script.specs.Line.{Line, Thread}
use Rattle.call_script.specs.Standing.{has_already, is_act, is_action, is_thread, is_racer, is_repeat, is_race, is_temporary, race_length, times_of}
use Rattle.script_faults.specs.Room.{left}
use Rattle.script_faults.specs.declared.limit_rules.BodyRoom.{BodyRoom}

-- this much more may come behind these lines of a body
pub record HasBodyRoom (ls : List Line) (r : BodyRoom) : Type 0 where
  pub actions : r.actions ≡ left max_actions is_action ls
  pub temporaries : r.temporaries ≡ left max_temporaries is_temporary ls

-- how often a line in the blocks is carried out
abbrev pub product : List Block → ℕ
product blocks = fold (λ n b. n * times_of b.opening) 1 blocks

abbrev pub is_beyond_script : List Line → Line → Bool
is_beyond_script ls line =
    (is_act line && has_already max_acts is_act ls)
    || (is_thread line && has_already max_threads is_thread (Thread ∷ ls))
    || (is_racer line && has_already max_racers is_racer ls)

abbrev pub is_beyond_body : List Line → Line → Bool
is_beyond_body ls line =
    (is_action line && has_already max_actions is_action ls)
    || (is_temporary line && has_already max_temporaries is_temporary ls)

abbrev pub is_beyond_blocks : List Block → Line → Bool
is_beyond_blocks blocks line =
    (is_repeat line && has_already max_nesting is_repeat (map (λ b. b.opening) blocks))
    || (is_repeat line && nat_lt max_repetitions (product blocks * times_of line))

abbrev pub is_beyond_races : List Line → Line → Bool
is_beyond_races ls line = is_race line && nat_lt max_race_bytes (sum_by race_length ls + race_length line)
