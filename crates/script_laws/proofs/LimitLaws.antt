-- What the rule on limits says of a line that does not break it.
use Rattle.std.proofs.Common.{◌≡◌, ◌*◌, ◌+◌, Bool, true, false, ◌∷◌, map, refl}
use Rattle.std.specs.Prelude.{◌&&◌, ◌||◌, nat_lt, sum_by}
use Rattle.call_script.specs.Line.{Line, Thread}
use Rattle.call_script.specs.Standing.{Standing, lines_before, beside, repetitions, has_already, is_act, is_action, is_thread, is_racer, is_repeat, is_race, is_temporary, race_length, times_of}
use Rattle.call_script.specs.Faults.{is_one_too_many, max_acts, max_threads, max_racers, max_actions, max_temporaries, max_nesting, max_repetitions, max_race_bytes}

pub record AreWithinLimits (s : Standing) (line : Line) : Type 0 where
  pub acts : (is_act line && has_already max_acts is_act (lines_before s)) ≡ false
  pub threads : (is_thread line && has_already max_threads is_thread (Thread ∷ lines_before s)) ≡ false
  pub racers : (is_racer line && has_already max_racers is_racer (lines_before s)) ≡ false
  pub actions : (is_action line && has_already max_actions is_action (beside s s.before)) ≡ false
  pub temporaries : (is_temporary line && has_already max_temporaries is_temporary (beside s s.before)) ≡ false
  pub nesting : (is_repeat line && has_already max_nesting is_repeat (map (λ b. b.opening) s.here.blocks)) ≡ false
  pub repetitions : (is_repeat line && nat_lt max_repetitions (repetitions s * times_of line)) ≡ false
  pub races : (is_race line && nat_lt max_race_bytes (sum_by race_length (lines_before s) + race_length line)) ≡ false

eight : (a b c d e f g h : Bool) → (a || b || c || d || e || f || g || h) ≡ false
    → (a ≡ false) × (b ≡ false) × (c ≡ false) × (d ≡ false) × (e ≡ false) × (f ≡ false) × (g ≡ false) × (h ≡ false)
eight false false false false false false false false k = (refl, refl, refl, refl, refl, refl, refl, refl)
eight false false false false false false false true k = absurd cc
eight false false false false false false true h k = absurd cc
eight false false false false false true g h k = absurd cc
eight false false false false true f g h k = absurd cc
eight false false false true e f g h k = absurd cc
eight false false true d e f g h k = absurd cc
eight false true c d e f g h k = absurd cc
eight true b c d e f g h k = absurd cc

pub within-limits : (s : Standing) (line : Line) → is_one_too_many s line ≡ false → AreWithinLimits s line
within-limits s line e =
    let all =
    eight (is_act line && has_already max_acts is_act (lines_before s)) (is_thread line
    && has_already max_threads is_thread (Thread ∷ lines_before s)) (is_racer line
    && has_already max_racers is_racer (lines_before s))
    (is_action line && has_already max_actions is_action (beside s s.before)) (is_temporary line
    && has_already max_temporaries is_temporary (beside s s.before))
    (is_repeat line && has_already max_nesting is_repeat (map (λ b. b.opening) s.here.blocks)) (is_repeat line
    && nat_lt max_repetitions (repetitions s * times_of line))
    (is_race line && nat_lt max_race_bytes (sum_by race_length (lines_before s) + race_length line)) e in
    record {
      acts = all.0;
      threads = all.1;
      racers = all.2;
      actions = all.3;
      temporaries = all.4;
      nesting = all.5;
      repetitions = all.6;
      races = all.7;
    }
