-- What a line's rules look at besides the line, and the code of the first that is broken.
use Rattle.std.specs.Prelude.{ℕ, ◌≡◌, true, List, filter_map, find, count_by, Option, option_map}
use Rattle.edl_interface.specs.declared.Interface.{Interface}
use Rattle.call_script.specs.Line.{Line}
use Rattle.call_script.specs.Faults.{Row}
use Rattle.call_script.specs.Standing.{Standing, lines_before, beside, names_at, is_action, temporary_name}
use Rattle.script_lines.specs.declared.open_blocks.Blocks.{Blocks}
use Rattle.script_lines.specs.Nesting.{open_blocks}
use Rattle.script_faults.specs.declared.before.Before.{Before}
use Rattle.script_faults.specs.declared.codes.BodyAround.{BodyAround}
use Rattle.script_faults.specs.Before.{IsBefore}
use Rattle.script_faults.specs.Limits.{HasBodyRoom}

-- the body around a line
pub record IsBodyAround (i : Interface) (s : Standing) (b : BodyAround) : Type 0 where
  pub params : b.params.now ≡ (names_at i s).params
  pub names : b.names ≡ names_at i s
  pub temporaries : b.temporaries.now ≡ filter_map temporary_name (beside s s.before)
  pub room : HasBodyRoom (beside s s.before) b.room
  pub behind : b.behind ≡ count_by is_action (beside s s.behind)

-- what is known of the place of a line; of a body around it only where the line is an action
pub record StandsIn (i : Interface) (s : Standing) (line : Line) (before : Before) (blocks : Blocks) (body : BodyAround)
    : Type 0 where
  pub before_it : IsBefore (lines_before s) before
  pub around : open_blocks blocks ≡ s.here.blocks
  pub within : is_action line ≡ true → IsBodyAround i s body

-- the code of the first row that is broken
abbrev pub first_code : List Row → Option ℕ
first_code rows = option_map (λ r. r.code) (find (λ r. r.broken) rows)
