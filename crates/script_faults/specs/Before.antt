-- What the lines before a line give together.
use Rattle.std.specs.Prelude.{◌≡◌, not, List, filter_map, None, unwrap_or}
use Rattle.std.specs.List.{list_any, last_or}
use Rattle.call_script.specs.Line.{Line}
use Rattle.call_script.specs.Standing.{access_of, is_setting}
use Rattle.script_faults.specs.Given.{AreGiven}
use Rattle.script_faults.specs.Names.{AreNamed}
use Rattle.script_faults.specs.Room.{HasRoom}
use Rattle.script_faults.specs.declared.before.Before.{Before}

-- this is what the lines give
pub record IsBefore (ls : List Line) (b : Before) : Type 0 where
  pub settings : AreGiven ls b.settings
  pub names : AreNamed ls b.names
  pub room : HasRoom ls b.room
  pub last_access : b.last_access ≡ unwrap_or (last_or None (filter_map access_of ls)) 0
  pub has_others : b.has_others ≡ list_any (λ l. not (is_setting l)) ls
