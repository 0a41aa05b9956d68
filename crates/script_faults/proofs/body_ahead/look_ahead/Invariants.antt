use Rattle.std.proofs.Common.{◌≡◌, ◌≤◌, ◌+◌, ◌++◌, length}
use Rattle.std.specs.Prelude.{filter_map, count_by}
use Rattle.sgx_base.specs.Stores.{max_file_size}
use Rattle.call_script.specs.Standing.{is_action, temporary_name}
use Rattle.script_faults.specs.Bodies.{lines_of_body}
use Rattle.script_faults.proofs.body_ahead.look_ahead.Given as goal

abbrev pub invariant-loop-line : goal.invariant-loop-line
invariant-loop-line l = record {
  temporaries : l.temporaries ++ filter_map temporary_name (lines_of_body l.name l.lines)
      ≡ filter_map temporary_name (lines_of_body l.name l.behind);
  actions : l.actions + count_by is_action (lines_of_body l.name l.lines)
      ≡ count_by is_action (lines_of_body l.name l.behind);
  few_temporaries : length l.temporaries + length l.lines ≤ max_file_size + 1;
  few_actions : l.actions + length l.lines ≤ max_file_size + 1;
}

abbrev pub decreases-loop-line : goal.decreases-loop-line
decreases-loop-line l = length l.lines
