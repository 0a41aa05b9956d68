use Rattle.std.proofs.Common.{arith, []}
use Rattle.call_script.specs.Settings as row
use Rattle.edl_interface.specs.declared.Interface.{Interface}
use Rattle.script_value.specs.Left.{formed_lines}
use Rattle.script_value.proofs.SettingLaws.{fits_in, are_settings}
use Rattle.script_value.proofs.settings.settings.Goals as goal

-- what holds of every interface holds of this one
abbrev no_interface : Interface
no_interface = record { ecalls = []; ocalls = [] }

pub overflow_cast-result : goal.overflow_cast-result
unfolding formed_lines
overflow_cast-result c =
    omega (arith, fits_in row.host _ (c.requires.sound no_interface).host (omega arith) _ c.in_ok-number_of_setting.ensures)

pub overflow_cast-result-2 : goal.overflow_cast-result-2
unfolding formed_lines
overflow_cast-result-2 c =
    omega (arith, fits_in row.stack _ (c.requires.sound no_interface).stack (omega arith) _ c.in_ok-number_of_setting-2.ensures)

pub overflow_cast-result-3 : goal.overflow_cast-result-3
unfolding formed_lines
overflow_cast-result-3 c =
    omega (arith, fits_in row.arena _ (c.requires.sound no_interface).arena (omega arith) _ c.in_ok-number_of_setting-3.ensures)

pub overflow_cast-result-4 : goal.overflow_cast-result-4
unfolding formed_lines
overflow_cast-result-4 c =
    omega (arith, fits_in row.cells _ (c.requires.sound no_interface).cells (omega arith) _ c.in_ok-number_of_setting-4.ensures)

pub overflow_cast-result-5 : goal.overflow_cast-result-5
unfolding formed_lines
overflow_cast-result-5 c =
    omega (arith, fits_in row.retries _ (c.requires.sound no_interface).retries (omega arith) _ c.in_ok-number_of_setting-5.ensures)

pub overflow_cast-result-6 : goal.overflow_cast-result-6
unfolding formed_lines
overflow_cast-result-6 c =
    omega (arith, fits_in row.tworkers _ (c.requires.sound no_interface).tworkers (omega arith) _ (c.in_ok-workers.ensures no_interface))

pub overflow_cast-result-7 : goal.overflow_cast-result-7
unfolding formed_lines
overflow_cast-result-7 c =
    omega (arith, fits_in row.uworkers _ (c.requires.sound no_interface).uworkers (omega arith) _ (c.in_ok-workers-2.ensures no_interface))

pub overflow_cast-result-8 : goal.overflow_cast-result-8
unfolding formed_lines
overflow_cast-result-8 c =
    omega (arith, fits_in row.slots _ (c.requires.sound no_interface).slots (omega arith) _ c.in_ok-number_of_setting-6.ensures)

pub returns : goal.returns
returns c = λ i.
    are_settings i c.args.racing c.args.bytes.now _ _ _ _ _ _ _ _ c.in_ok-number_of_setting.ensures
    c.in_ok-number_of_setting-2.ensures c.in_ok-number_of_setting-3.ensures c.in_ok-number_of_setting-4.ensures
    c.in_ok-number_of_setting-5.ensures (c.in_ok-workers.ensures i) (c.in_ok-workers-2.ensures i)
    c.in_ok-number_of_setting-6.ensures
