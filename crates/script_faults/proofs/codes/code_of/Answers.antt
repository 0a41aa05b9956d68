use Rattle.std.proofs.Common.{◌∙◌, ap}
use Rattle.std.specs.Prelude.{length, ◌==◌}
use Rattle.call_script.specs.Block.{scope_of}
use Rattle.call_script.specs.Faults.{rows}
use Rattle.call_script.specs.Standing.{lines_before, handled_function, is_handler}
use Rattle.script_lines.specs.Lines.{line_of}
use Rattle.script_lines.specs.Openings.{blocks_of}
use Rattle.script_faults.proofs.CodeLaws.{IsFirst, step, none}
use Rattle.script_faults.proofs.codes.code_of.Goals as goal

pub returns : goal.returns
returns c = λ s k.
    let scope = c.scope-scope.ensures ∙ ap scope_of k.around in
    let handled = c.handled_function-handled.ensures ∙ ap (handled_function c.args.interface.now) scope in
    let inside = c.is_handler-in_handler.ensures ∙ ap is_handler scope in
    let blocks = ap blocks_of c.as_slice-around.ensures ∙ k.around in
    let outermost = c.are_none-is_outermost.ensures ∙ ap (λ bs. length bs == 0) k.around in
    let first : IsFirst (rows c.args.interface.now c.args.asked.racing c.args.asked.is_left s (line_of c.args.line.now))
    c.code_or.result =
    step 1 c.is_not_understood.ensures
    (step 2 c.has_number_out_of_range.ensures
    (step 3 (c.is_set_twice.ensures s k.before_it.settings)
    (step 4 (c.has_address_outside_host.ensures s (c.number-host.ensures (lines_before s) k.before_it.settings))
    (step 5 c.has_unknown_function.ensures
    (step 6 (c.has_wrong_arguments.ensures s (λ e. (k.within e).names))
    (step 7 c.has_misfit.ensures
    (step 8 (c.has_unknown_name.ensures s (λ e. (k.within e).names))
    (step 9 (c.skips_past_end.ensures s (λ e. (k.within e).behind))
    (step 10 (c.has_no_such_cell.ensures s (c.number-cells.ensures (lines_before s) k.before_it.settings))
    (step 11 (c.is_given_twice.ensures c.args.interface.now s k.before_it.names (λ e. (k.within e).params)
    (λ e. (k.within e).temporaries))
    (step 12 (c.is_unpaired.ensures s outermost)
    (step 13 (c.is_out_of_order.ensures s k.before_it.last_access)
    (step 14 c.is_for_other_program.ensures
    (step 15 (c.calls_in_switchless_handler.ensures c.args.interface.now s handled)
    (step 16 (c.is_one_too_many.ensures s k.before_it.room (λ e. (k.within e).room) blocks)
    (step 18 c.has_bad_hex.ensures
    (step 19 (c.lacks_its_frame.ensures c.args.interface.now s handled inside)
    (step 20 (c.is_set_too_late.ensures s k.before_it.has_others) none c.code_or-code.ensures)
    c.code_or-code-2.ensures) c.code_or-code-3.ensures) c.code_or-code-4.ensures) c.code_or-code-5.ensures)
    c.code_or-code-6.ensures) c.code_or-code-7.ensures) c.code_or-code-8.ensures) c.code_or-code-9.ensures)
    c.code_or-code-10.ensures) c.code_or-code-11.ensures) c.code_or-code-12.ensures) c.code_or-code-13.ensures)
    c.code_or-code-14.ensures) c.code_or-code-15.ensures) c.code_or-code-16.ensures) c.code_or-code-17.ensures)
    c.code_or-code-18.ensures) c.code_or.ensures in
    first.is
