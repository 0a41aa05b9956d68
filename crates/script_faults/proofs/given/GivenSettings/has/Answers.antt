use Rattle.std.proofs.Common.{sym, ◌∙◌, ap}
use Rattle.std.specs.Prelude.{filter_map, slice_get}
use Rattle.script_lines.specs.Lines.{setting_of}
use Rattle.script_faults.specs.Given.{number_given}
use Rattle.script_faults.proofs.GivenLaws.{has_given}
use Rattle.script_faults.proofs.given.GivenSettings.has.Goals as goal

pub returns : goal.returns
returns c = λ ls h.
    c.is_some.ensures
    ∙ sym (has_given (setting_of c.args.setting) ls c.args.self.now _
    (c.first_number.ensures
    ∙ ap (λ gs. slice_get (filter_map (number_given (setting_of c.args.setting)) gs) 0) c.as_slice.ensures) h)
