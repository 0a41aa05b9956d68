use Rattle.std.proofs.Common.{sym, ◌∙◌, ap}
use Rattle.std.specs.Prelude.{filter_map, slice_get}
use Rattle.script_lines.specs.Lines.{setting_of}
use Rattle.script_faults.specs.Given.{number_given}
use Rattle.script_faults.proofs.GivenLaws.{number_is}
use Rattle.script_faults.proofs.given.GivenSettings.number.Goals as goal

pub returns-in-Some : goal.returns-in-Some
returns-in-Some c = λ ls h.
    sym (number_is (setting_of c.args.setting) ls c.args.self.now _
    (c.in-Some.ensures
    ∙ ap (λ gs. slice_get (filter_map (number_given (setting_of c.args.setting)) gs) 0) c.as_slice.ensures) h)

pub returns-in-None : goal.returns-in-None
returns-in-None c = λ ls h.
    c.from.ensures
    ∙ c.default.ensures
    ∙ sym (number_is (setting_of c.args.setting) ls c.args.self.now _
    (c.in-None.ensures
    ∙ ap (λ gs. slice_get (filter_map (number_given (setting_of c.args.setting)) gs) 0) c.as_slice.ensures) h)
