use Rattle.script_faults.proofs.GivenLaws.{none_given}
use Rattle.script_faults.proofs.given.GivenSettings.new.Goals as goal

pub returns : goal.returns
returns c = none_given _ c.new.ensures
