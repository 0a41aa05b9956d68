use Rattle.std.proofs.Common.{◌∙◌, ap, take, ◌∷◌}
use Rattle.script_faults.proofs.StepLaws.{first-given, one-behind, same-names}
use Rattle.script_faults.proofs.body.Body.around.Goals as goal

pub returns : goal.returns
returns c = λ i name before line ls a h. record {
  params = h.params;
  names = c.new.ensures ∙ same-names _ _ _ _ h.params (c.as_slice-temporaries.ensures ∙ h.temporaries);
  temporaries =
      c.first.ensures ∙ ap (take c.args.self.now.given) c.as_slice-temporaries.ensures
      ∙ first-given before (line ∷ ls) c.args.self.now.temporaries c.args.self.now.given h.temporaries h.given;
  room = h.room;
  behind_it = one-behind line ls c.args.self.now.left _ a h.left (c.from.ensures ∙ c.saturating_sub.ensures);
}
