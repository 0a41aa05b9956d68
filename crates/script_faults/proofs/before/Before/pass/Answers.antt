use Rattle.std.proofs.Common.{◌∙◌, ap}
use Rattle.std.specs.Prelude.{not, unwrap_or}
use Rattle.call_script.specs.Standing.{access_of, is_setting}
use Rattle.script_faults.proofs.ListLaws.{last-behind, any-behind}
use Rattle.script_faults.proofs.before.Before.pass.Goals as goal

pub returns : goal.returns
returns c = λ ls h. record {
  settings = c.in_ok-pass.ensures ls h.settings;
  names = c.in_ok-pass-2.ensures ls h.names;
  room = c.behind-self.ensures ls h.room;
  last_access =
      last-behind access_of ls _ _ _ h.last_access
      (c.unwrap_or-self.ensures ∙ ap (λ o. unwrap_or o c.args.self.now.last_access) c.access_of.ensures);
  has_others = any-behind (λ l. not (is_setting l)) ls _ _ _ h.has_others c.is_other_among-self.ensures;
}
