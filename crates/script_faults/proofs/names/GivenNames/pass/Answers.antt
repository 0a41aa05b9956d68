use Rattle.call_script.specs.Standing.{body_name, handler_name, foreign_name}
use Rattle.script_faults.proofs.NameLaws.{named-behind}
use Rattle.script_faults.proofs.names.GivenNames.pass.Goals as goal

pub returns : goal.returns
returns c = λ ls h. record {
  bodies = named-behind body_name ls _ _ _ _ h.bodies c.body_name.ensures c.in_ok-put.ensures;
  handlers = named-behind handler_name ls _ _ _ _ h.handlers c.handler_name.ensures c.in_ok-put-2.ensures;
  foreign_types = named-behind foreign_name ls _ _ _ _ h.foreign_types c.foreign_name.ensures c.in_ok-put-3.ensures;
}
