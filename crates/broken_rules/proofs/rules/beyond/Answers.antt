use Rattle.std.proofs.Common.{◌∙◌, ap, Some}
use Rattle.std.specs.Prelude.{option_map}
use Rattle.broken_rules.proofs.FunctionLaws.{taken_at, at_taken}
use Rattle.broken_rules.proofs.rules.beyond.Goals as goal

pub returns-in-Some : goal.returns-in-Some
returns-in-Some c = ap Some c.at_function.ensures ∙ ap (option_map (at_taken 40)) c.in-Some.ensures ∙ taken_at 40 1024 c.args.functions.now

pub returns-in-None : goal.returns-in-None
returns-in-None c = ap (option_map (at_taken 40)) c.in-None.ensures ∙ taken_at 40 1024 c.args.functions.now
