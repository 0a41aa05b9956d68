use Rattle.std.proofs.Common.{◌∙◌, sym, ap}
use Rattle.std.specs.Prelude.{option_map}
use Rattle.attr_terms.specs.Accepted.{size_of}
use Rattle.attr_terms.specs.Taken.{function_in}
use Rattle.broken_rules.specs.Breaches.{in_file}
use Rattle.attr_terms.specs.Rules as rules
use Rattle.broken_rules.proofs.Firsts.{head-broken_in}
use Rattle.broken_rules.proofs.function_rules.broken_function.Goals as goal

pub returns : goal.returns
returns c = λ h.
    c.broken_at.ensures ∙ ap (option_map (in_file c.args.f.now.file)) (c.in_ok-breach.ensures h) ∙ sym (head-broken_in c.args.f.now.file (rules.function_rows c.args.functions.now.meanings.gathered.now c.args.runner (size_of c.args.functions.now.meanings.gathered.now c.args.layouts.now) (function_in c.args.f.now)))
