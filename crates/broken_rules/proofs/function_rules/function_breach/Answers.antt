use Rattle.std.proofs.Common.{◌∙◌, sym, ap, List}
use Rattle.attr_terms.specs.Accepted.{size_of}
use Rattle.attr_terms.specs.Taken.{function_in}
use Rattle.std.specs.List.{flat_map}
use Rattle.broken_rules.specs.Breaches.{first_breach}
use Rattle.attr_terms.specs.Rules as rules
use Rattle.edl_grammar.specs.declared.Declared.{Declared}
use Rattle.broken_rules.proofs.Firsts.{breach-front, breach-rest}
use Rattle.broken_rules.proofs.function_rules.function_breach.Goals as goal

pub returns-then-is_some : goal.returns-then-is_some
returns-then-is_some c = λ h.
    breach-front (rules.own_rows c.args.functions.now.meanings.gathered.now c.args.runner (size_of c.args.functions.now.meanings.gathered.now c.args.layouts.now) (function_in c.args.f.now)) (flat_map (rules.param_rows c.args.functions.now.meanings.gathered.now c.args.runner c.args.f.now.decl.now.params) c.args.f.now.decl.now.params) c.own_breach-own.result (c.own_breach-own.ensures (c.is_second_function.ensures c.args.functions.now.meanings.gathered.now h)) (sym c.if-is_some.ensures)

pub returns : goal.returns
returns c = λ h.
    breach-rest (rules.own_rows c.args.functions.now.meanings.gathered.now c.args.runner (size_of c.args.functions.now.meanings.gathered.now c.args.layouts.now) (function_in c.args.f.now)) (flat_map (rules.param_rows c.args.functions.now.meanings.gathered.now c.args.runner c.args.f.now.decl.now.params) c.args.f.now.decl.now.params) c.own_breach-own.result c.in_ok-of_params.of_params (c.own_breach-own.ensures (c.is_second_function.ensures c.args.functions.now.meanings.gathered.now h)) (sym c.if-is_some.ensures)
    (c.in_ok-of_params.ensures ∙ ap (λ (ps : List Declared). first_breach (flat_map (rules.param_rows c.args.functions.now.meanings.gathered.now c.args.runner ps) ps)) c.as_slice.ensures)
