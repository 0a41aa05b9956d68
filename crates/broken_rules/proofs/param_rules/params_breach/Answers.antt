use Rattle.std.proofs.Common.{sym, ap, ◌∙◌, subst, List, map}
use Rattle.std.specs.List.{flat_map}
use Rattle.edl_grammar.specs.declared.Declared.{Declared}
use Rattle.broken_rules.specs.Breaches.{first_breach}
use Rattle.broken_rules.specs.Names.{TellsNames}
use Rattle.attr_terms.specs.Rules as rules
use Rattle.broken_rules.proofs.param_rules.params_breach.Goals as goal

pub breach_among-requires : goal.breach_among-requires
breach_among-requires c = subst (λ (ps : List Declared). TellsNames c.in_ok-names.names (map rules.declared_name ps)) (sym c.in_ok-params.ensures) c.in_ok-names.ensures

pub returns : goal.returns
returns c = c.breach_among.ensures ∙ ap (λ (ps : List Declared). first_breach (flat_map (rules.param_rows c.args.meanings.now.gathered.now c.args.runner ps) ps)) c.in_ok-params.ensures
