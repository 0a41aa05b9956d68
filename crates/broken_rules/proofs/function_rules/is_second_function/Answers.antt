use Rattle.std.proofs.Common.{◌∙◌, sym, ap, ℕ, List}
use Rattle.attr_terms.specs.Rules as rules
use Rattle.broken_rules.proofs.FunctionLaws.{each_some, each_none}
use Rattle.broken_rules.proofs.function_rules.is_second_function.Goals as goal

pub returns-in-Some : goal.returns-in-Some
returns-in-Some c = λ g h.
    let w = each_some c.args.names.now g.files c.args.f.now.file c.in-Some.names.now h c.in-Some.ensures in
    c.is_second.ensures (rules.function_names w.0.tree) w.2
    ∙ ap (λ o. rules.is_second (rules.names_in rules.function_names o) (rules.at c.args.f.now.decl.now.token c.bytes.result.now)) (sym w.1)
    ∙ ap (λ (n : List ℕ). rules.is_second (rules.tree_names rules.function_names g c.args.f.now.file) (rules.at c.args.f.now.decl.now.token n)) c.bytes.ensures

pub returns-in-None : goal.returns-in-None
returns-in-None c = λ g h.
    ap (λ o. rules.is_second (rules.names_in rules.function_names o) (rules.function_name c.args.f.now.decl.now)) (sym (each_none c.args.names.now g.files c.args.f.now.file h c.in-None.ensures))
