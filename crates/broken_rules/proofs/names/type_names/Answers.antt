use Rattle.std.proofs.Common.{◌∙◌, sym, ap, subst, take, ◌++◌}
use Rattle.std.specs.Prelude.{filter_map}
use Rattle.std.specs.Option.{option_to_list}
use Rattle.edl_grammar.specs.declared.TypeDecl.{TypeDecl}
use Rattle.broken_rules.specs.Names.{TellsNames}
use Rattle.attr_terms.specs.Rules as rules
use Rattle.attr_terms.proofs.Lists.{filter_more}
use Rattle.broken_rules.proofs.names.type_names.Goals as goal

pub loop-decl-preserved : goal.loop-decl-preserved
loop-decl-preserved c =
    subst (TellsNames c.add_type.new.self)
    (ap (λ (d : TypeDecl). filter_map rules.type_name (take c.loop-decl.decl-index c.as_slice-decl-items.result.now) ++ option_to_list (rules.type_name d)) c.decl-item.is
    ∙ sym (filter_more rules.type_name c.as_slice-decl-items.result.now c.loop-decl.decl-index c.decl-item.result c.loop-decl-test.true))
    (c.in_ok-add_type.ensures (filter_map rules.type_name (take c.loop-decl.decl-index c.as_slice-decl-items.result.now)) c.loop-decl.invariant)
