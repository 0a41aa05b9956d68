use Rattle.std.proofs.Common.{◌≡◌, ◌∙◌, not, rules, arith}
use Rattle.std.specs.Prelude.{slice_get}
use Rattle.std.proofs.lemmas.Grind.{common_steps}
use Rattle.edl_grammar.specs.declared.Attribute.{Attribute}
use Rattle.attr_terms.specs.Attributes.{is_well_formed}
use Rattle.attr_terms.specs.Rules.{attributes_where, is_size_function, repeated}
use Rattle.broken_rules.proofs.Firsts.{head_find, repeated_find}
use Rattle.broken_rules.proofs.param_rules.attribute_breach.Goals as goal

pub returns-then-is_some : goal.returns-then-is_some
returns-then-is_some c =
    let unknown : c.malformed.result ≡ slice_get (attributes_where (λ (a : Attribute). not (is_well_formed a)) c.args.p.now) 0 = c.malformed.ensures ∙ head_find (λ (a : Attribute). not (is_well_formed a)) (λ (a : Attribute). a.token) c.args.p.now.attrs in
    first_of (search rules, grind (arith, common_steps))

pub returns : goal.returns
returns c =
    let unknown : c.malformed.result ≡ slice_get (attributes_where (λ (a : Attribute). not (is_well_formed a)) c.args.p.now) 0 = c.malformed.ensures ∙ head_find (λ (a : Attribute). not (is_well_formed a)) (λ (a : Attribute). a.token) c.args.p.now.attrs in
    let twice : c.repeated.result ≡ slice_get (repeated c.args.p.now.attrs) 0 = c.repeated.ensures ∙ repeated_find c.args.p.now.attrs in
    let sized : c.size_function.result ≡ slice_get (attributes_where is_size_function c.args.p.now) 0 = c.size_function.ensures ∙ head_find is_size_function (λ (a : Attribute). a.token) c.args.p.now.attrs in
    first_of (search rules, grind (arith, common_steps))
