use Rattle.std.proofs.Common.{◌≡◌, ◌<◌, ◌^◌, ◌++◌, flat_map, subst, arith, ◌∙◌}
use Rattle.edl_layout.specs.Frame.{param_fields, result_fields}
use Rattle.attr_terms.specs.Accepted.{shape_of, params_from}
use Rattle.attr_terms.specs.Sizing.{files_of, table_of}
use Rattle.accepted_interface.specs.Fields.{HasFields, size_of_fields}
use Rattle.accepted_interface.proofs.accepted.params_in_frame.Goals as goal

pub returns-clause-params : goal.returns-clause-params
returns-clause-params c =
    let g = files_of c.args.sizes.now in
    let t = table_of c.args.sizes.now in
    let decl = c.args.f.decl.now in
    let before = result_fields (shape_of g t) decl.result in
    let whole : c.in_ok-list.list.list.now ≡ decl.params = c.in_ok-list.ensures ∙ c.as_slice.ensures in
    subst (λ l. c.in_ok-params.params ≡ params_from g t c.args.f.is_trusted l before l) whole (c.in_ok-params.ensures.params before c.result_fields-fields.ensures)

pub returns-clause-size : goal.returns-clause-size
returns-clause-size c =
    let g = files_of c.args.sizes.now in
    let t = table_of c.args.sizes.now in
    let decl = c.args.f.decl.now in
    let before = result_fields (shape_of g t) decl.result in
    let whole : c.in_ok-list.list.list.now ≡ decl.params = c.in_ok-list.ensures ∙ c.as_slice.ensures in
    let has : HasFields c.params.new.fields (before ++ flat_map (param_fields (shape_of g t) c.args.f.is_trusted) decl.params) =
    subst (λ l. HasFields c.params.new.fields (before ++ flat_map (param_fields (shape_of g t) c.args.f.is_trusted) l)) whole (c.in_ok-params.ensures.fields before c.result_fields-fields.ensures) in
    let small : size_of_fields (before ++ flat_map (param_fields (shape_of g t) c.args.f.is_trusted) decl.params) < 2 ^ 32 = let limit = c.requires.frame in omega (arith, limit) in
    c.size.ensures (before ++ flat_map (param_fields (shape_of g t) c.args.f.is_trusted) decl.params) has small
