use Rattle.std.proofs.Common.{◌≡◌, [], map, unwrap_or, sym, ap, ◌∙◌}
use Rattle.attr_terms.specs.Accepted.{ordinal_of}
use Rattle.attr_terms.specs.Sizing.{files_of}
use Rattle.accepted_interface.proofs.accepted.function.Goals as goal

pub returns : goal.returns
returns c =
    let g = files_of c.args.sizes.now in
    let decl = c.args.f.decl.now in
    let allow : c.in_ok-allow.allow ≡ map (λ x. ordinal_of g x.name) (unwrap_or decl.allow []) =
    c.in_ok-allow.ensures
    ∙ ap (λ o. map (λ x. ordinal_of c.args.functions.now.meanings.gathered.now x.name) (unwrap_or o [])) c.as_ref.ensures.value
    ∙ ap (λ h. map (λ x. ordinal_of h x.name) (unwrap_or decl.allow [])) (sym c.requires.same) in
    let name : c.in_ok-name.name ≡ decl.name = c.in_ok-name.ensures ∙ c.bytes.ensures in
    λ i. record { name = name i; is_public = c.is_public.ensures i; switchless = decl.switchless; ret = c.returned.ensures i; params = c.in_ok-framed.ensures.params i; allow = allow i; frame_size = c.in_ok-framed.ensures.size i }
