use Rattle.std.proofs.Common.{◌≡◌, true, [], ◌∷◌, if◌then◌else◌, sym, ◌∙◌, subst}
use Rattle.edl_layout.specs.Frame.{is_returning}
use Rattle.attr_terms.specs.Accepted.{shape_of}
use Rattle.accepted_interface.specs.Fields.{HasFields}
use Rattle.attr_terms.specs.Sizing.{files_of, table_of}
use Rattle.accepted_interface.proofs.accepted.result_fields.Goals as goal

pub returns-then-is_returning : goal.returns-then-is_returning
returns-then-is_returning c =
    let yes : is_returning c.args.written.now ≡ true = sym c.is_returning.ensures ∙ c.if-is_returning.true in
    let put : HasFields c.push.new.self (shape_of (files_of c.args.sizes.now) (table_of c.args.sizes.now) c.args.written.now ∷ []) =
    subst (λ s. HasFields c.push.new.self (s ∷ [])) c.extent.ensures (c.push.ensures.fields [] c.new-fields.ensures) in
    subst (λ b. HasFields c.push.new.self (if b then shape_of (files_of c.args.sizes.now) (table_of c.args.sizes.now) c.args.written.now ∷ [] else [])) (sym yes) put
