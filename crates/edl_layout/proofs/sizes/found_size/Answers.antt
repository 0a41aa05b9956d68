use Rattle.std.proofs.Common.{sym, ◌∙◌, subst}
use Rattle.std.proofs.lemmas.Option.{same_Some}
use Rattle.edl_grammar.specs.declared.TypeDecl.{TypeDecl}
use Rattle.edl_layout.specs.declared.sizes.TypeSize.TheVariants as size
use Rattle.edl_layout.specs.Sizes.{IsNextSize}
use Rattle.edl_layout.proofs.Sweeping.{found_next}
use Rattle.edl_layout.proofs.sizes.found_size.Goals as goal

pub returns-in-Waiting : goal.returns-in-Waiting
returns-in-Waiting c =
    rw c.unless_waiting.ensures
    (found_next c.args.tables.now.gathered.now c.args.tables.now.foreign.now c.args.sizes.now c.args.number c.decl_size.result c.in-Waiting.ensures
    (λ t at. subst (λ (d : TypeDecl). IsNextSize c.args.tables.now.gathered.now c.args.tables.now.foreign.now c.args.sizes.now (record { file = t.file; decl = d }) c.decl_size.result) (sym (c.decl_at.ensures t at)) (c.decl_size.ensures t.file)))

pub returns-in_default : goal.returns-in_default
returns-in_default c = λ t at waits. absurd (c.in_default.not-Waiting (same_Some c.size_at.result size.Waiting (sym c.size_at.ensures ∙ waits)))
