use Rattle.std.proofs.Common.{List, length, ◌∙◌, sym, ap, subst}
use Rattle.std.specs.Str.{bytes_eq}
use Rattle.std.proofs.lemmas.Option.{same_Some, slice_get-get_or}
use Rattle.edl_layout.specs.declared.ForeignType.{ForeignType}
use Rattle.edl_layout.specs.Filled.{CoversFirst}
use Rattle.edl_layout.proofs.Covering.{grows_same, grows_on, covers_none, covers_next, covers_all, covers_name}
use Rattle.edl_layout.proofs.filling.add_foreign.Goals as goal

pub loop-foreign-init : goal.loop-foreign-init
loop-foreign-init c =
    let g = c.args.types.now.gathered in
    let foreign = c.args.types.now.foreign in
    (grows_same g foreign c.args.table.now, covers_none g foreign (λ name (t : ForeignType). bytes_eq t.name name) c.foreign_types-foreign-items.result.now c.args.table.now)

pub loop-foreign-preserved : goal.loop-foreign-preserved
loop-foreign-preserved c =
    let g = c.args.types.now.gathered in
    let foreign = c.args.types.now.foreign in
    let items = c.foreign_types-foreign-items.result.now in
    let grows = c.in_ok-add.ensures.grows in (
      grows_on g foreign c.args.table.now c.loop-foreign.table c.add.new.table c.loop-foreign.invariant.0 grows,
      covers_next g foreign (λ name (t : ForeignType). bytes_eq t.name name) items c.loop-foreign.foreign-index c.loop-foreign.table c.add.new.table grows
          (λ x name at named. covers_name g foreign c.add.new.table c.bytes.result.now name
          (ap (λ n. bytes_eq n name) c.bytes.ensures ∙ ap (λ (t : ForeignType). bytes_eq t.name name) (c.foreign-item.is ∙ same_Some _ x (sym (slice_get-get_or items c.loop-foreign.foreign-index c.foreign-item.result c.loop-foreign-test.true) ∙ at)) ∙ named)
          c.in_ok-add.ensures.covers)
          c.loop-foreign.invariant.1,
    )

pub returns-clause-grows : goal.returns-clause-grows
returns-clause-grows c = c.loop-foreign.invariant.0

pub returns-clause-covers : goal.returns-clause-covers
returns-clause-covers c =
    let g = c.args.types.now.gathered in
    let foreign = c.args.types.now.foreign in
    subst (λ (ts : List ForeignType). CoversFirst g foreign (λ name t. bytes_eq t.name name) ts (length ts) c.loop-foreign.table) c.foreign_types-foreign-items.ensures
    (covers_all g foreign (λ name (t : ForeignType). bytes_eq t.name name) c.foreign_types-foreign-items.result.now c.loop-foreign.foreign-index c.loop-foreign.table c.loop-foreign-test.false c.loop-foreign.invariant.1)
