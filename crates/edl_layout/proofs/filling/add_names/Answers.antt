use Rattle.std.proofs.Common.{List, ℕ, []}
use Rattle.std.specs.Str.{bytes_eq}
use denote.Ref.{Bor}
use Rattle.std.proofs.lemmas.Option.{same_Some, slice_get-get_or}
use Rattle.std.proofs.Common.{◌∙◌, sym, ap, get_or}
use Rattle.edl_layout.proofs.Covering.{grows_same, grows_on, covers_none, covers_next, covers_all, covers_name}
use Rattle.edl_layout.proofs.filling.add_names.Goals as goal

pub loop-i-init : goal.loop-i-init
loop-i-init c =
    let g = c.args.types.now.gathered in
    let foreign = c.args.types.now.foreign in
    (grows_same g foreign c.args.table.now, covers_none g foreign (λ name (n : Bor (List ℕ)). bytes_eq n.now name) c.args.names.now c.args.table.now)

pub loop-i-preserved : goal.loop-i-preserved
loop-i-preserved c =
    let g = c.args.types.now.gathered in
    let foreign = c.args.types.now.foreign in
    let none : Bor (List ℕ) = record { ref_ptr = (0, 0); now = [] } in
    let grows = c.in_ok-add.ensures.grows in (
      grows_on g foreign c.args.table.now c.loop-i.table c.add.new.table c.loop-i.invariant.0 grows,
      covers_next g foreign (λ name (n : Bor (List ℕ)). bytes_eq n.now name) c.args.names.now c.loop-i.i c.loop-i.table c.add.new.table grows
          (λ x name at named. covers_name g foreign c.add.new.table (get_or c.args.names.now c.loop-i.i none).now name
          (ap (λ (n : Bor (List ℕ)). bytes_eq n.now name) (same_Some _ x (sym (slice_get-get_or c.args.names.now c.loop-i.i none c.loop-i-test.true) ∙ at)) ∙ named)
          c.in_ok-add.ensures.covers)
          c.loop-i.invariant.1,
    )

pub returns-clause-grows : goal.returns-clause-grows
returns-clause-grows c = c.loop-i.invariant.0

pub returns-clause-covers : goal.returns-clause-covers
returns-clause-covers c =
    covers_all c.args.types.now.gathered c.args.types.now.foreign (λ name (n : Bor (List ℕ)). bytes_eq n.now name) c.args.names.now c.loop-i.i c.loop-i.table c.loop-i-test.false c.loop-i.invariant.1
