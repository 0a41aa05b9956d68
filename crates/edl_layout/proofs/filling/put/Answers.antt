use Rattle.std.proofs.Common.{◌≡◌, List, ◌++◌, ◌∷◌, [], sym, subst}
use Rattle.std.proofs.lemmas.Result.{IfOk-weaker}
use Rattle.edl_layout.specs.declared.NamedShape.{NamedShape}
use Rattle.edl_layout.specs.Filled.{Grows, Covers, IsEntry}
use Rattle.edl_layout.specs.Ends.{shape_at}
use Rattle.edl_layout.proofs.Covering.{grows_by_one, covers_one}
use Rattle.edl_layout.proofs.filling.put.Goals as goal

pub returns-clause-grows : goal.returns-clause-grows
returns-clause-grows c =
    let g = c.args.types.now.gathered in
    let foreign = c.args.types.now.foreign in
    let e : NamedShape = record { name = c.args.name.now; size = c.args.extent.size; align = c.args.extent.align; offsets = c.in_ok-offsets.offsets } in
    let is : IsEntry g foreign c.args.name.now e = record { shape = c.requires.shape; offsets = c.in_ok-offsets.ensures (shape_at c.args.extent) c.requires.shape } in
    IfOk-weaker c.insert.result (λ _. c.insert.new.self ≡ c.args.table.now ++ e ∷ []) (λ _. Grows g foreign c.args.table.now c.insert.new.self)
    (λ _ same. subst (λ (t : List NamedShape). Grows g foreign c.args.table.now t) (sym same) (grows_by_one g foreign c.args.table.now e c.requires.missing is)) c.insert.ensures.ok

pub returns-clause-covers : goal.returns-clause-covers
returns-clause-covers c =
    let g = c.args.types.now.gathered in
    let foreign = c.args.types.now.foreign in
    let e : NamedShape = record { name = c.args.name.now; size = c.args.extent.size; align = c.args.extent.align; offsets = c.in_ok-offsets.offsets } in
    IfOk-weaker c.insert.result (λ _. c.insert.new.self ≡ c.args.table.now ++ e ∷ []) (λ _. Covers g foreign c.insert.new.self c.args.name.now)
    (λ _ same. subst (λ (t : List NamedShape). Covers g foreign t c.args.name.now) (sym same) (covers_one g foreign c.args.table.now e c.requires.missing)) c.insert.ensures.ok
