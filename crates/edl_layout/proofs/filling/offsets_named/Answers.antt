use Rattle.std.proofs.lemmas.Result.{IfOk-weaker}
use Rattle.edl_layout.specs.Filled.{AreOffsets, HasOffsets}
use Rattle.edl_layout.specs.Meaning.{bare_meaning, HasShape}
use Rattle.edl_layout.specs.Shape.{Shape}
use Rattle.edl_layout.proofs.Pushing.{unmapped}
use Rattle.edl_layout.proofs.Covering.{offsets_declared, offsets_undeclared}
use Rattle.edl_layout.proofs.filling.offsets_named.Goals as goal

pub returns-in-Some : goal.returns-in-Some
returns-in-Some c =
    let g = c.args.types.now.gathered in
    let foreign = c.args.types.now.foreign in
    IfOk-weaker c.offsets_of.result (AreOffsets g foreign c.in-Some.decl.now) (λ o. (s : Shape) → HasShape g foreign (bare_meaning g foreign c.args.name.now) s → HasOffsets g foreign (bare_meaning g foreign c.args.name.now) o)
    (λ o h s. offsets_declared g foreign c.args.name.now o c.in-Some.decl.now s c.in-Some.ensures h) c.offsets_of.ensures

pub returns-in-None : goal.returns-in-None
returns-in-None c s has = offsets_undeclared c.args.types.now.gathered c.args.types.now.foreign c.args.name.now c.new.result (unmapped _ _ c.in-None.ensures) c.new.ensures
