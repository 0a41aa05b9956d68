use Rattle.std.proofs.Common.{◌≤◌, length, arith}
use Rattle.edl_grammar.specs.Files.{types_of}
use Rattle.edl_layout.specs.Meaning.{is_named}
use Rattle.edl_layout.proofs.Covering.{grows_same, grows_on, covers_none, covers_next, covers_all}
use Rattle.edl_layout.proofs.filling.add_declared.Goals as goal

pub loop-number-init : goal.loop-number-init
loop-number-init c =
    let g = c.args.types.now.gathered in
    let foreign = c.args.types.now.foreign in
    (grows_same g foreign c.args.table.now, covers_none g foreign is_named (types_of g) c.args.table.now)

pub loop-number-preserved : goal.loop-number-preserved
loop-number-preserved c =
    let g = c.args.types.now.gathered in
    let foreign = c.args.types.now.foreign in
    let grows = c.in_ok-add_numbered.ensures.grows in (
      grows_on g foreign c.args.table.now c.loop-number.table c.add_numbered.new.table c.loop-number.invariant.0 grows,
      covers_next g foreign is_named (types_of g) c.loop-number.number c.loop-number.table c.add_numbered.new.table grows c.in_ok-add_numbered.ensures.covers c.loop-number.invariant.1,
    )

pub returns-clause-grows : goal.returns-clause-grows
returns-clause-grows c = c.loop-number.invariant.0

pub returns-clause-covers : goal.returns-clause-covers
returns-clause-covers c =
    let g = c.args.types.now.gathered in
    let high : length (types_of g) ≤ c.loop-number.number = omega arith in
    covers_all g c.args.types.now.foreign is_named (types_of g) c.loop-number.number c.loop-number.table high c.loop-number.invariant.1
