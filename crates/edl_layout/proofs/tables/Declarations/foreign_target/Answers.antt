use Rattle.std.proofs.Common.{ap, sym}
use Rattle.std.specs.Prelude.{true, false}
use Rattle.edl_layout.specs.Targets.{fixed_shape}
use Rattle.edl_layout.proofs.Naming.{foreign_known, foreign_there, foreign_unknown}
use Rattle.edl_layout.proofs.tables.Declarations.foreign_target.Goals as goal

pub returns-in-Some-get : goal.returns-in-Some-get
returns-in-Some-get c = ap fixed_shape (foreign_known c.args.self.now.gathered.now c.args.self.now.foreign.now c.args.name.now c.in-Some.number c.in-Some-get.t.now (sym c.in-Some.ensures) (sym c.in-Some-get.ensures.value))

pub returns-in-None-get : goal.returns-in-None-get
returns-in-None-get c = absurd (foreign_there c.args.self.now.gathered.now c.args.self.now.foreign.now c.args.name.now c.in-Some.number (sym c.in-Some.ensures) (sym c.in-None-get.ensures.value))

pub returns-in-None : goal.returns-in-None
returns-in-None c = foreign_unknown c.args.self.now.gathered.now c.args.self.now.foreign.now c.args.name.now true (sym c.in-None.ensures) c.if-self.true

pub returns-in-None-2 : goal.returns-in-None-2
returns-in-None-2 c = foreign_unknown c.args.self.now.gathered.now c.args.self.now.foreign.now c.args.name.now false (sym c.in-None.ensures) c.if-self.false
