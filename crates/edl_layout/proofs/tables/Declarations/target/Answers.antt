use Rattle.std.proofs.Common.{sym}
use Rattle.edl_layout.proofs.Naming.{declared_tagged, undeclared_tagged}
use Rattle.edl_layout.proofs.tables.Declarations.target.Goals as goal

pub returns-in-Some : goal.returns-in-Some
returns-in-Some c =
    rw (c.in-Tagged.is, ← c.bytes-in-Tagged.ensures) (declared_tagged c.args.self.now.gathered.now c.args.self.now.foreign.now c.in-Tagged.tag c.bytes-in-Tagged.result.now c.in-Some.number (sym c.in-Some.ensures))

pub returns-in-None : goal.returns-in-None
returns-in-None c =
    rw (c.in-Tagged.is, ← c.bytes-in-Tagged.ensures) (undeclared_tagged c.args.self.now.gathered.now c.args.self.now.foreign.now c.in-Tagged.tag c.bytes-in-Tagged.result.now (sym c.in-None.ensures))
