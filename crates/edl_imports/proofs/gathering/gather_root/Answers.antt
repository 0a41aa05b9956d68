use Rattle.std.proofs.Common.{rules}
use Rattle.edl_imports.proofs.Coming.{conflict_result}
use Rattle.edl_imports.proofs.Turns.{not_gathered, conflict_stops, no_conflict}
use Rattle.edl_imports.proofs.gathering.gather_root.Goals as goal

pub returns-in_err-gathered-clause-err : goal.returns-in_err-gathered-clause-err
returns-in_err-gathered-clause-err g c =
    let h = not_gathered c.args.paths.now c.args.root.now (g.F.Files.state c.args.files.now) (g.F.Files.state c.gather_all.new.files) c.in_err-gathered.field-0.0 c.in_err-gathered.ensures.err in
    search rules

pub returns-clause-ok : goal.returns-clause-ok
returns-clause-ok g c =
    no_conflict c.args.paths.now c.args.root.now (g.F.Files.state c.args.files.now).contents c.in_ok-gathered.gathered c.unless_conflict.result c.in_ok-gathered.ensures.ok c.unless_conflict.ensures.ok

pub returns-clause-err : goal.returns-clause-err
returns-clause-err g c =
    conflict_stops c.args.paths.now c.args.root.now (g.F.Files.state c.args.files.now) (g.F.Files.state c.gather_all.new.files) c.in_ok-gathered.gathered c.unless_conflict.result c.in_ok-gathered.ensures.ok c.unless_conflict.ensures.err

pub returns-clause-named : goal.returns-clause-named
returns-clause-named g c =
    conflict_result (g.F.Files.state c.args.files.now).contents c.args.paths.now c.args.root.now c.in_ok-gathered.gathered c.unless_conflict.result c.in_ok-gathered.ensures.read c.unless_conflict.ensures.err
