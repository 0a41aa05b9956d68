use Rattle.std.proofs.Common.{rules}
use Rattle.edl_imports.proofs.Coming.{root_named, root_missing}
use Rattle.edl_imports.proofs.gathering.root_file.Goals as goal

pub returns-in_err-file-clause-named : goal.returns-in_err-file-clause-named
returns-in_err-file-clause-named g c = λ paths.
    let h = root_named (g.F.Files.state c.args.files.now).contents paths c.args.root.now (g.F.Files.state c.args.files.now) (g.F.Files.state c.read_new.new.files)
    c.in_err-file.field-0.0 c.in_err-file.ensures.err c.in_err-file.ensures.named in
    search rules

pub returns-in-None-clause-named : goal.returns-in-None-clause-named
returns-in-None-clause-named g c = λ paths.
    root_missing (g.F.Files.state c.args.files.now).contents paths c.args.root.now c.as_bytes.result.now c.fault_of.result c.as_bytes.ensures.value c.fault_of.ensures
