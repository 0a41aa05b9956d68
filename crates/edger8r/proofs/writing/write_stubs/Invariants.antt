use Rattle.std.proofs.Common.{Result, drop, map}
use Rattle.sgx_base.specs.Stores.{FilesState}
use Rattle.sgx_base.specs.declared.files.FileFault.{FileFault}
use Rattle.edger8r.specs.Made.{Writes, stub_of}
use Rattle.edger8r.proofs.writing.write_stubs.Given as goal

abbrev pub invariant-loop-stub : goal.invariant-loop-stub
invariant-loop-stub g l =
    (after : FilesState) (result : Result (Unit {0}) FileFault)
    → Writes (map (stub_of l.printed.gathered.now l.printed.interface.now l.printed.options.now) (drop l.stub-index l.stubs)) (g.F.Files.state l.files) after result
    → Writes (map (stub_of l.printed.gathered.now l.printed.interface.now l.printed.options.now) l.stubs) (g.F.Files.state l.initial.files) after result
