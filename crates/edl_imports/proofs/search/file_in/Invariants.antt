use Rattle.std.proofs.Common.{◌≡◌, Option, Result, drop}
use Rattle.std.specs.Prelude.{IfSome}
use Rattle.sgx_base.specs.Stores.{AreOnlyRead}
use Rattle.edl_imports.specs.ComeTo.{Asks}
use Rattle.edl_imports.specs.Search.{first_file, in_directories}
use Rattle.edl_imports.specs.declared.faults.Stop.{Stop}
use Rattle.edl_imports.specs.declared.search.Found.{Found}
use Rattle.edl_imports.proofs.search.file_in.Given as goal

abbrev pub invariant-loop-path : goal.invariant-loop-path
invariant-loop-path g l = record {
  kept : AreOnlyRead (g.F.Files.state l.initial.files) (g.F.Files.state l.files);
  same : IfSome (g.F.Files.state l.initial.files).contents (λ store. first_file store l.read (in_directories (drop l.path-index l.paths) l.text) ≡ first_file store l.read (in_directories l.paths l.text));
  asked : (result : Result (Option Found) Stop) → Asks (g.F.Files.state l.initial.files).contents (in_directories (drop l.path-index l.paths) l.text) result
      → Asks (g.F.Files.state l.initial.files).contents (in_directories l.paths l.text) result;
}
