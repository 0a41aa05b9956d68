use Rattle.std.proofs.Common.{ℕ, ◌+◌, ◌*◌, ◌≡◌, ◌≤◌, List, Option, drop, length}
use Rattle.std.specs.Prelude.{All, IfSome, Some, slice_get}
use Rattle.sgx_base.specs.Stores.{Store, AreOnlyRead}
use Rattle.edl_grammar.specs.declared.SourceFile.{SourceFile}
use Rattle.edl_imports.specs.ComeTo.{IsReached}
use Rattle.edl_imports.specs.Gathering as spec
use Rattle.edl_imports.specs.Gathering.{IsFront}
use Rattle.edl_imports.specs.Offers.{own}
use Rattle.edl_imports.specs.Tables.{IsTold}
use Rattle.edl_imports.proofs.gathering.+gathering.Given as goal

abbrev pub decreases-gather_file : goal.decreases-gather_file
decreases-gather_file g l = 3 * l.depth

abbrev pub decreases-reached : goal.decreases-reached
decreases-reached g l = 3 * l.depth + 1

abbrev pub decreases-import_all : goal.decreases-import_all
decreases-import_all g l = 3 * l.depth + 2

abbrev pub invariant-import_all-loop-index : goal.invariant-import_all-loop-index
invariant-import_all-loop-index g l = record {
  kept : AreOnlyRead (g.F.Files.state l.initial.files) (g.F.Files.state l.files);
  front : IsFront l.initial.progress.files l.progress.files;
  few : length l.progress.files ≤ 64;
  told : IsTold l.growing;
  come : (contents : Option Store) (root : List ℕ) → (g.F.Files.state l.initial.files).contents ≡ contents
      → All (IsReached contents l.paths root) l.initial.progress.files → All (IsReached contents l.paths root) l.progress.files;
  same : (source : SourceFile) → slice_get l.initial.progress.files l.number ≡ Some source
      → IfSome (g.F.Files.state l.initial.files).contents (λ store.
      spec.import_all store l.paths (spec.gather_within store l.paths l.depth) l.number source l.progress l.growing.offer (drop l.index source.tree.imports)
      ≡ spec.import_all store l.paths (spec.gather_within store l.paths l.depth) l.number source l.initial.progress (own l.number source.tree) source.tree.imports);
}
