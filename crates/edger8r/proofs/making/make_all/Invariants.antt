use Rattle.std.proofs.Common.{drop}
use Rattle.sgx_base.specs.Stores.{FilesState}
use Rattle.edger8r.specs.declared.ending.Ending.{Ending}
use Rattle.edger8r.specs.Made.{MakesAll}
use Rattle.edger8r.proofs.making.make_all.Given as goal

abbrev pub invariant-loop-name : goal.invariant-loop-name
invariant-loop-name g l =
    (after : FilesState) (ending : Ending)
    → MakesAll l.choices (drop l.name-index l.names) (g.F.Files.state l.files) after ending
    → MakesAll l.choices l.names (g.F.Files.state l.initial.files) after ending
