use Rattle.std.proofs.Common.{take}
use Rattle.edl_imports.specs.Tables.{TellsFiles}
use Rattle.edl_imports.proofs.conflicts.first_files.Given as goal

abbrev pub invariant-loop-known : goal.invariant-loop-known
invariant-loop-known l = TellsFiles l.table (take l.known-index l.all)
