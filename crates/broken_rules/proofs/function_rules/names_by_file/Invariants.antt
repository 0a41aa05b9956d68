use Rattle.std.proofs.Common.{take}
use Rattle.broken_rules.specs.Names.{TellEach}
use Rattle.broken_rules.proofs.function_rules.names_by_file.Given as goal

abbrev pub invariant-loop-file : goal.invariant-loop-file
invariant-loop-file l = TellEach l.names.items (take l.file-index l.files)
