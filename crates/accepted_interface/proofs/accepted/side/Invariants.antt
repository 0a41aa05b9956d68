use Rattle.std.proofs.Common.{◌≡◌, map, take}
use Rattle.attr_terms.specs.Accepted.{function_of}
use Rattle.attr_terms.specs.Sizing.{files_of, table_of}
use Rattle.attr_terms.specs.Taken.{function_in}
use Rattle.accepted_interface.proofs.accepted.side.Given as goal

abbrev pub invariant-loop-f : goal.invariant-loop-f
invariant-loop-f l = l.done ≡ map (function_of (files_of l.sizes) (table_of l.sizes)) (map function_in (take l.f-index l.taken))
