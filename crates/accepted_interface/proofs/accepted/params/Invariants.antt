use Rattle.std.proofs.Common.{List, drop}
use Rattle.std.specs.Prelude.{Option}
use Rattle.edl_layout.specs.Shape.{Shape}
use Rattle.accepted_interface.specs.Fields.{HasFields}
use Rattle.attr_terms.specs.Sizing.{files_of, table_of}
use Rattle.accepted_interface.proofs.ParamLaws.{IsRead}
use Rattle.accepted_interface.proofs.accepted.params.Given as goal

abbrev pub invariant-loop-p : goal.invariant-loop-p
invariant-loop-p l = (before : List (Option Shape)) → HasFields l.fn.fields before → IsRead (files_of l.sizes) (table_of l.sizes) l.is_trusted l.declared before l.fields l.done (drop l.p-index l.declared)
