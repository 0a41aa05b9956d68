use Rattle.std.proofs.Common.{[]}
use Rattle.edl_layout.proofs.FieldLists.{ends-push, ends-append, offsets_from-push}
use Rattle.edl_layout.proofs.extents.ends_of_fields.Goals as goal

pub returns-clause-ends : goal.returns-clause-ends
returns-clause-ends c ss = ends-append [] ss

pub returns-clause-more : goal.returns-clause-more
returns-clause-more c ss s = ends-push ss s

pub returns-clause-offsets : goal.returns-clause-offsets
returns-clause-offsets c ss s = offsets_from-push 0 ss s
