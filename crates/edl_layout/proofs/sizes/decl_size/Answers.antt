use Rattle.std.proofs.Common.{List, subst}
use Rattle.edl_grammar.specs.declared.Declared.{Declared}
use Rattle.edl_layout.specs.Sizes.{AreMembers}
use Rattle.edl_layout.proofs.Together.{structure_next, union_next, enumeration_next}
use Rattle.edl_layout.proofs.sizes.decl_size.Goals as goal

pub returns-in-Enumeration : goal.returns-in-Enumeration
returns-in-Enumeration c = λ file. rw c.in-Enumeration.is (enumeration_next c.args.tables.now.gathered.now c.args.tables.now.foreign.now file c.in-Enumeration.token c.in-Enumeration.name c.in-Enumeration.values c.square.result c.square.ensures)

pub returns-in-Structure : goal.returns-in-Structure
returns-in-Structure c = λ file.
    rw (c.in-Structure.is, c.structure_size.ensures)
    (structure_next c.args.tables.now.gathered.now c.args.tables.now.foreign.now c.args.sizes.now file c.in-Structure.token c.in-Structure.name c.in-Structure.members c.members_size.result
    (subst (λ (ms : List Declared). AreMembers c.args.tables.now.gathered.now c.args.tables.now.foreign.now c.args.sizes.now ms c.members_size.result) c.as_slice.ensures c.members_size.ensures))

pub returns-in-Union : goal.returns-in-Union
returns-in-Union c = λ file.
    rw (c.in-Union.is, c.union_size.ensures)
    (union_next c.args.tables.now.gathered.now c.args.tables.now.foreign.now c.args.sizes.now file c.in-Union.token c.in-Union.name c.in-Union.members c.members_size-in-Union.result
    (subst (λ (ms : List Declared). AreMembers c.args.tables.now.gathered.now c.args.tables.now.foreign.now c.args.sizes.now ms c.members_size-in-Union.result) c.as_slice-in-Union.ensures c.members_size-in-Union.ensures))
