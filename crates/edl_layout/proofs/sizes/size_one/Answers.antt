use Rattle.std.proofs.Common.{List, refl, subst}
use Rattle.edl_layout.specs.declared.sizes.TypeSize.{TypeSize}
use Rattle.edl_layout.specs.Sizes.{WaitsFor, HasFound}
use Rattle.edl_layout.proofs.Sweeping.{set_found, fewer_wait}
use Rattle.edl_layout.proofs.sizes.size_one.Goals as goal

pub returns-in-Some : goal.returns-in-Some
returns-in-Some c =
    let found = subst (λ (zs : List TypeSize). HasFound c.args.tables.now.gathered.now c.args.tables.now.foreign.now zs c.args.number c.in-Some.size) c.as_slice.ensures c.in-Some.ensures in
    record {
      sizes = rw c.set.ensures (set_found c.args.tables.now.gathered.now c.args.tables.now.foreign.now c.args.sizes.now c.args.number c.in-Some.size c.requires.sizes c.requires.within found);
      fewer = λ _. rw c.set.ensures (fewer_wait c.args.tables.now.gathered.now c.args.tables.now.foreign.now c.args.sizes.now c.args.number c.in-Some.size found.waiting found.apart);
      same = λ e. absurd cc;
      waits = λ e. absurd cc;
    }

pub returns-in-None : goal.returns-in-None
returns-in-None c = record {
  sizes = c.requires.sizes;
  fewer = λ e. absurd cc;
  same = λ _. refl;
  waits = λ _. subst (λ (zs : List TypeSize). WaitsFor c.args.tables.now.gathered.now c.args.tables.now.foreign.now zs c.args.number) c.as_slice.ensures c.in-None.ensures;
}
