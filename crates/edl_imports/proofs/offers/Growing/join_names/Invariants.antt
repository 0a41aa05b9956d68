use Rattle.std.proofs.Common.{◌≡◌, take}
use Rattle.edl_imports.specs.ByName.{with_all_under}
use Rattle.edl_imports.specs.Tables.{IsTold, AreJoined}
use Rattle.edl_imports.proofs.offers.Growing.join_names.Given as goal

abbrev pub invariant-loop-name : goal.invariant-loop-name
invariant-loop-name l = record {
  both : l.self.offer ≡ with_all_under l.offered l.initial.self.offer (take l.name-index l.names);
  told : IsTold l.self;
  joined : AreJoined l.seen l.offered l.self.offer;
}
