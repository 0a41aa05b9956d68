use Rattle.std.proofs.Common.{◌≡◌, ℕ, List, take}
use Rattle.std.specs.Prelude.{fold}
use Rattle.attr_terms.specs.Kinds as kinds
use Rattle.attr_terms.proofs.meanings.mark_types.Given as goal

abbrev pub invariant-loop-decl : goal.invariant-loop-decl
invariant-loop-decl l = (q : List ℕ) → kinds.told l.table q ≡ fold (kinds.with_decl q) (kinds.told l.initial.table q) (take l.decl-index l.decls)
