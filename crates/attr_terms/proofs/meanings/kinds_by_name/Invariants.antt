use Rattle.std.proofs.Common.{◌≡◌, ℕ, List, take, None}
use Rattle.std.specs.Prelude.{fold}
use Rattle.attr_terms.specs.Kinds as kinds
use Rattle.attr_terms.proofs.meanings.kinds_by_name.Given as goal

abbrev pub invariant-loop-file : goal.invariant-loop-file
invariant-loop-file l = (q : List ℕ) → kinds.told l.table q ≡ fold (λ k f. fold (kinds.with_decl q) k f.tree.types) None (take l.file-index l.file-items)
