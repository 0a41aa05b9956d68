use Rattle.std.proofs.Common.{◌≡◌, ℕ, List, drop}
use Rattle.std.specs.Str.{bytes_eq}
use Rattle.std.specs.Map.{lookup}
use denote.Ref.{Bor}
use Rattle.edl_layout.specs.Named.{seen, is_under, first_from}
use Rattle.edl_layout.proofs.tables.put_types.Given as goal

abbrev pub invariant-loop-i : goal.invariant-loop-i
invariant-loop-i l =
    (name : Bor (List ℕ)) → lookup (λ k. bytes_eq name.now k.now) l.table.entries ≡ first_from (λ t. is_under l.fn.tag name.now (seen t)) l.i (drop l.i l.types)
