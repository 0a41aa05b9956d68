use Rattle.std.proofs.Common.{◌≡◌, ◌++◌, take}
use Rattle.std.specs.Prelude.{flat_map}
use Rattle.bridge_text.specs.Types.{type_lines}
use Rattle.bridge_text.proofs.types.put_types.Given as goal

abbrev pub invariant-loop-file : goal.invariant-loop-file
invariant-loop-file l = l.out.items ≡ l.initial.out.items ++ flat_map (λ f. flat_map type_lines f.tree.types) (take l.file-index l.gathered.files)
