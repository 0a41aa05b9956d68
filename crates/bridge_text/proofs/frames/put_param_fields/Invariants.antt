use Rattle.std.proofs.Common.{◌≡◌, ◌++◌, take}
use Rattle.std.specs.Prelude.{flat_map}
use Rattle.bridge_text.specs.Bridges.{field_text}
use Rattle.bridge_text.proofs.frames.put_param_fields.Given as goal

abbrev pub invariant-loop-p : goal.invariant-loop-p
invariant-loop-p l = l.out.items ≡ l.initial.out.items ++ flat_map (field_text l.is_trusted) (take l.p-index l.f.params)
