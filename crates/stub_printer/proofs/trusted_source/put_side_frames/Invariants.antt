use Rattle.std.proofs.Common.{◌≡◌, ◌++◌, map, take}
use Rattle.std.specs.Prelude.{flat_map}
use Rattle.bridge_text.specs.Bridges.{frame_if_any}
use Rattle.stub_printer.proofs.trusted_source.put_side_frames.Given as goal

abbrev pub invariant-loop-f : goal.invariant-loop-f
invariant-loop-f l =
    l.out.items ≡ l.initial.out.items ++ flat_map (frame_if_any l.is_trusted) (map (λ f. f.now) (take l.f-index l.functions))
