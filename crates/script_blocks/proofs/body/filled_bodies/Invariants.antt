use Rattle.std.proofs.Common.{◌≡◌, ◌≤◌, length, map}
use Rattle.std.specs.List.{AllByRecursion}
use Rattle.sgx_base.specs.Stores.{max_file_size}
use Rattle.body_vm.specs.declared.Body.{Body}
use Rattle.script_blocks.specs.Blocks.{home_line, AreInPlace}
use Rattle.script_blocks.specs.Acts.{Fits}
use Rattle.script_blocks.specs.Slots.{empty_slots}
use Rattle.script_blocks.specs.Bodies.{filled_bodies}
use Rattle.script_blocks.proofs.body.filled_bodies.Given as goal

abbrev pub invariant-loop-left : goal.invariant-loop-left
invariant-loop-left l = record {
  rest :
      filled_bodies l.source.interface.now (map home_line l.source.lines.now) l.slots.items (map home_line l.left)
      ≡ filled_bodies l.source.interface.now (map home_line l.source.lines.now)
      (empty_slots Body l.source.interface.now.ecalls) (map home_line l.source.lines.now);
  fits : AllByRecursion Fits (map home_line l.left);
  placed : AreInPlace (map home_line l.source.lines.now) (map home_line l.left);
  few : length (map home_line l.left) ≤ max_file_size;
}

abbrev pub decreases-loop-left : goal.decreases-loop-left
decreases-loop-left l = length l.left
