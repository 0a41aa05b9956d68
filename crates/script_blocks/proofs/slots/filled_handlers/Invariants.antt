use Rattle.std.proofs.Common.{◌≡◌, List, length, map}
use Rattle.std.specs.List.{AllByRecursion}
use Rattle.call_script.specs.declared.HostAct.{HostAct}
use Rattle.script_blocks.specs.Blocks.{home_line, AreInPlace}
use Rattle.script_blocks.specs.Acts.{Fits}
use Rattle.script_blocks.specs.Slots.{empty_slots, filled_handlers}
use Rattle.script_blocks.proofs.slots.filled_handlers.Given as goal

abbrev pub invariant-loop-left : goal.invariant-loop-left
invariant-loop-left l = record {
  rest :
      filled_handlers l.source.interface.now (map home_line l.source.lines.now) l.slots.items (map home_line l.left)
      ≡ filled_handlers l.source.interface.now (map home_line l.source.lines.now)
      (empty_slots (List HostAct) l.source.interface.now.ocalls) (map home_line l.source.lines.now);
  fits : AllByRecursion Fits (map home_line l.left);
  placed : AreInPlace (map home_line l.source.lines.now) (map home_line l.left);
}

abbrev pub decreases-loop-left : goal.decreases-loop-left
decreases-loop-left l = length l.left
