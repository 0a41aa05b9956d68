use Rattle.std.proofs.Common.{◌≡◌, ◌++◌, map, take}
use Rattle.bridge_text.specs.Template.{seen, filled_lines}
use Rattle.bridge_text.proofs.templates.put_lines.Given as goal

abbrev pub invariant-loop-template : goal.invariant-loop-template
invariant-loop-template l =
    l.out.items ≡ l.initial.out.items ++ filled_lines (map seen l.places) (map (λ t. t.now) (take l.template-index l.templates))
