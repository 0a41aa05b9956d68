use Rattle.std.proofs.Common.{sym, ◌∙◌}
use Rattle.script_lines.proofs.ShapeLaws.{no_brace}
use Rattle.script_lines.proofs.shapes.opens.Goals as goal

pub returns-else-says : goal.returns-else-says
returns-else-says c =
    c.if-says.false
    ∙ sym (no_brace c.args.words.now c.in-Some.mark.now c.next.new.self c.in-Some.ensures
    (sym c.says.ensures ∙ c.if-says.false))
