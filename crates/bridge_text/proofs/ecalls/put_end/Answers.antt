use Rattle.std.proofs.Common.{◌≡◌, true, false, sym, ◌∙◌}
use Rattle.edl_layout.specs.Frame.{has}
use Rattle.bridge_text.specs.Bridges.{end_lines}
use Rattle.bridge_text.proofs.ecalls.put_end.Goals as goal

pub returns-then-is_wide : goal.returns-then-is_wide
unfolding end_lines
returns-then-is_wide c =
    let wide : has "wstring" c.args.p.now ≡ true = sym c.is_wide.ensures ∙ c.if-is_wide.true in rw wide c.put_of_param.ensures

pub returns-then-has : goal.returns-then-has
unfolding end_lines
returns-then-has c =
    let wide : has "wstring" c.args.p.now ≡ false = sym c.is_wide.ensures ∙ c.if-is_wide.false in
    let narrow : has "string" c.args.p.now ≡ true = sym c.has.ensures ∙ c.if-has.true in
    rw (wide, narrow) c.put_of_param-then-has.ensures
