use Rattle.std.proofs.Common.{◌≡◌, true, false, sym, ◌∙◌}
use Rattle.edl_layout.specs.Frame.{has}
use Rattle.bridge_text.proofs.ecalls.put_text_end.Goals as goal

pub returns-then-is_wide : goal.returns-then-is_wide
returns-then-is_wide c =
    let wide : has "wstring" c.args.p.now ≡ true = sym c.is_wide.ensures ∙ c.if-is_wide.true in rw wide c.put_of_param.ensures

pub returns-else-is_wide : goal.returns-else-is_wide
returns-else-is_wide c =
    let wide : has "wstring" c.args.p.now ≡ false = sym c.is_wide.ensures ∙ c.if-is_wide.false in
    rw wide c.put_of_param-else-is_wide.ensures
