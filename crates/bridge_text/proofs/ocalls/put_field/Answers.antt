use Rattle.std.proofs.Common.{◌≡◌, false, sym, ◌∙◌}
use Rattle.edl_layout.specs.Frame.{has}
use Rattle.bridge_text.proofs.ocalls.put_field.Goals as goal

pub returns-else-has : goal.returns-else-has
returns-else-has c =
    let other : has "user_check" c.args.p.now ≡ false = sym c.has.ensures ∙ c.if-has.false in rw other c.put_of_param-else-has.ensures
