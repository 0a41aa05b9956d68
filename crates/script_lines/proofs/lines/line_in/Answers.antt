use Rattle.std.proofs.Common.{◌∷◌, sym, ◌∙◌, ap}
use Rattle.script_lines.specs.Tables.{setting_line}
use Rattle.script_lines.proofs.ScopeLaws.{no_words, closing, setting_first, own_else}
use Rattle.script_lines.proofs.lines.line_in.Goals as goal

pub returns-in_default : goal.returns-in_default
returns-in_default c = sym (no_words _ _ c.in_default.ensures.0)

pub returns-then-closes : goal.returns-then-closes
returns-then-closes c = sym (closing _ _ _ _ c.in-Some.ensures (sym c.closes.ensures ∙ c.if-closes.true))

pub returns-in-Some-setting_line : goal.returns-in-Some-setting_line
returns-in-Some-setting_line c =
    sym (setting_first _ _ _ _ c.in-Some.ensures _ (sym c.closes.ensures ∙ c.if-closes.false)
    (c.in-Some-setting_line.ensures ∙ ap (λ ws. setting_line (c.in-Some.word.now ∷ ws)) c.again.ensures))

pub returns : goal.returns
returns c =
    c.own_line.ensures
    ∙ sym (own_else _ _ _ _ c.in-Some.ensures (sym c.closes.ensures ∙ c.if-closes.false)
    (c.in_default-setting_line.ensures ∙ ap (λ ws. setting_line (c.in-Some.word.now ∷ ws)) c.again.ensures))
