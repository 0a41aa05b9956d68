use Rattle.std.proofs.Common.{sym, ◌∙◌}
use Rattle.script_lines.proofs.ArgumentLaws.{at_mark, at_close, at_comma, at_other}
use Rattle.script_lines.proofs.arguments.pass_some.Goals as goal

pub returns-then-is_mark_word : goal.returns-then-is_mark_word
returns-then-is_mark_word c =
    sym c.loop-argument.invariant
    ∙ at_mark _ _ _ c.in-Some.ensures (sym c.is_mark_word.ensures ∙ c.if-is_mark_word.true)

pub returns-then-same : goal.returns-then-same
returns-then-same c =
    sym c.loop-argument.invariant
    ∙ at_close _ _ _ c.in-Some.ensures _ _ c.in-Some-next.ensures
    (sym c.is_mark_word.ensures ∙ c.if-is_mark_word.false) (sym c.same.ensures ∙ c.if-same.true)

pub returns-then-not-same : goal.returns-then-not-same
returns-then-not-same c =
    sym c.loop-argument.invariant
    ∙ at_other _ _ _ c.in-Some.ensures _ _ c.in-Some-next.ensures
    (sym c.is_mark_word.ensures ∙ c.if-is_mark_word.false) (sym c.same.ensures ∙ c.if-same.false)
    (sym c.same-in-Some.ensures ∙ c.if-not-same.true)

pub loop-argument-preserved : goal.loop-argument-preserved
loop-argument-preserved c =
    sym (at_comma _ _ _ c.in-Some.ensures _ _ c.in-Some-next.ensures
    (sym c.is_mark_word.ensures ∙ c.if-is_mark_word.false) (sym c.same.ensures ∙ c.if-same.false)
    (sym c.same-in-Some.ensures ∙ c.if-not-same.false))
    ∙ c.loop-argument.invariant
