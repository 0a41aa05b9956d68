use Rattle.std.proofs.Common.{arith, sym, ◌∙◌, ap, length}
use Rattle.script_faults.proofs.BodyLaws.{body-taken, body-ended, onto-close, onto-other}
use Rattle.script_faults.proofs.body_ahead.next_in_body.Goals as goal

pub returns-then-is_close-clause-value : goal.returns-then-is_close-clause-value
returns-then-is_close-clause-value c =
    sym c.loop-line.invariant.same
    ∙ body-taken _ _ _ _ _ c.in-Some.ensures c.in-Some-line_in.ensures
    ∙ onto-close _ _ (sym c.is_close.ensures ∙ c.if-is_close.true)

pub returns-else-is_close-clause-value : goal.returns-else-is_close-clause-value
returns-else-is_close-clause-value c =
    sym c.loop-line.invariant.same
    ∙ body-taken _ _ _ _ _ c.in-Some.ensures c.in-Some-line_in.ensures
    ∙ onto-other _ _ (sym c.is_close.ensures ∙ c.if-is_close.false)

pub returns-clause-value : goal.returns-clause-value
returns-clause-value c = sym c.loop-line.invariant.same ∙ body-ended _ _ c.in_default.ensures.0

pub loop-line-preserved : goal.loop-line-preserved
loop-line-preserved c = record {
  same =
      sym (body-taken _ _ _ _ _ c.in-Some.ensures c.in_default-line_in.ensures) ∙ c.loop-line.invariant.same;
  fewer = omega (arith, ap length c.in-Some.ensures, c.loop-line.invariant.fewer);
}
