use Rattle.std.proofs.Common.{rules, ℕ, ◌+◌, ◌≡◌, ◌==◌, true, false, Some, refl, sym, subst, arith}
use Rattle.std.proofs.lemmas.Result.{err_from_is_err_and}
use Rattle.word_port.specs.declared.Side.TheVariants.{Pool}
use Rattle.word_port.specs.Interaction.{ret}
use Rattle.word_port.specs.Accesses.{cas}
use Rattle.word_port.specs.Runs.{Makes}
use Rattle.switchless.specs.Slots.{offered_word}
use Rattle.switchless.specs.Caller.{offer}
use Rattle.switchless.proofs.LoopLaws.{offer_more, offer_won, offer_none, offer_full, made_at, full_at, has_slots_on}
use Rattle.switchless.proofs.caller.offer.Goals as goal

pub returns-in_err-cas-clause-full : goal.returns-in_err-cas-clause-full
returns-in_err-cas-clause-full g c =
    let p = err_from_is_err_and c.from_residual.result c.from_residual.ensures.1 in
    let word : ℕ = offered_word c.args.ordinal c.args.frame in
    rw (p.1, p.2) (
      c.in_err-cas.ensures.full.0,
      offer_full c.args.pool.now.from c.args.pool.now.slots word c.loop-place.place _ _ _ c.loop-place.invariant.0 c.loop-place-test.true
          (full_at c.slot_at.result (c.args.pool.now.from + c.loop-place.place) c.word.result word _ _ c.slot_at.ensures.slot c.word.ensures c.in_err-cas.ensures.full.1),
    )

pub returns-then-branch-eq0-clause-ok : goal.returns-then-branch-eq0-clause-ok
returns-then-branch-eq0-clause-ok g c =
    let word : ℕ = offered_word c.args.ordinal c.args.frame in
    let won : (c.in_ok-cas.field-0 == 0) ≡ true = search rules in (
      subst (λ n. Makes (offer c.args.pool.now.from c.args.pool.now.slots word) (g.P.WordPort.state c.args.port.now) (g.P.WordPort.state c.cas.new.port) (Some n)) (sym c.slot_at.ensures.slot)
          (offer_won c.args.pool.now.from c.args.pool.now.slots word c.loop-place.place c.in_ok-cas.field-0 _ _ _ c.loop-place.invariant.0 c.loop-place-test.true
          (made_at c.slot_at.result (c.args.pool.now.from + c.loop-place.place) c.word.result word c.in_ok-cas.field-0 _ _ c.slot_at.ensures.slot c.word.ensures c.in_ok-cas.ensures.ok) won),
      refl,
      refl,
    )

pub loop-place-preserved : goal.loop-place-preserved
loop-place-preserved g c =
    let word : ℕ = offered_word c.args.ordinal c.args.frame in
    let lost : (c.in_ok-cas.field-0 == 0) ≡ false = search rules in (
      offer_more c.args.pool.now.from c.args.pool.now.slots word c.loop-place.place c.in_ok-cas.field-0 _ _ _ c.loop-place.invariant.0 c.loop-place-test.true
          (made_at c.slot_at.result (c.args.pool.now.from + c.loop-place.place) c.word.result word c.in_ok-cas.field-0 _ _ c.slot_at.ensures.slot c.word.ensures c.in_ok-cas.ensures.ok) lost,
      has_slots_on (cas Pool c.slot_at.result 0 c.word.result) (ret c.in_ok-cas.field-0) c.args.pool.now _ _ c.in_ok-cas.ensures.ok c.loop-place.invariant.1,
    )

pub returns-clause-ok : goal.returns-clause-ok
returns-clause-ok g c =
    let e : c.loop-place.place ≡ c.args.pool.now.slots = omega (arith, c.loop-place-test.false, c.loop-place.auto.place-end) in
    offer_none c.args.pool.now.from c.args.pool.now.slots (offered_word c.args.ordinal c.args.frame) c.loop-place.place _ _ c.loop-place.invariant.0 e
