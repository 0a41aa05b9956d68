use Rattle.std.proofs.Common.{◌≤◌, ◌-◌, ◌∙◌, length, refl, ap, sym, subst, arith}
use Rattle.word_port.specs.Runs.{Leads}
use Rattle.word_port.proofs.Laws.{leads_nothing}
use Rattle.body_vm.specs.Moments.{moment, state_at, execution_at}
use Rattle.body_vm.proofs.PlaceLaws.{kept_same}
use Rattle.body_vm.proofs.RunLaws.{onward_then}
use Rattle.body_run.specs.Cells.{over_cells}
use Rattle.body_run.proofs.CellLaws.{IsCellStep, cell_within, cell_on, pauses_at}
use Rattle.body_run.proofs.run_on.Goals as goal

pub loop-kind-init : goal.loop-kind-init
loop-kind-init g c = record {
  next = c.requires.next;
  from = omega arith;
  count = refl;
  words = refl;
  host = refl;
  on = λ numbers held. (numbers, record { held = held; kept = kept_same c.args.arena.now numbers }, leads_nothing _ _);
}

pub make_step-found-requires-clause-word : goal.make_step-found-requires-clause-word
make_step-found-requires-clause-word g c =
    let (numbers, held) = c.requires.held in
    let (later, onward, led) = c.loop-kind.invariant.on numbers held in
    let (last, more, (into, is)) = c.in-Cell.ensures.need later onward.held in
    let at : IsCellStep ((g.P.WordPort.state c.args.port.now).words - c.args.first_word) _ = cell_within _ c.loop-kind.regs.next c.args.body.now.actions (state_at c.args.values.now.items (moment c.loop-kind.regs c.loop-kind.blocks.items c.loop-kind.arena) later) _ _ c.requires.cells is in
    omega (arith, at.within, c.loop-kind.invariant.words)

pub make_step-found-requires-clause-used : goal.make_step-found-requires-clause-used
make_step-found-requires-clause-used g c =
    let (numbers, held) = c.requires.held in
    let (later, onward, led) = c.loop-kind.invariant.on numbers held in
    let (last, more, (into, is)) = c.in-Cell.ensures.need later onward.held in
    let at : IsCellStep ((g.P.WordPort.state c.args.port.now).words - c.args.first_word) _ = cell_within _ c.loop-kind.regs.next c.args.body.now.actions (state_at c.args.values.now.items (moment c.loop-kind.regs c.loop-kind.blocks.items c.loop-kind.arena) later) _ _ c.requires.cells is in
    at.used

pub loop-kind-preserved : goal.loop-kind-preserved
loop-kind-preserved g c = record {
  next = subst (λ r. r.next ≤ length c.args.body.now.actions) (sym c.answer.ensures) c.in-Cell.ensures.next;
  from = subst (λ r. c.args.regs.now.next ≤ r.next) (sym c.answer.ensures) (omega (arith, c.loop-kind.invariant.from, c.in-Cell.ensures.further));
  count = c.in-Cell.ensures.count ∙ c.loop-kind.invariant.count;
  words = ap (λ p. p.words) c.make_step-found.ensures ∙ c.loop-kind.invariant.words;
  host = ap (λ p. p.host) c.make_step-found.ensures ∙ c.loop-kind.invariant.host;
  on = λ numbers held.
      let (later, onward, led) = c.loop-kind.invariant.on numbers held in
      let (last, more, (into, is)) = c.in-Cell.ensures.need later onward.held in (
        last,
        onward_then (moment c.args.regs.now c.args.blocks.now.items c.args.arena.now) (moment c.loop-kind.regs c.loop-kind.blocks.items c.loop-kind.arena) (moment c.answer.new.regs c.run_until.new.blocks.items c.run_until.new.arena) numbers later last onward record { held = more.held; kept = more.kept },
        subst (λ r. Leads (over_cells c.args.first_word (execution_at c.args.body.now.actions c.args.values.now.items c.args.regs.now c.args.blocks.now.items c.args.arena.now numbers)) (g.P.WordPort.state c.args.port.now) (g.P.WordPort.state c.make_step-found.new.port)
            (over_cells c.args.first_word (execution_at c.args.body.now.actions c.args.values.now.items r c.run_until.new.blocks.items c.run_until.new.arena last))) (sym c.answer.ensures)
            (cell_on c.args.first_word c.make_step-found.result _ _ _ _ _ _ _ led is c.make_step-found.ensures),
      );
}

pub returns-in-Ocall-clause-ok : goal.returns-in-Ocall-clause-ok
returns-in-Ocall-clause-ok g c = λ numbers held.
    let (later, onward, led) = c.loop-kind.invariant.on numbers held in
    let (last, more, need) = c.in-Ocall.ensures.need later onward.held in (
      last,
      onward_then (moment c.args.regs.now c.args.blocks.now.items c.args.arena.now) (moment c.loop-kind.regs c.loop-kind.blocks.items c.loop-kind.arena) (moment c.run_until.new.regs c.run_until.new.blocks.items c.run_until.new.arena) numbers later last onward record { held = more.held; kept = more.kept },
      pauses_at _ _ _ _ _ _ _ _ _ led need,
    )

pub returns-in-Done-clause-ok : goal.returns-in-Done-clause-ok
returns-in-Done-clause-ok g c = λ numbers held.
    let (later, onward, led) = c.loop-kind.invariant.on numbers held in
    let (last, more, need) = c.in-Done.ensures.need later onward.held in (
      last,
      onward_then (moment c.args.regs.now c.args.blocks.now.items c.args.arena.now) (moment c.loop-kind.regs c.loop-kind.blocks.items c.loop-kind.arena) (moment c.run_until.new.regs c.run_until.new.blocks.items c.run_until.new.arena) numbers later last onward record { held = more.held; kept = more.kept },
      pauses_at _ _ _ _ _ _ _ _ _ led need,
    )

pub returns-in-Ocall-clause-further : goal.returns-in-Ocall-clause-further
returns-in-Ocall-clause-further g c = omega (arith, c.loop-kind.invariant.from, c.in-Ocall.ensures.further)
