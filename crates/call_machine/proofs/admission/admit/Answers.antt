use Rattle.std.proofs.Common.{sym, subst}
use Rattle.bridge_program.specs.Entry.{MayEnter}
use Rattle.call_machine.specs.Tcs.{TcsState, context_of}
use Rattle.call_machine.proofs.CopyResults.{stop_maps}
use Rattle.call_machine.proofs.Maps.{err_maps}
use Rattle.call_machine.proofs.PlainMachines.{may_try}
use Rattle.call_machine.proofs.RefusedLoads.{refused_only}
use Rattle.call_machine.proofs.admission.admit.Goals as goal

pub entry_check-requires : goal.entry_check-requires
entry_check-requires g c =
    may_try c.args.machine.now c.requires.machine _ (subst (λ (t : TcsState). MayEnter c.args.machine.now.interface t.stack) (sym c.tcs.view_is) c.requires.stack)

pub returns-clause-refused : goal.returns-clause-refused
returns-clause-refused g c =
    err_maps c.admit_checked.result _ _
    (λ stop p. stop_maps stop _ _ _ _ (λ status q. refused_only c.args.machine.now (context_of c.args.tcs.now) c.args.ordinal c.args.address _ _ status q.0) (λ full q. tt) p) c.admit_checked.ensures.err
