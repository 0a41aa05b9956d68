use Rattle.std.proofs.Common.{sym}
use Rattle.enclave_memory.specs.Memory.{room_of}
use Rattle.call_machine.proofs.CopyResults.{stop_maps}
use Rattle.call_machine.proofs.EntryParts.{copy_refused, copies_cut, copies_taken}
use Rattle.call_machine.proofs.Maps.{ok_both, err_maps}
use Rattle.call_machine.proofs.admission.copy_allowed.Goals as goal

pub returns-clause-ok : goal.returns-clause-ok
returns-clause-ok g c =
    ok_both c.copy_params.result _ _ _
    (λ blocks copied grown. copies_taken c.args.machine.now c.args.ordinal c.args.address c.args.function.now c.args.fields.now (sym c.in_default.ensures)
    c.args.arena.now c.copy_params.new.arena _ _ blocks.items copied grown) c.copy_params.ensures.ok c.copy_params.ensures.grown

pub returns-clause-err : goal.returns-clause-err
returns-clause-err g c =
    err_maps c.copy_params.result _ _
    (λ stop p. stop_maps stop _ _ _ _
    (λ status q. (copy_refused c.args.machine.now (room_of c.args.arena.now) c.args.ordinal c.args.address c.args.function.now c.args.fields.now (sym c.in_default.ensures) _ _ status q.0, q.1))
    (λ full q. copies_cut c.args.machine.now (room_of c.args.arena.now) c.args.ordinal c.args.address c.args.function.now c.args.fields.now (sym c.in_default.ensures) _ _ full q) p)
    c.copy_params.ensures.err
