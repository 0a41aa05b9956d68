use Rattle.std.proofs.Common.{Some, Ok, Err, sym}
use Rattle.enclave_memory.specs.Memory.{room_of}
use Rattle.call_machine.proofs.CopyResults.{copy_made, copy_full, stop_maps}
use Rattle.call_machine.proofs.marshalling.copy_param.Goals as goal

pub returns-in-Ok-clause-ok : goal.returns-in-Ok-clause-ok
returns-in-Ok-clause-ok g c = record {
  bytes = Some c.in-Ok.ensures.ok.0;
  pushed = c.in-Ok.ensures.ok.2;
  made = copy_made c.args.function.now c.args.fields.now (room_of c.args.arena.now) c.args.param.now c.shape_of.result c.address-address.result c.in-Some.length
      c.shape_of.ensures c.address-address.ensures (sym c.in-Some.ensures.1) c.if-length-eq0.false _ _ (Ok c.in-Ok.ensures.ok.0) c.in-Ok.ensures.ok.1;
}

pub returns-in-Err-clause-err : goal.returns-in-Err-clause-err
returns-in-Err-clause-err g c =
    stop_maps c.in-Err.stop _ _ _ _
    (λ status p. (
      copy_made c.args.function.now c.args.fields.now (room_of c.args.arena.now) c.args.param.now c.shape_of.result c.address-address.result c.in-Some.length
          c.shape_of.ensures c.address-address.ensures (sym c.in-Some.ensures.1) c.if-length-eq0.false _ _ (Err status) p.0,
      p.1,
    ))
    (λ full p. (
      p.0,
      copy_full c.args.function.now c.args.fields.now (room_of c.args.arena.now) c.args.param.now c.shape_of.result c.address-address.result c.in-Some.length
          c.shape_of.ensures c.address-address.ensures (sym c.in-Some.ensures.1) c.if-length-eq0.false _ _ p.1,
    ))
    c.in-Err.ensures.err
