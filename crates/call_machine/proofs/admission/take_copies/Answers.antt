use Rattle.std.proofs.Common.{sym, ◌∙◌, subst, ℕ, List}
use Rattle.enclave_memory.specs.Memory.{room_of}
use Rattle.call_machine.specs.Admitted.{AreCopiesTaken, EntryLeads, EntryIsCut, loaded_by, refusal}
use Rattle.call_machine.proofs.CopyResults.{stop_maps}
use Rattle.call_machine.proofs.EntryParts.{frame_then, frame_cut, frame_then_cut, frame_taken}
use Rattle.call_machine.proofs.admission.take_copies.Goals as goal

pub returns-in-Err-clause-err : goal.returns-in-Err-clause-err
returns-in-Err-clause-err g c = frame_cut c.args.machine.now (room_of c.args.arena.now) c.args.ordinal c.args.address c.args.function.now _ _ c.in-Err.full c.in-Err.ensures.full

pub returns-in-Ok-copy_allowed-clause-ok : goal.returns-in-Ok-copy_allowed-clause-ok
returns-in-Ok-copy_allowed-clause-ok g c =
    let (fields, made, has) = c.in-Ok.ensures.ok in
    frame_taken c.args.machine.now (room_of c.args.arena.now) c.args.ordinal c.args.address c.args.function.now c.args.frames.now c.load_frame.new.frames c.args.arena.now c.copy_allowed.new.arena
    _ _ _ fields c.in-Ok.fields c.in-Ok-copy_allowed.blocks.items made has c.in-Ok.ensures.grown
    (subst (λ (b : List ℕ). AreCopiesTaken c.args.machine.now (loaded_by c.args.machine.now c.args.ordinal c.args.address c.args.function.now b) c.args.ordinal c.args.address c.args.function.now b
    c.args.arena.now c.copy_allowed.new.arena (g.P.WordPort.state c.load_frame.new.port) (g.P.WordPort.state c.copy_allowed.new.port) c.in-Ok-copy_allowed.blocks.items) (c.bytes_of-bytes.ensures fields has) c.in-Ok-copy_allowed.ensures.ok)

pub returns-in-Err-copy_allowed-clause-err : goal.returns-in-Err-copy_allowed-clause-err
returns-in-Err-copy_allowed-clause-err g c =
    let (fields, made, has) = c.in-Ok.ensures.ok in
    stop_maps c.in-Err-copy_allowed.stop _ _ _ _
    (λ status q. (
      frame_then c.args.machine.now (room_of c.args.arena.now) c.args.ordinal c.args.address c.args.function.now _ _ _ fields (refusal status) made
          (subst (λ (b : List ℕ). EntryLeads (loaded_by c.args.machine.now c.args.ordinal c.args.address c.args.function.now b) (room_of c.args.arena.now) (g.P.WordPort.state c.load_frame.new.port) (g.P.WordPort.state c.copy_allowed.new.port) (refusal status))
          (c.bytes_of-bytes.ensures fields has) q.0),
      c.in-Ok.ensures.grown,
      q.1,
    ))
    (λ full q.
    frame_then_cut c.args.machine.now (room_of c.args.arena.now) c.args.ordinal c.args.address c.args.function.now _ _ _ fields full made
    (subst (λ (b : List ℕ). EntryIsCut (loaded_by c.args.machine.now c.args.ordinal c.args.address c.args.function.now b) (room_of c.args.arena.now) (g.P.WordPort.state c.load_frame.new.port) (g.P.WordPort.state c.copy_allowed.new.port) full)
    (c.bytes_of-bytes.ensures fields has) q))
    c.in-Err-copy_allowed.ensures.err
