use Rattle.std.proofs.Common.{refl}
use Rattle.call_machine.proofs.EntryParts.{IsJustEntered, just_entered, frame_mapped, lies_grown, left_again, is_admitted, is_refused, is_cut}
use Rattle.call_machine.proofs.PlainMachines.{ecall_of}
use Rattle.call_machine.proofs.admission.admit_checked.Goals as goal

pub take_copies-requires-clause-mapped : goal.take_copies-requires-clause-mapped
take_copies-requires-clause-mapped g c =
    frame_mapped c.args.machine.now.script.settings.host c.args.address c.args.function.now
    (ecall_of c.args.machine.now c.requires.machine c.args.ordinal c.args.function.now c.requires.found) c.requires.frame

pub take_copies-requires-clause-small : goal.take_copies-requires-clause-small
take_copies-requires-clause-small g c = (ecall_of c.args.machine.now c.requires.machine c.args.ordinal c.args.function.now c.requires.found).frame

pub take_copies-requires-clause-few : goal.take_copies-requires-clause-few
take_copies-requires-clause-few g c = (ecall_of c.args.machine.now c.requires.machine c.args.ordinal c.args.function.now c.requires.found).few

pub returns-in-Ok-clause-ok : goal.returns-in-Ok-clause-ok
returns-in-Ok-clause-ok g c =
    let just : IsJustEntered c.args.tcs.now _ c.args.ordinal c.enter_stack-marks.result =
    just_entered c.args.tcs.now c.enter_stack-marks.new.tcs _ c.args.ordinal c.enter_stack-marks.result c.tcs.view_is c.enter_stack-marks.ensures.lies
    c.enter_stack-marks.ensures.frames c.enter_stack-marks.ensures.arena c.enter_stack-marks.ensures.waits in
    is_admitted c.args.tcs.now _ c.args.ordinal c.enter_stack-marks.result just c.args.machine.now c.requires.machine c.args.address c.args.function.now c.requires.found c.requires.entry c.requires.frame
    c.take_copies.new.frames c.take_copies.new.arena _ _ c.in-Ok.fields c.in-Ok.blocks.items _ refl refl refl c.in-Ok.ensures.ok

pub returns-in-Err-Refused-clause-err : goal.returns-in-Err-Refused-clause-err
returns-in-Err-Refused-clause-err g c =
    let just : IsJustEntered c.args.tcs.now _ c.args.ordinal c.enter_stack-marks.result =
    just_entered c.args.tcs.now c.enter_stack-marks.new.tcs _ c.args.ordinal c.enter_stack-marks.result c.tcs.view_is c.enter_stack-marks.ensures.lies
    c.enter_stack-marks.ensures.frames c.enter_stack-marks.ensures.arena c.enter_stack-marks.ensures.waits in
    let refused = rw c.in-Err-Refused.field-0-is at c.in-Err-Refused.ensures.err in (
      is_refused c.args.tcs.now _ c.args.ordinal c.enter_stack-marks.result just c.args.machine.now c.requires.machine c.args.address c.args.function.now c.requires.found c.requires.entry c.requires.frame _ _ c.in-Err-Refused.status refused.0,
      left_again c.args.tcs.now _ c.args.ordinal c.enter_stack-marks.result just _
          (c.leave_stack.ensures c.args.tcs.now c.args.ordinal
          (lies_grown c.args.tcs.now _ c.args.ordinal c.enter_stack-marks.result just c.take_copies.new.frames c.take_copies.new.arena refused.1 refused.2)),
    )

pub returns-in-Err-Full-clause-err : goal.returns-in-Err-Full-clause-err
returns-in-Err-Full-clause-err g c =
    let just : IsJustEntered c.args.tcs.now _ c.args.ordinal c.enter_stack-marks.result =
    just_entered c.args.tcs.now c.enter_stack-marks.new.tcs _ c.args.ordinal c.enter_stack-marks.result c.tcs.view_is c.enter_stack-marks.ensures.lies
    c.enter_stack-marks.ensures.frames c.enter_stack-marks.ensures.arena c.enter_stack-marks.ensures.waits in
    is_cut c.args.tcs.now _ c.args.ordinal c.enter_stack-marks.result just c.args.machine.now c.requires.machine c.args.address c.args.function.now c.requires.found c.requires.entry c.requires.frame _ _ c.in-Err-Full.full
    (rw c.in-Err-Full.field-0-is at c.in-Err-Full.ensures.err)
