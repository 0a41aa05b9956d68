use Rattle.std.proofs.Common.{◌≡◌, ◌+◌, ◌-◌, arith}
use Rattle.call_machine.proofs.HostFrames.{number_written}
use Rattle.call_machine.proofs.arguments.put_number.Goals as goal

pub returns : goal.returns
returns c =
    let size : (c.args.at + c.args.size) - c.args.at ≡ c.args.size = omega arith in
    number_written c.args.at ((c.args.at + c.args.size) - c.args.at) c.args.size c.args.number c.args.frame.now c.copy_from_slice.new.self c.little_endian_bytes-bytes.result size c.copy_from_slice.ensures.after c.little_endian_bytes-bytes.ensures c.requires.few
