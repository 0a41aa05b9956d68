use Rattle.std.proofs.Common.{rules}
use Rattle.sample_script.proofs.OneMore.{calls_more}
use Rattle.sample_script.proofs.append_calls.Goals as goal

pub loop-place-preserved : goal.loop-place-preserved
loop-place-preserved c =
    calls_more c.loop-place.place c.loop-place.number c.args.calls c.next_number-number.result c.loop-place.text.items c.as_bytes.result.now c.extend_from_slice.new.self.items _
    c.loop-place-test.true c.next_number-number.ensures.number (search rules) (search rules) c.loop-place.invariant
