use Rattle.std.proofs.Common.{rules, refl, ◌%◌}
use Rattle.sample_script.proofs.OneMore.{bytes_more}
use Rattle.sample_script.proofs.first_bytes.Goals as goal

pub loop-place-preserved : goal.loop-place-preserved
loop-place-preserved c =
    bytes_more c.loop-place.place 512 (c.loop-place.place % 256) c.loop-place.bytes.items c.push.new.self.items _ c.loop-place-test.true refl (search rules) c.loop-place.invariant
