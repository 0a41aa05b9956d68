use Rattle.std.proofs.Common.{refl}
use Rattle.std.specs.Prelude.{nat_lt}
use Rattle.edl_layout.specs.Faults.{max_frame}
use Rattle.edl_layout.proofs.FrameTests.{is_frame_test}
use Rattle.edl_layout.proofs.frames.is_frame_too_large.Goals as goal

pub returns-in-Some : goal.returns-in-Some
returns-in-Some c file =
    is_frame_test c.args.types.now.gathered c.args.types.now.foreign (record { file = file; is_trusted = c.args.is_trusted; decl = c.args.decl.now }) c.in-Some.ends c.size.result (nat_lt max_frame c.size.result)
    c.in-Some.ensures c.size.ensures refl
