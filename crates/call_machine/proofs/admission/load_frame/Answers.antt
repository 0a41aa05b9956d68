use Rattle.std.proofs.Common.{length}
use Rattle.enclave_memory.proofs.Blocks.{pushed_block}
use Rattle.call_machine.proofs.FrameBlock.{IsWrittenPush, written_push, push_grown, push_size, push_taken}
use Rattle.call_machine.proofs.admission.load_frame.Goals as goal

pub fetch_range-requires-clause-live : goal.fetch_range-requires-clause-live
fetch_range-requires-clause-live g c = (length c.args.frames.now.blocks, _, pushed_block c.args.frames.now c.push_block.new.self c.in-Some.block _ c.in-Some.ensures.pushed)

pub returns-in_err-fetch_range-clause-least : goal.returns-in_err-fetch_range-clause-least
returns-in_err-fetch_range-clause-least g c =
    push_taken c.args.frames.now c.push_block.new.self c.fetch_range.new.arena c.in-Some.block c.args.size c.in-Some.ensures.pushed c.requires.small
    (written_push c.args.frames.now c.push_block.new.self c.fetch_range.new.arena c.in-Some.block _ c.in-Some.ensures.pushed c.fetch_range.ensures.kept)

pub returns-in_err-fetch_range-clause-size : goal.returns-in_err-fetch_range-clause-size
returns-in_err-fetch_range-clause-size g c =
    push_size c.args.frames.now c.fetch_range.new.arena c.in-Some.block
    (written_push c.args.frames.now c.push_block.new.self c.fetch_range.new.arena c.in-Some.block _ c.in-Some.ensures.pushed c.fetch_range.ensures.kept)

pub returns-clause-grown : goal.returns-clause-grown
returns-clause-grown g c =
    push_grown c.args.frames.now c.fetch_range.new.arena c.in-Some.block
    (written_push c.args.frames.now c.push_block.new.self c.fetch_range.new.arena c.in-Some.block _ c.in-Some.ensures.pushed c.fetch_range.ensures.kept)

pub returns-clause-least : goal.returns-clause-least
returns-clause-least g c =
    push_taken c.args.frames.now c.push_block.new.self c.fetch_range.new.arena c.in-Some.block c.args.size c.in-Some.ensures.pushed c.requires.small
    (written_push c.args.frames.now c.push_block.new.self c.fetch_range.new.arena c.in-Some.block _ c.in-Some.ensures.pushed c.fetch_range.ensures.kept)

pub returns-clause-size : goal.returns-clause-size
returns-clause-size g c =
    push_size c.args.frames.now c.fetch_range.new.arena c.in-Some.block
    (written_push c.args.frames.now c.push_block.new.self c.fetch_range.new.arena c.in-Some.block _ c.in-Some.ensures.pushed c.fetch_range.ensures.kept)
