use Rattle.std.proofs.Common.{replicate, length}
use Rattle.std.proofs.lemmas.List.{length-replicate}
use Rattle.body_vm.proofs.PlaceLaws.{IsPlaced, placed, write_changed, null_changed}
use Rattle.body_vm.proofs.blocks.fill.Goals as goal

pub returns-in_default : goal.returns-in_default
returns-in_default c = λ numbers held. null_changed c.args.arena.now c.args.blocks.now.items numbers c.args.place (λ bytes. replicate (length bytes) c.args.byte) held c.in_default.ensures

pub fill_block-requires : goal.fill_block-requires
fill_block-requires c =
    let (numbers, held) = c.requires.held in
    let p : IsPlaced c.args.arena.now numbers c.args.place c.in-Some.block = placed c.args.arena.now c.args.blocks.now.items numbers c.args.place c.in-Some.block held.numbered c.in-Some.ensures in
    (p.number, p.bytes, p.block_is)

pub returns : goal.returns
returns c = λ numbers held.
    let p : IsPlaced c.args.arena.now numbers c.args.place c.in-Some.block = placed c.args.arena.now c.args.blocks.now.items numbers c.args.place c.in-Some.block held.numbered c.in-Some.ensures in
    write_changed c.args.arena.now c.fill_block.new.arena c.args.blocks.now.items numbers c.args.place c.in-Some.block (λ bytes. replicate (length bytes) c.args.byte) p held
    (c.fill_block.ensures p.number p.bytes p.block_is) (length-replicate (length p.bytes) c.args.byte)
