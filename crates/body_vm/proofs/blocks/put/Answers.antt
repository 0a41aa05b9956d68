use Rattle.std.proofs.Common.{◌≤◌, slice_set, length, arith}
use Rattle.std.proofs.lemmas.List.{length-set, set_past}
use Rattle.body_vm.proofs.PlaceLaws.{IsPlaced, placed, write_changed, same_changed, null_changed}
use Rattle.body_vm.proofs.blocks.put.Goals as goal

pub returns-in_default : goal.returns-in_default
returns-in_default c = λ numbers held. null_changed c.args.arena.now c.args.blocks.now.items numbers c.args.place (λ bytes. slice_set bytes c.args.at c.args.byte) held c.in_default.ensures

pub write_byte-requires-clause-live : goal.write_byte-requires-clause-live
write_byte-requires-clause-live c =
    let (numbers, held) = c.requires.held in
    let p : IsPlaced c.args.arena.now numbers c.args.place c.in-Some.block = placed c.args.arena.now c.args.blocks.now.items numbers c.args.place c.in-Some.block held.numbered c.in-Some.ensures in
    (p.number, p.bytes, p.block_is)

pub returns-then-at-from : goal.returns-then-at-from
returns-then-at-from c = λ numbers held.
    let p : IsPlaced c.args.arena.now numbers c.args.place c.in-Some.block = placed c.args.arena.now c.args.blocks.now.items numbers c.args.place c.in-Some.block held.numbered c.in-Some.ensures in
    write_changed c.args.arena.now c.write_byte.new.arena c.args.blocks.now.items numbers c.args.place c.in-Some.block (λ bytes. slice_set bytes c.args.at c.args.byte) p held
    (c.write_byte.ensures p.number p.bytes p.block_is) (length-set p.bytes c.args.at c.args.byte)

pub returns-else-at-from : goal.returns-else-at-from
returns-else-at-from c = λ numbers held.
    let p : IsPlaced c.args.arena.now numbers c.args.place c.in-Some.block = placed c.args.arena.now c.args.blocks.now.items numbers c.args.place c.in-Some.block held.numbered c.in-Some.ensures in
    let past : length p.bytes ≤ c.args.at = omega (arith, c.if-at-from.false, c.from.ensures, p.block_is.length_is) in
    same_changed c.args.arena.now c.args.blocks.now.items numbers c.args.place c.in-Some.block (λ bytes. slice_set bytes c.args.at c.args.byte) p held (set_past p.bytes c.args.at c.args.byte past)
