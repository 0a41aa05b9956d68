use Rattle.std.proofs.Common.{ℕ, List, ◌∙◌, ap, sym, [], None, Option, unwrap_or}
use Rattle.body_vm.proofs.PlaceLaws.{IsPlaced, placed, null_place, bytes_in, block_bytes}
use Rattle.body_vm.proofs.blocks.bytes_of.Goals as goal

pub bytes-requires : goal.bytes-requires
bytes-requires c =
    let (numbers, held) = c.requires.held in
    let p : IsPlaced c.args.arena.now numbers c.args.place c.in-Some.block = placed c.args.arena.now c.args.blocks.now.items numbers c.args.place c.in-Some.block held.numbered c.in-Some.ensures in
    (p.number, p.bytes, p.block_is)

pub returns-in-Some-clause-bytes : goal.returns-in-Some-clause-bytes
returns-in-Some-clause-bytes c = λ numbers held.
    let p : IsPlaced c.args.arena.now numbers c.args.place c.in-Some.block = placed c.args.arena.now c.args.blocks.now.items numbers c.args.place c.in-Some.block held.numbered c.in-Some.ensures in
    c.bytes.ensures.bytes p.number p.bytes p.block_is
    ∙ sym (ap (λ (b : Option (Option (List ℕ))). unwrap_or (unwrap_or b None) []) (block_bytes c.args.arena.now numbers c.args.place c.in-Some.block p))

pub returns-in-None-clause-bytes : goal.returns-in-None-clause-bytes
returns-in-None-clause-bytes c = λ numbers held.
    sym (ap (λ (b : Option (Option (List ℕ))). unwrap_or (unwrap_or b None) [])
    (bytes_in c.args.arena.now numbers c.args.place None (null_place c.args.arena.now c.args.blocks.now.items numbers c.args.place held.numbered c.in-None.ensures)))
