use Rattle.std.proofs.Common.{ℕ, List, [], ◌≢◌, ◌∙◌, ap, sym, subst, inl, inr, None, unwrap_or, slice_get, slice_set}
use Rattle.body_vm.specs.State.{overlay}
use Rattle.body_vm.specs.Places.{blocks_in, IsChanged}
use Rattle.body_vm.proofs.PlaceLaws.{IsPlaced, placed, place_cases, places_apart, read_bytes, read_none, write_changed, same_changed, null_changed}
use Rattle.body_vm.proofs.WriteLaws.{length_overlay, overlay_self, overlay_none}
use Rattle.body_vm.proofs.blocks.copy.Goals as goal

pub returns-then-place-source : goal.returns-then-place-source
returns-then-place-source c = λ numbers held.
    let read : ℕ → List ℕ = λ place. unwrap_or (unwrap_or (slice_get (blocks_in c.args.arena.now numbers) place) None) [] in
    let change : ℕ → List ℕ → List ℕ = λ place bytes. overlay bytes (read place) in
    let same : IsChanged c.args.arena.now c.args.arena.now c.args.blocks.now.items numbers c.args.place (change c.args.place) =
    elim (place_cases c.args.blocks.now.items c.args.place c.requires.within) as (λ _. IsChanged c.args.arena.now c.args.arena.now c.args.blocks.now.items numbers c.args.place (change c.args.place)) [
      | inl none ↦ null_changed c.args.arena.now c.args.blocks.now.items numbers c.args.place (change c.args.place) held none
      | inr there ↦
          let p : IsPlaced c.args.arena.now numbers c.args.place there.0 = placed c.args.arena.now c.args.blocks.now.items numbers c.args.place there.0 held.numbered there.1 in
          same_changed c.args.arena.now c.args.blocks.now.items numbers c.args.place there.0 (change c.args.place) p held
          (ap (λ bytes. overlay p.bytes bytes) (read_bytes c.args.arena.now numbers c.args.place there.0 p) ∙ overlay_self p.bytes)
    ] in
    subst (λ place. IsChanged c.args.arena.now c.args.arena.now c.args.blocks.now.items numbers c.args.place (change place)) c.if-place-source.true same

pub returns-in_default : goal.returns-in_default
returns-in_default c = λ numbers held. null_changed c.args.arena.now c.args.blocks.now.items numbers c.args.place _ held c.in_default.ensures

pub returns-in_default-block_at : goal.returns-in_default-block_at
returns-in_default-block_at c = λ numbers held.
    let p : IsPlaced c.args.arena.now numbers c.args.place c.in-Some.to = placed c.args.arena.now c.args.blocks.now.items numbers c.args.place c.in-Some.to held.numbered c.in-Some.ensures in
    same_changed c.args.arena.now c.args.blocks.now.items numbers c.args.place c.in-Some.to _ p held
    (ap (λ bytes. overlay p.bytes bytes) (read_none c.args.arena.now c.args.blocks.now.items numbers c.args.source held.numbered c.in_default-block_at.ensures) ∙ overlay_none p.bytes)

pub copy_block-requires : goal.copy_block-requires
copy_block-requires c =
    let (numbers, held) = c.requires.held in
    let p : IsPlaced c.args.arena.now numbers c.args.place c.in-Some.to = placed c.args.arena.now c.args.blocks.now.items numbers c.args.place c.in-Some.to held.numbered c.in-Some.ensures in
    let q : IsPlaced c.args.arena.now numbers c.args.source c.in-Some-block_at.from = placed c.args.arena.now c.args.blocks.now.items numbers c.args.source c.in-Some-block_at.from held.numbered c.in-Some-block_at.ensures in
    (p.number, q.number, p.bytes, q.bytes, p.block_is, q.block_is, places_apart numbers c.args.place c.args.source p.number q.number held.apart c.if-place-source.false p.found q.found)

pub returns : goal.returns
returns c = λ numbers held.
    let p : IsPlaced c.args.arena.now numbers c.args.place c.in-Some.to = placed c.args.arena.now c.args.blocks.now.items numbers c.args.place c.in-Some.to held.numbered c.in-Some.ensures in
    let q : IsPlaced c.args.arena.now numbers c.args.source c.in-Some-block_at.from = placed c.args.arena.now c.args.blocks.now.items numbers c.args.source c.in-Some-block_at.from held.numbered c.in-Some-block_at.ensures in
    let apart : p.number ≢ q.number = places_apart numbers c.args.place c.args.source p.number q.number held.apart c.if-place-source.false p.found q.found in
    write_changed c.args.arena.now c.copy_block.new.arena c.args.blocks.now.items numbers c.args.place c.in-Some.to _ p held
    (c.copy_block.ensures p.number q.number p.bytes q.bytes p.block_is q.block_is apart
    ∙ ap (λ bytes. record c.args.arena.now { blocks = slice_set c.args.arena.now.blocks p.number (overlay p.bytes bytes) }) (sym (read_bytes c.args.arena.now numbers c.args.source c.in-Some-block_at.from q)))
    (length_overlay p.bytes _)
