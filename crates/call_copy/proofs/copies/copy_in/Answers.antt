use Rattle.std.proofs.Common.{rules, ◌≡◌, ◌≤◌, true, false, Err, length, sym, ◌∙◌, arith}
use Rattle.sgx_base.specs.Texts.{terminated_text}
use Rattle.enclave_memory.specs.Memory.{room_of, IsPush}
use Rattle.enclave_memory.proofs.Blocks.{pushed_block, push_mark, push_popped}
use Rattle.call_copy.proofs.CopyLaws.{plain_stopped}
use Rattle.call_copy.proofs.TextLaws.{IsEnded, unit_fits, ended_push, text_copied}
use Rattle.call_copy.proofs.copies.copy_in.Goals as goal

pub returns-in-Err-clause-err : goal.returns-in-Err-clause-err
returns-in-Err-clause-err g c = plain_stopped (Err c.in-Err.stop) c.args.shape c.args.at c.args.length (room_of c.args.arena.now) _ _ _ _ c.in-Err.ensures.err

pub end_text-requires-clause-live : goal.end_text-requires-clause-live
end_text-requires-clause-live g c =
    (length c.args.arena.now.blocks, c.in-Ok.ensures.ok.2.0, pushed_block c.args.arena.now c.first_block.new.arena c.in-Ok.block c.in-Ok.ensures.ok.2.0 c.in-Ok.ensures.ok.2.2)

pub end_text-requires-clause-fits : goal.end_text-requires-clause-fits
end_text-requires-clause-fits g c =
    let f : c.args.shape.unit ≤ c.in-Ok.block.length = (let u = unit_fits c.args.shape.unit c.args.length c.in-Ok.ensures.whole c.requires.some in omega (arith, u.1, c.in-Ok.ensures.ok.1)) in
    f

pub pop_to-requires : goal.pop_to-requires
pop_to-requires g c =
    let f : c.args.shape.unit ≤ c.in-Ok.block.length = (let u = unit_fits c.args.shape.unit c.args.length c.in-Ok.ensures.whole c.requires.some in omega (arith, u.1, c.in-Ok.ensures.ok.1)) in
    let q : IsEnded c.args.shape.unit c.in-Ok.block c.first_block.new.arena c.end_text.new.arena true = record { set = c.end_text.ensures.set; found = λ number old is. sym c.if-end_text.true ∙ c.end_text.ensures.early number old is } in
    let p : IsPush c.args.arena.now c.end_text.new.arena c.in-Ok.block (terminated_text c.args.shape.unit c.in-Ok.ensures.ok.2.0) = ended_push c.args.shape.unit c.in-Ok.block c.args.arena.now c.first_block.new.arena c.end_text.new.arena true c.in-Ok.ensures.ok.2.0 q f c.in-Ok.ensures.ok.2.2 in
    (length c.args.arena.now.blocks, c.mark-mark.ensures ∙ push_mark c.args.arena.now c.end_text.new.arena c.in-Ok.block (terminated_text c.args.shape.unit c.in-Ok.ensures.ok.2.0) p)

pub returns-then-end_text-clause-err : goal.returns-then-end_text-clause-err
returns-then-end_text-clause-err g c =
    let t : c.args.shape.text ≡ true = search rules in
    let f : c.args.shape.unit ≤ c.in-Ok.block.length = (let u = unit_fits c.args.shape.unit c.args.length c.in-Ok.ensures.whole c.requires.some in omega (arith, u.1, c.in-Ok.ensures.ok.1)) in
    let q : IsEnded c.args.shape.unit c.in-Ok.block c.first_block.new.arena c.end_text.new.arena true = record { set = c.end_text.ensures.set; found = λ number old is. sym c.if-end_text.true ∙ c.end_text.ensures.early number old is } in
    let p : IsPush c.args.arena.now c.end_text.new.arena c.in-Ok.block (terminated_text c.args.shape.unit c.in-Ok.ensures.ok.2.0) = ended_push c.args.shape.unit c.in-Ok.block c.args.arena.now c.first_block.new.arena c.end_text.new.arena true c.in-Ok.ensures.ok.2.0 q f c.in-Ok.ensures.ok.2.2 in (
      text_copied c.args.shape c.args.at c.args.length (room_of c.args.arena.now) c.in-Ok.block c.args.arena.now c.first_block.new.arena c.end_text.new.arena _ _ true t c.in-Ok.ensures.ok.0 c.in-Ok.ensures.ok.2.0 c.in-Ok.ensures.ok.2.1 c.in-Ok.ensures.ok.2.2 q,
      push_popped c.args.arena.now c.end_text.new.arena c.pop_to.new.self c.in-Ok.block (terminated_text c.args.shape.unit c.in-Ok.ensures.ok.2.0) p (λ k h e. c.pop_to.ensures k h (c.mark-mark.ensures ∙ e)),
    )

pub returns-clause-ok : goal.returns-clause-ok
returns-clause-ok g c =
    let t : c.args.shape.text ≡ true = search rules in
    let f : c.args.shape.unit ≤ c.in-Ok.block.length = (let u = unit_fits c.args.shape.unit c.args.length c.in-Ok.ensures.whole c.requires.some in omega (arith, u.1, c.in-Ok.ensures.ok.1)) in
    let q : IsEnded c.args.shape.unit c.in-Ok.block c.first_block.new.arena c.end_text.new.arena false = record { set = c.end_text.ensures.set; found = λ number old is. sym c.if-end_text.false ∙ c.end_text.ensures.early number old is } in
    let p : IsPush c.args.arena.now c.end_text.new.arena c.in-Ok.block (terminated_text c.args.shape.unit c.in-Ok.ensures.ok.2.0) = ended_push c.args.shape.unit c.in-Ok.block c.args.arena.now c.first_block.new.arena c.end_text.new.arena false c.in-Ok.ensures.ok.2.0 q f c.in-Ok.ensures.ok.2.2 in
    (terminated_text c.args.shape.unit c.in-Ok.ensures.ok.2.0, text_copied c.args.shape c.args.at c.args.length (room_of c.args.arena.now) c.in-Ok.block c.args.arena.now c.first_block.new.arena c.end_text.new.arena _ _ false t c.in-Ok.ensures.ok.0 c.in-Ok.ensures.ok.2.0 c.in-Ok.ensures.ok.2.1 c.in-Ok.ensures.ok.2.2 q, p)
