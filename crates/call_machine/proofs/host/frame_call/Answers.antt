use Rattle.std.proofs.Common.{ℕ, ◌≡◌, ◌≤◌, ◌∙◌, refl, sym, arith}
use Rattle.std.proofs.lemmas.List.{take-replicate}
use Rattle.std.proofs.lemmas.Result.{err_from_is_err_and}
use Rattle.call_machine.proofs.HostFrames.{same_lengths, zeros_taken}
use Rattle.call_machine.proofs.HostCalls.{finding_cut, storing_cut, stored_is}
use Rattle.call_machine.proofs.Maps.{ok_maps, err_maps}
use Rattle.call_machine.proofs.host.frame_call.Goals as goal

pub returns-in_err-string_lengths-clause-full : goal.returns-in_err-string_lengths-clause-full
returns-in_err-string_lengths-clause-full g c =
    let p = err_from_is_err_and c.from_residual.result c.from_residual.ensures.1 in
    rw (p.1, p.2, c.in_err-string_lengths.ensures.full.0)
    (λ any. (refl, finding_cut _ c.args.place.frame any c.args.function.now c.args.args.now c.requires.framed c.args.tcs.now _ _ c.in_err-string_lengths.ensures.full.1))

pub returns-clause-ok : goal.returns-clause-ok
returns-clause-ok g c =
    ok_maps c.store_frame.result _ _
    (stored_is c.args.place.frame c.args.function.now c.args.args.now c.requires.framed _ _ _ _ _ _ _ c.in_ok-string_lengths.ensures.ok c.fill_frame.ensures)
    c.store_frame.ensures.ok

pub returns-clause-full : goal.returns-clause-full
returns-clause-full g c any =
    err_maps c.store_frame.result _ _
    (λ full cut. (cut.2.0, storing_cut _ c.args.place.frame any c.args.function.now c.args.args.now c.requires.framed c.args.tcs.now _ _ _ _ c.in_ok-string_lengths.ensures.ok c.fill_frame.ensures cut.0 _ cut.1 cut.2.1))
    c.store_frame.ensures.full

few_arguments : (n m : ℕ) → n ≡ m → m ≤ 64 → n ≤ 64
few_arguments n m e h = omega (arith, e, h)

pub slice_bounds-lengths-end : goal.slice_bounds-lengths-end
slice_bounds-lengths-end g c = few_arguments _ _ (same_lengths _ _ _ c.requires.args) c.requires.plain.few

pub slice_bounds-lengths-end-2 : goal.slice_bounds-lengths-end-2
slice_bounds-lengths-end-2 g c = sym (zeros_taken _ 64 (few_arguments _ _ (same_lengths _ _ _ c.requires.args) c.requires.plain.few))

pub string_lengths-requires-clause-room : goal.string_lengths-requires-clause-room
string_lengths-requires-clause-room g c = zeros_taken _ 64 (few_arguments _ _ (same_lengths _ _ _ c.requires.args) c.requires.plain.few)

pub fill_frame-requires-clause-lengths : goal.fill_frame-requires-clause-lengths
fill_frame-requires-clause-lengths g c = c.string_lengths.auto.lengths ∙ zeros_taken _ 64 (few_arguments _ _ (same_lengths _ _ _ c.requires.args) c.requires.plain.few)

pub fill_frame-requires-clause-zeros : goal.fill_frame-requires-clause-zeros
fill_frame-requires-clause-zeros g c = take-replicate _ _ _ c.requires.plain.frame
