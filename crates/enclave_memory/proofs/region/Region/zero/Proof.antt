-- `zero` lends the bytes as a slice to `clear`. Assumes `Logic`.
use Rattle.std.proofs.Common.{◌≡◌, ℕ, ◌+◌, ◌<◌, ◌≤◌, ◌^◌, List, [], ◌∷◌, length, replicate, refl, sym, ap, ◌∙◌, arith, w64, MutBor}
use Rattle.std.proofs.lemmas.List.{length-replicate}
use Rattle.std.proofs.raw_atomic.Walks.{proved}
use base.Fraction.{full_share}
use base.Logic.{emp, id⊢, fst∗, never}
use base.Fml.{ftrue, flft, flent}
use mir.Syntax.{named}
use mir.Val.{Val, vunit}
use contract.Monad.{fact, fact_i}
use contract.Running.{tables}
use types.Logic.{sem}
use types.Kit.{‵, raw, ◌⊛◌, some, later, at_ret, ◌$◌, ◌∵◌, !, qed, move, keep, use0, use1, use3, split, join, fsplit, fsplit3, fjoin, feq_l, feq_i, pick, await, rewrite, suffices, frame, group, done}
use types.Part.{whole, sub, look_in, agg}
use types.Run.{enter, of_opd, load, stop, fld, unit_lit, no_more, and_then, first, blocks, exec, returns}
use types.ByLocal.{alloc_all, pass_all, free_all, look_at, get, is, through, sets, sets_last, lands_as, env}
use types.Tokens.{lft_new, lft_end}
use denote.Array.{Array}
use denote.Builtin.{u8, usize, unit}
use denote.Exit.{yes}
use denote.Laws.{shows}
use denote.Lend.{Held}
use denote.Memory.{cell_at, part_at}
use denote.Plain.{uint_vals, uint_Tells, uint_Makes}
use denote.RattleType.{owns}
use denote.RawPtr.{Ptr, null_ptr, in_a_block}
use denote.Ref.{mut_vals, mut_Tells}
use denote.Signature.{plain, types_at}
use denote.Slice.{MutSlice, slice_val, finally}
use denote.Steps.{nothing, owned, opens, closes, peeks, heard, only}
use denote.Triple.Call.{calls_at}
use denote.Triple.Clauses.{lasts}
use denote.Triple.Spec.{triple_of}
use denote.Triple.Table.{framed}
use denote.Triple.Walked.{Stays, walk_of, says, stay_ref, stay_dropped, Goes-ref, Goes-dropped, ends_at}
use Rattle.sgx_base.specs.Bytes.{with_bytes_at}
use Rattle.enclave_memory.specs.Region.{block_of, owned as held, right_to_free}
use Rattle.enclave_memory.specs.contracts.region.Region.{the_row as R}
use Rattle.enclave_memory.specs.contracts.region.Region.zero as f
use Rattle.enclave_memory.specs.contracts.region.clear as g
use Rattle.enclave_memory.proofs.Layouts.{length-with}
use Rattle.enclave_memory.proofs.Walks.{lends_bytes, bytes_back}
use Rattle.enclave_memory.proofs.region.clear.Met.{met}
use Rattle.enclave_memory.proofs.region.Region.TheLaws.{lowers}
use Rattle.enclave_memory.proofs.region.Region.zero.Statement.{statement}
use Rattle.enclave_memory.proofs.region.Region.zero.Code as code

abbrev stayed : Stays f.ended.signature.params f.ended.kept
stayed = (stay_ref (0 ∷ []) tt (plain (λ _. R)), (stay_dropped (plain (λ _. usize)) yes, (stay_dropped (plain (λ _. usize)) yes, tt)))

pub zero_spec : {M : Type 1} → statement M
zero_spec 𝓤 𝓛 𝓜 𝓡 wired =
    let c = f.clauses 𝓛 𝓜.mem 𝓡.returns in let W = walk_of 𝓛 f.ended stayed c in let 𝓣 = tables 𝓤 𝓛.H 𝓜 𝓡 𝓡.env in
    let goes = Goes-dropped 𝓛 1 (plain (λ _. usize)) yes (λ κs x w. refl) in
    proved 𝓛 f.ended stayed c 𝓜 𝓡 (Goes-ref 𝓛 1 0 tt (plain (λ _. R)), (goes, (goes, tt)))
    f.Key.name code.function (code.unfolded 𝓤 𝓛.H 𝓜 𝓡 wired)
    (λ κs. (mut_vals, (uint_vals w64, (uint_vals w64, tt)))) (λ κs. (mut_Tells (named 0) κs.0 R, (uint_Tells w64, (uint_Tells w64, tt)))) (λ κs qs bounds a _ are.
    let κ = κs.0 in let q = qs.0 in let b = a.0.ref_ptr.0 in let o = a.0.ref_ptr.1 in let h = a.0.now in
    let from = a.1.0 in let count = a.1.1.0 in let xs = h.bytes in let n = length xs in
    let vs : List Val × (List Val × (List Val × Unit {0})) = (mut_vals a.0, (uint_vals w64 from, (uint_vals w64 count, tt))) in
    let ff : from < 2 ^ 64 = are.1.0.1 in let fc : count < 2 ^ 64 = are.1.1.0.1 in let fs : h.size < 2 ^ 64 = omega (arith, h.small) in
    let fn : n < 2 ^ 64 = omega (arith, h.small, h.counted) in let ys = with_bytes_at xs from (replicate count 0) in
    let y : W.Ghost = ((κs, qs, bounds, a, vs), tt) in
    let Asked : Type 0 = from + count ≤ n in
    qed 𝓛 (((‵ (flft κ q) ⊛ ‵ ftrue) ⊛ ‵ (owns (types_at f.ended.signature.params κs) a vs)) ∷ raw (fact 𝓤 Asked) ∷ []) ∵
    move ! (1 ∷ []) $ heard ! Asked (λ asked.
    let zeros : length {A = ℕ} (replicate count 0) ≡ count = length-replicate count 0 in let fits : from + length {A = ℕ} (replicate count 0) ≤ n = omega (arith, asked, zeros) in
    let new : R.Denot = record h { bytes = ys; counted = h.counted ∙ sym (length-with xs from (replicate count 0) fits) } in
    split ! $ split ! $ move ! (2 ∷ []) $ fsplit ! $ keep ! (0 ∷ 2 ∷ []) $
    -- [self; the token of κ]
    enter ! _ _ _ _ _ $ alloc_all ! (λ l. pass_all ! refl ((tt, tt), ((tt, record { fits = ff }), ((tt, record { fits = fc }), tt))) $
    fsplit3 ! $ move ! (1 ∷ 2 ∷ 3 ∷ []) $ opens ! tt R b o (λ us.
    move ! (1 ∷ []) $ peeks ! R _ (shows 𝓛 R) h us (λ known. fsplit ! $ move ! (1 ∷ []) $
    in_a_block ! h.at (λ p. held p h.size xs) (fst∗ 𝓤 (never 𝓤) (sem 𝓛 (right_to_free (block_of h.size) null_ptr))) (λ b' o' e. fsplit ! $
    -- [the bytes; the right to free; what the fields own; the struct's cell; the open borrow, in three entries]
    let word = lowers.val_is h us known ∙ ap (λ (p : Ptr). lowers.lowered (record h { at = p }) ∷ []) e in
    let Cell = λ (ws : List Val). ‵ (cell_at full_share R.mir ws b o) in
    rewrite ! 3 Cell word refl $
    first ! $ blocks ! $
    sets ! (of_opd ! (load ! (through ! refl (fld ! refl (stop !))) (look_in ! 3 (sub ! 0 refl (whole !))))) refl (tt, tt) $
    sets ! (of_opd ! (load ! (through ! refl (fld ! refl (stop !))) (look_in ! 3 (sub ! 1 refl (whole !))))) refl (tt, record { fits = fs }) $
    sets_last ! (agg ! (and_then ! (get ! refl) (and_then ! (get ! refl) (no_more !)))) refl (tt, (tt, (record { fits = fs }, tt))) $
    exec ! 𝓣.C 𝓣.Λ (env code.Mir.locals l) code.Mir.t-2 (at_ret _ (W.post y)) $
    sets ! (is ! (of_opd ! (get ! refl)) (ap (λ (k : ℕ). slice_val (b', o') k) h.counted)) refl (tt, (tt, (record { fits = fn }, tt))) $
    sets ! (of_opd ! (get ! refl)) refl (tt, record { fits = ff }) $
    sets ! (of_opd ! (get ! refl)) refl (tt, record { fits = fc }) $
    lft_new ! tt (λ α. let κ' = α ∷ [] in move ! (1 ∷ []) $
    use1 𝓛 (later (some (λ (γ : ℕ). ‵ ((MutSlice (named 0) κ' u8).own_val (record { ref_ptr = (b', o'); ghost_name = γ; now = xs }) (slice_val (b', o') n ∷ [])) ⊛ ‵ (flent κ' (Held u8 n b' o' γ)))))
    (lends_bytes 𝓛 κ' h.size xs b' o' h.counted h.small) $ await ! tt $ pick ! (λ γ. split ! $
    -- [the slice; what the lender keeps; the token of α; the right to free; ..]
    let G = triple_of 𝓛 g.signature (g.spec 𝓛 𝓜.mem 𝓡.returns) in
    let s : MutBor (List ℕ) = record { ref_ptr = (b', o'); ghost_name = γ; now = xs } in
    let z : G.Ghost = (((κ', tt), (full_share, tt), tt, (s, (from, (count, tt))), (slice_val (b', o') n ∷ [], (uint_vals w64 from, (uint_vals w64 count, tt)))), tt) in
    use0 𝓛 (raw (fact 𝓤 Asked)) (fact_i 𝓤 Asked (emp 𝓤) asked) $
    nothing ! $ owned ! usize _ (uint_Makes 𝓛 w64) count _ (refl, fc) $ fjoin ! $ owned ! usize _ (uint_Makes 𝓛 w64) from _ (refl, ff) $ fjoin ! $
    move ! (2 ∷ 0 ∷ []) $ fjoin ! $ nothing ! $ move ! (4 ∷ 0 ∷ []) $ join ! $ join ! $ join ! $ use1 𝓛 (raw (G.pre z)) (id⊢ 𝓤 _) $
    calls_at ! (framed 𝓤 𝓛.H 𝓜 𝓣) G (met 𝓤 𝓛 𝓜 𝓡 (code.calls-enclave_memory::region::clear 𝓡.env wired)) z
    (and_then ! (get ! refl) (and_then ! (get ! refl) (and_then ! (get ! refl) (no_more !)))) (λ v.
    use1 𝓛 (later (some (λ (u : Unit {0}). ((‵ (flft κ' full_share) ⊛ ‵ ftrue) ⊛ ‵ (unit.own_val u (v ∷ []))) ⊛
    some (λ (ws : List ℕ × (Unit {0} × (Unit {0} × Unit {0}))). ‵ (lasts g.ended z.0.0 z.0.3 ws) ⊛ raw (fact 𝓤 (ws.0 ≡ ys)))))) (id⊢ 𝓤 _) $
    await ! tt $ pick ! (λ u. split ! $ split ! $ split ! $ lft_end ! tt $ move ! (2 ∷ []) $ feq_l ! (λ is_unit. lands_as ! (ap only is_unit) refl (tt, tt) $
    move ! (2 ∷ []) $ pick ! (λ ws. split ! $ move ! (1 ∷ []) $ heard ! _ (λ done_is. fsplit ! $
    -- [the last value of the slice, in four entries; α is over; nothing; what the lender keeps; the right to free; ..]
    fsplit ! $ fsplit ! $ rewrite ! 0 (λ (m : List ℕ). ‵ (finally u8 γ m)) done_is refl $ move ! (4 ∷ 6 ∷ 0 ∷ []) $
    use3 𝓛 (later (‵ (part_at (Array u8 h.size) full_share ys b' o'))) (bytes_back 𝓛 κ' γ h.size n ys b' o' h.counted) $ await ! tt $
    move ! (0 ∷ 5 ∷ []) $ fjoin ! $ rewrite ! 0 (λ (p : Ptr). ‵ (held p h.size ys)) (sym e) refl $ rewrite ! 6 Cell (sym word) refl $
    move ! (5 ∷ 0 ∷ []) $ fjoin ! $ move ! (5 ∷ 0 ∷ 6 ∷ 7 ∷ 8 ∷ []) $
    closes ! tt R new us b o $
    sets ! (of_opd ! (unit_lit !)) refl (tt, tt) $ returns ! (look_at ! 0 refl) $ free_all ! refl $ keep ! (7 ∷ 0 ∷ 1 ∷ 2 ∷ []) $
    -- [self, in three entries; the token of κ]
    suffices ! _ (ends_at 𝓛 f.ended stayed c y vunit tt (new, (tt, (tt, tt))) (tt, (tt, (tt, tt)))) $ says ! refl $
    group ! 3 $ nothing ! $ nothing ! $ join ! $ nothing ! $ join ! $ move ! (1 ∷ 0 ∷ []) $ join ! $ nothing ! $ move ! (2 ∷ 0 ∷ []) $ join ! $ frame ! $ frame ! $
    feq_i ! (List Val) (vunit ∷ []) (vunit ∷ []) refl $ done !)))))))))))))
