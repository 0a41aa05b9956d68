-- `free` hands the bytes, as room, and the right to free them to the heap. Assumes `Logic`.
use Rattle.std.proofs.Common.{◌≡◌, ℕ, ◌*◌, ◌<◌, ◌^◌, List, [], ◌∷◌, length, refl, sym, ap, subst, ◌∙◌, arith, lit<, w8, w64, T}
use Rattle.std.proofs.raw_atomic.Walks.{proved, leaves}
use base.Fraction.{full_share}
use base.Logic.{emp, id⊢, fst∗, never}
use base.Fml.{feq, fsep, froom, ftrue, flft}
use mir.Syntax.{ty_array, ty_int, ty_unit}
use mir.Val.{Val, vptr, vunit, has_ty, WT}
use contract.Monad.{fact, fact_i}
use contract.Running.{tables}
use prog.Capped.{capped_is}
use prog.Memory.{size, align, capped}
use prog.Wp.{WpFn}
use types.Logic.{sem}
use types.Kit.{‵, raw, ◌⊛◌, some, later, prop, at_ret, ◌$◌, ◌∵◌, !, qed, by, move, keep, use0, use1, split, join, fsplit, fjoin, feq_l, feq_i, pick, await, regoal, rewrite}
use types.Part.{whole, sub}
use types.Run.{enter, of_opd, lit, unit_lit, stop, fld, no_more, and_then, first, blocks, exec, returns}
use types.ByLocal.{alloc_all, pass_all, free_all, look_at, get, get_in, sets, lands_last, env}
use denote.Builtin.{usize, unit, RefOf}
use denote.Exit.{yes}
use denote.Plain.{uint_vals, uint_Makes}
use denote.RattleType.{owns}
use denote.RawPtr.{Ptr, block_ptr, null_ptr, in_a_block}
use denote.RawPtr.Bytes.{bytes, bytes_apart, bytes-room}
use denote.Ref.{shr_vals}
use denote.Signature.{plain, types_at}
use denote.Steps.{nothing, owned, only}
use denote.Triple.Call.{calls_at_last}
use denote.Triple.Clauses.{lasts}
use denote.Triple.Spec.{triple_of}
use denote.Triple.Table.{framed}
use denote.Triple.Walked.{Stays, walk_of, stay_dropped, Goes-dropped}
use Rattle.core.proofs.alloc.Calls.{Goes-blank}
use Rattle.std_heap.specs.contracts.Global.{the_row as Heap}
use Rattle.std_heap.specs.contracts.GlobalAllocator.deallocate as g
use Rattle.std_heap.proofs.GlobalAllocator.deallocate.Met.{met}
use Rattle.enclave_memory.specs.Region.{block_of, owned as held, right_to_free}
use Rattle.enclave_memory.specs.contracts.region.Region.{the_row as R}
use Rattle.enclave_memory.specs.contracts.region.Region.free as f
use Rattle.enclave_memory.proofs.region.Region.TheLaws.{lowers}
use Rattle.enclave_memory.proofs.region.Region.free.Statement.{statement}
use Rattle.enclave_memory.proofs.region.Region.free.Code as code

abbrev stayed : Stays f.ended.signature.params f.ended.kept
stayed = (stay_dropped (plain (λ _. R)) yes, (stay_dropped (RefOf (0 ∷ []) tt (plain (λ _. Heap)) (λ _. tt)) yes, tt))

laid : (n : ℕ) → n < 2 ^ 64 → capped (size (block_of n)) ≡ n
laid n fits = capped_is (n * 1) (omega (arith, fits)) ∙ omega arith

pub free_spec : {M : Type 1} → statement M
free_spec 𝓤 𝓛 𝓜 𝓡 wired =
    let c = f.clauses 𝓛 𝓜.mem 𝓡.returns in let W = walk_of 𝓛 f.ended stayed c in let 𝓣 = tables 𝓤 𝓛.H 𝓜 𝓡 𝓡.env in
    proved 𝓛 f.ended stayed c 𝓜 𝓡 (Goes-blank 𝓛 1 (plain (λ _. R)) yes (λ κs x w. tt), (Goes-dropped 𝓛 1 (RefOf (0 ∷ []) tt (plain (λ _. Heap)) (λ _. tt)) yes (λ κs x w. refl), tt))
    f.Key.name code.function (code.unfolded 𝓤 𝓛.H 𝓜 𝓡 wired)
    (λ κs. ((λ r. lowers.lowered r ∷ []), (shr_vals, tt))) (λ κs. (lowers.val_is, ((λ r vs s. s.0), tt))) (λ κs qs bounds a _ are.
    let κ = κs.0 in let q = qs.0 in let h = a.0 in let heap = a.1.0 in let n = h.size in let xs = h.bytes in let τ = block_of n in
    let vs : List Val × (List Val × Unit {0}) = (lowers.lowered h ∷ [], (shr_vals heap, tt)) in
    let fs : n < 2 ^ 64 = omega (arith, h.small) in
    let y : W.Ghost = ((κs, qs, bounds, a, vs), tt) in
    qed 𝓛 (((‵ (flft κ q) ⊛ ‵ ftrue) ⊛ ‵ (owns (types_at f.ended.signature.params κs) a vs)) ∷ ‵ ftrue ∷ []) ∵
    split ! $ split ! $ move ! (2 ∷ []) $ fsplit ! $ fsplit ! $ move ! (1 ∷ []) $
    in_a_block ! h.at (λ p. held p n xs) (fst∗ 𝓤 (never 𝓤) (sem 𝓛 (right_to_free τ null_ptr))) (λ b o e. fsplit ! $
    -- [the bytes; the right to free; what the fields own; the other parameters; the token; ..]
    move ! (3 ∷ []) $ fsplit ! $ keep ! (2 ∷ 3 ∷ 0 ∷ 5 ∷ []) $
    use1 𝓛 (‵ (fsep (feq ℕ (length xs) n) (bytes full_share xs b o))) (bytes_apart 𝓛 full_share n xs b o) $ fsplit ! $ feq_l ! (λ _.
    use1 𝓛 (‵ (froom (ty_array (ty_int w8) (length xs)) b o)) (bytes-room 𝓛 xs b o) $ rewrite ! 0 (λ (k : ℕ). ‵ (froom (ty_array (ty_int w8) k) b o)) (sym h.counted) refl $ fjoin ! $
    -- [the block; the reference to the heap; the token]
    regoal ! (λ (p : Ptr). prop (WpFn 𝓤 𝓛.H 𝓣.C 𝓣.Λ code.function (lowers.lowered (record h { at = p }) ∷ vptr heap.ref_ptr.0 heap.ref_ptr.1 ∷ []) (W.post y))) e refl $
    enter ! _ _ _ _ _ $ alloc_all ! (λ l. pass_all ! refl ((tt, (tt, (record { fits = fs }, tt))), ((tt, tt), tt)) $
    sets ! (of_opd ! (get_in ! (fld ! refl (stop !)) (sub ! 0 refl (whole !)))) refl (tt, tt) $
    sets ! (of_opd ! (get_in ! (fld ! refl (stop !)) (sub ! 1 refl (whole !)))) refl (tt, record { fits = fs }) $
    first ! $ blocks ! $
    let G = triple_of 𝓛 g.signature (g.spec 𝓛 𝓜.mem 𝓡.returns) in
    let z : G.Ghost = (((κ, tt), (q, tt), tt, (heap, (block_ptr b o, (n, (1, tt)))), (shr_vals heap, (vptr b o ∷ [], (uint_vals w64 n, (uint_vals w64 1, tt))))), τ) in
    let Laid : Type 0 = (capped (size τ) ≡ n) × (capped (align τ) ≡ 1) in
    use0 𝓛 (raw (fact 𝓤 Laid)) (fact_i 𝓤 Laid (emp 𝓤) (laid n fs, refl)) $ join ! $
    nothing ! $ owned ! usize _ (uint_Makes 𝓛 w64) 1 _ (refl, lit< tt) $ fjoin ! $ owned ! usize _ (uint_Makes 𝓛 w64) n _ (refl, fs) $ fjoin ! $
    feq_i ! (List Val) (vptr b o ∷ []) (vptr b o ∷ []) refl $ fjoin ! $ move ! (2 ∷ 0 ∷ []) $ fjoin ! $
    nothing ! $ move ! (3 ∷ 0 ∷ []) $ join ! $ join ! $ join ! $ use1 𝓛 (raw (G.pre z)) (id⊢ 𝓤 _) $
    calls_at_last ! (framed 𝓤 𝓛.H 𝓜 𝓣) G (met 𝓤 𝓛 𝓜 𝓡 (code.calls-std_heap::GlobalAllocator::deallocate 𝓡.env wired)) z
    (and_then ! (get ! refl) (and_then ! (get ! refl) (and_then ! (get ! refl) (and_then ! (lit ! tt) (no_more !))))) (λ v.
    use1 𝓛 (later (some (λ (u : Unit {0}). ((‵ (flft κ q) ⊛ ‵ ftrue) ⊛ ‵ (unit.own_val u (v ∷ []))) ⊛
    some (λ (ws : Unit {0} × (Unit {0} × (Unit {0} × (Unit {0} × Unit {0})))). ‵ (lasts g.ended z.0.0 z.0.3 ws) ⊛ ‵ ftrue)))) (id⊢ 𝓤 _) $
    await ! tt $ pick ! (λ u. split ! $ split ! $ move ! (1 ∷ []) $ feq_l ! (λ is_unit.
    lands_last ! refl (subst (λ (w : Val). T (has_ty ty_unit w) × WT w) (sym (ap only is_unit)) (tt, tt)) $
    exec ! 𝓣.C 𝓣.Λ (env code.Mir.locals l) code.Mir.t-4 (at_ret _ (W.post y)) $
    sets ! (of_opd ! (unit_lit !)) refl (tt, tt) $ returns ! (look_at ! 0 refl) $ free_all ! refl $ keep ! (0 ∷ []) $
    feq_i ! (List Val) (vunit ∷ []) (vunit ∷ []) refl $ nothing ! $ nothing ! $ nothing ! $ fjoin ! $ nothing ! $ fjoin ! $ move ! (3 ∷ 0 ∷ 2 ∷ 1 ∷ []) $
    by ! (leaves 𝓛 f.ended stayed c y vunit tt (tt, (tt, tt)) (tt, (tt, tt))))))))))
