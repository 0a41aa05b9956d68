-- `new` asks the heap for a block, and sets its bytes to 0 one by one. Assumes `Logic`.
use Rattle.std.proofs.Common.{◌≡◌, ℕ, zero, suc, ◌+◌, ◌-◌, ◌*◌, ◌<◌, ◌≤◌, ◌^◌, Bool, true, false, List, [], ◌∷◌, length, replicate, refl, sym, ◌∙◌, arith, lit<, w8, w64}
use Rattle.std.proofs.lemmas.List.{length-replicate}
use Rattle.std.proofs.raw_atomic.Walks.{proved}
use mathlib.Core.WellFounded.InvImage
use lib.Dec.{ltb→lt, nltb→le}
use lib.WfN.{lt-wf_rel}
use base.Fraction.{full_share}
use base.Logic.{SProp, emp, id⊢}
use base.Fml.{fat, froom, ftrue, flft}
use mir.Syntax.{named, ty_int, ty_array}
use mir.Val.{Val, vint, vptr, vstruct, vcons, vnil}
use contract.Monad.{fact, fact_i}
use contract.Running.{tables, tables_of}
use prog.Capped.{capped_is}
use prog.Memory.{size, align, capped}
use prog.Wp.{Out, Wp, at_return, after_seq, after_block, after_turn}
use types.Kit.{Item, Sq, any_q, runs, ‵, raw, ◌⊛◌, some, given, later, at_ret, ◌$◌, ◌∵◌, !, qed, move, keep, drop, use0, use1, use2, split, join, fsplit, fjoin, feq_i, pick, await, rewrite, suffices, frame, done}
use types.Match.{live, vrt, in_variant}
use types.Part.{whole, agg}
use types.Run.{enter, of_opd, lit, bin, stop, fld, no_more, and_then, init, assigns_last, first, blocks, skips, jumps, branches, switches_on, exec, returns, returns_within, loops, again, Below}
use types.ByLocal.{alloc_all, pass_all, free_all, look_at, get, get_in, get_tag, through, sets, sets_last, lands_as, env, holding, forget_but, take_at, give_at}
use denote.Array.{Array}
use denote.Builtin.{u8, usize, RefOf}
use denote.Exit.{yes}
use denote.Memory.{part_at}
use denote.Plain.{uint_vals, uint_Tells, uint_Makes}
use denote.RattleType.{owns}
use denote.RawPtr.{block_ptr}
use denote.RawPtr.Bytes.{bytes, bytes_whole}
use denote.Ref.{shr_vals, shr_Tells}
use denote.Signature.{plain, types_at}
use denote.Steps.{nothing, owned, heard}
use denote.Struct.Declared as Declared
use denote.Struct.Owning.{shape}
use denote.Struct.Struct.{Struct, Struct-Makes}
use denote.Laws.{Is}
use denote.Triple.Call.{calls_at}
use denote.Triple.Clauses.{lasts}
use denote.Triple.Spec.{triple_of}
use denote.Triple.Table.{framed}
use denote.Triple.Walked.{Stays, walk_of, says, stay_dropped, Goes-dropped, ends_at}
use Rattle.core.proofs.alloc.Calls.{Answer, Answer-typed, answer_val, got}
use Rattle.core.proofs.alloc.Shapes.{after, arm_body}
use Rattle.core.proofs.result.Made.{Ok-of, Err-of}
use Rattle.core.specs.Allocator.{block_if_ok}
use Rattle.core.specs.contracts.alloc.AllocError as AE
use Rattle.core.specs.contracts.result.Result as RS
use Rattle.core.specs.declared.result.Result.TheVariants.{Ok, Err}
use Rattle.std_heap.specs.contracts.Global.{the_row as Heap}
use Rattle.std_heap.specs.contracts.GlobalAllocator.allocate as g
use Rattle.std_heap.proofs.GlobalAllocator.allocate.Met.{met}
use Rattle.enclave_memory.specs.Region.{block_of, right_to_free}
use Rattle.enclave_memory.specs.contracts.region.Region as C
use Rattle.enclave_memory.specs.contracts.region.Region.new as f
use Rattle.enclave_memory.proofs.Walks.{zero_more, one_byte, words_made, answered, answers}
use Rattle.enclave_memory.proofs.region.Region.new.Statement.{statement}
use Rattle.enclave_memory.proofs.region.Region.new.Code as code

abbrev stayed : Stays f.ended.signature.params f.ended.kept
stayed = (stay_dropped (RefOf (0 ∷ []) tt (plain (λ _. Heap)) (λ _. tt)) yes, (stay_dropped (plain (λ _. usize)) yes, tt))

laid : (n : ℕ) → n < 2 ^ 64 → capped (size (block_of n)) ≡ n
laid n fits = capped_is (n * 1) (omega (arith, fits)) ∙ omega arith

one_more : (i : ℕ) → i + 1 ≡ suc i
one_more i = omega arith

all_left : (n : ℕ) → n ≡ n - 0
all_left n = omega arith

from_start : (o : ℕ) → o ≡ 0 + o
from_start o = omega arith

-- how many bytes are 0
abbrev Zeroed : ℕ → Type 0
Zeroed n = (i : ℕ) × (i ≤ n)

abbrev Nearer : (n : ℕ) → Zeroed n → Zeroed n → Type 0
Nearer n t u = n - t.0 < n - u.0

pub new_spec : {M : Type 1} → statement M
unfolding tables_of after_turn
new_spec 𝓤 𝓛 𝓜 𝓡 wired =
    let c = f.clauses 𝓛 𝓜.mem 𝓡.returns in let W = walk_of 𝓛 f.ended stayed c in let 𝓣 = tables 𝓤 𝓛.H 𝓜 𝓡 𝓡.env in
    proved 𝓛 f.ended stayed c 𝓜 𝓡
    (Goes-dropped 𝓛 1 (RefOf (0 ∷ []) tt (plain (λ _. Heap)) (λ _. tt)) yes (λ κs x w. refl), (Goes-dropped 𝓛 1 (plain (λ _. usize)) yes (λ κs x w. refl), tt))
    f.Key.name code.function (code.unfolded 𝓤 𝓛.H 𝓜 𝓡 wired)
    (λ κs. (shr_vals, (uint_vals w64, tt))) (λ κs. (shr_Tells (named 0) κs.0 Heap, (uint_Tells w64, tt))) (λ κs qs bounds a _ are.
    let κ = κs.0 in let q = qs.0 in let heap = a.0 in let n = a.1.0 in let τ = block_of n in
    let vs : List Val × (List Val × Unit {0}) = (shr_vals heap, (uint_vals w64 n, tt)) in
    let fn : n < 2 ^ 64 = are.1.0.1 in
    let y : W.Ghost = ((κs, qs, bounds, a, vs), tt) in
    let Asked : Type 0 = n < 2 ^ 63 in
    qed 𝓛 (((‵ (flft κ q) ⊛ ‵ ftrue) ⊛ ‵ (owns (types_at f.ended.signature.params κs) a vs)) ∷ raw (fact 𝓤 Asked) ∷ []) ∵
    move ! (1 ∷ []) $ heard ! Asked (λ asked. split ! $ split ! $ move ! (2 ∷ []) $ fsplit ! $ keep ! (0 ∷ 2 ∷ []) $
    -- [the reference to the heap; the token]
    enter ! _ _ _ _ _ $ alloc_all ! (λ l. pass_all ! refl ((tt, tt), ((tt, record { fits = fn }), tt)) $
    let En = env code.Mir.locals l in
    let G = triple_of 𝓛 g.signature (g.spec 𝓛 𝓜.mem 𝓡.returns) in
    let z : G.Ghost = (((κ, tt), (q, tt), tt, (heap, (n, (1, tt))), (shr_vals heap, (uint_vals w64 n, (uint_vals w64 1, tt)))), τ) in
    let Laid : Type 0 = (capped (size τ) ≡ n) × (capped (align τ) ≡ 1) in
    use0 𝓛 (raw (fact 𝓤 Laid)) (fact_i 𝓤 Laid (emp 𝓤) (laid n fn, refl)) $
    nothing ! $ owned ! usize _ (uint_Makes 𝓛 w64) 1 _ (refl, lit< tt) $ fjoin ! $ owned ! usize _ (uint_Makes 𝓛 w64) n _ (refl, fn) $ fjoin ! $
    move ! (2 ∷ 0 ∷ []) $ fjoin ! $ nothing ! $ move ! (3 ∷ 0 ∷ []) $ join ! $ join ! $ join ! $ use1 𝓛 (raw (G.pre z)) (id⊢ 𝓤 _) $
    calls_at ! (framed 𝓤 𝓛.H 𝓜 𝓣) G (met 𝓤 𝓛 𝓜 𝓡 (code.calls-std_heap::GlobalAllocator::allocate 𝓡.env wired)) z
    (and_then ! (get ! refl) (and_then ! (get ! refl) (and_then ! (lit ! tt) (no_more !)))) (λ v.
    use1 𝓛 (later (some (λ (r : Answer.Denot). ((‵ (flft κ q) ⊛ ‵ ftrue) ⊛ ‵ (Answer.own_val r (v ∷ []))) ⊛
    some (λ (ws : Unit {0} × (Unit {0} × (Unit {0} × Unit {0}))). ‵ (lasts g.ended z.0.0 z.0.3 ws) ⊛ ‵ (block_if_ok right_to_free τ r))))) (id⊢ 𝓤 _) $
    await ! tt $ pick ! (λ r. split ! $ split ! $ move ! (2 ∷ []) $ pick ! (λ ws. split ! $ drop ! $ move ! (2 ∷ 0 ∷ []) $
    use2 𝓛 (some (λ (k : Bool × (ℕ × ℕ)). given (v ≡ answer_val k.0 k.1.0 k.1.1) (‵ (got right_to_free τ k.0 k.1.0 k.1.1)))) (answered 𝓛 τ v r) $
    let Post = at_return 𝓤 𝓛.H En (W.post y) in let Then = any_q (after_seq 𝓤 𝓛.H (Wp 𝓤 𝓛.H 𝓣.C 𝓣.Λ En code.Mir.t-3 Post) Post) in
    -- [what the heap answered; the tokens]
    answers ! τ v (λ b o e.
    let Now : Zeroed n → List (Item 𝓤) = λ t. ‵ (bytes full_share (replicate t.0 0) b o) ∷ ‵ (froom (ty_array (ty_int w8) (n - t.0)) b (t.0 + o)) ∷ ‵ (right_to_free τ (block_ptr b o)) ∷ (‵ (flft κ q) ⊛ ‵ ftrue)
    ∷ holding 𝓛 En ((2, vint w64 n) ∷ (3, vptr b o) ∷ (6, vint w64 t.0) ∷ []) in
    let Turned : Zeroed n → Out → SProp 𝓤 = λ t. after_turn 𝓤 𝓛.H (Below 𝓛 (Nearer n) Now t) (after_block 𝓤 𝓛.H (after_seq 𝓤 𝓛.H (Wp 𝓤 𝓛.H 𝓣.C 𝓣.Λ En code.Mir.t-6 Post) Post)) in
    let made : C.the_row.Denot = record { at = block_ptr b o; size = n; bytes = replicate n 0; counted = sym (length-replicate n 0); small = asked } in
    let words : Val = vstruct (vcons (vptr b o) (vcons (vint w64 n) vnil)) in
    let turns : (t : Zeroed n) → Sq 𝓛 (Now t) (runs 𝓣.C 𝓣.Λ En code.Mir.turn-1 (any_q (Turned t))) = λ t.
    let i : ℕ = t.0 in let le = t.1 in
    sets ! (bin ! (get ! refl) (get ! refl) tt) refl (tt, tt) $ first ! $ branches ! (get ! refl)
    (λ less. let h : i < n = ltb→lt i n less in let fi : i + 1 < 2 ^ 64 = omega (arith, h, fn) in
    skips ! $ exec ! 𝓣.C 𝓣.Λ En (after 2 code.Mir.turn-1) (any_q (Turned t)) $ first ! $ blocks ! $
    sets ! (bin ! (get ! refl) (get ! refl) tt) refl (tt, tt) $
    move ! (1 ∷ []) $ use1 𝓛 (‵ (froom (ty_int w8) b (i + o)) ⊛ ‵ (froom (ty_array (ty_int w8) (n - suc i)) b (suc i + o))) (one_byte 𝓛 i n b o h) $ split ! $
    assigns_last ! (of_opd ! (lit ! tt)) (through ! refl (stop !)) (init ! 0 refl (tt, record { fits = lit< tt })) $
    exec ! 𝓣.C 𝓣.Λ En (after 3 code.Mir.turn-1) (any_q (Turned t)) $
    sets_last ! (bin ! (get ! refl) (lit ! tt) (record { fits = fi })) refl (tt, record { fits = fi }) $
    move ! (2 ∷ 0 ∷ []) $ use2 𝓛 (‵ (bytes full_share (replicate (suc i) 0) b o)) (zero_more 𝓛 i b o) $
    forget_but ! En (2 ∷ 3 ∷ 6 ∷ []) refl $ take_at ! 6 $ rewrite ! 0 (λ (k : ℕ). ‵ (fat full_share (ty_int w64) (l 6) zero (vint w64 k))) (one_more i) refl $ give_at ! 6 $
    again ! (Nearer n) Now t (suc i, omega (arith, h)) (omega (arith, h)))
    (λ over. let ge = nltb→le i n over in let all : i ≡ n = omega (arith, ge, le) in
    jumps ! $ exec ! 𝓣.C 𝓣.Λ En code.Mir.t-6 (at_ret En (W.post y)) $
    sets ! (agg ! (and_then ! (get ! refl) (and_then ! (get ! refl) (no_more !)))) refl (tt, (tt, (record { fits = fn }, tt))) $
    sets ! (agg ! (and_then ! (lit ! tt) (and_then ! (get ! refl) (no_more !)))) refl (tt, (record { fits = lit< tt }, ((tt, (record { fits = fn }, tt)), tt))) $
    returns ! (look_at ! 0 refl) $ free_all ! refl $
    -- [the zeros; no room; the right to free; the tokens]
    rewrite ! 0 (λ (k : ℕ). ‵ (bytes full_share (replicate k 0) b o)) all refl $ keep ! (0 ∷ 2 ∷ 3 ∷ []) $
    feq_i ! ℕ (length {A = ℕ} (replicate n 0)) n (length-replicate n 0) $ fjoin ! $
    use1 𝓛 (‵ (part_at (Array u8 n) full_share (replicate n 0) b o)) (bytes_whole 𝓛 full_share n (replicate n 0) b o) $ fjoin ! $
    use0 𝓛 (‵ ((Struct (shape C.the_type)).own_val (block_ptr b o, (n, tt)) (words ∷ []))) (words_made 𝓛 b o n fn) $ fjoin ! $
    use1 𝓛 (‵ ((RS.the_row C.the_row AE.the_row).own_val (Ok made) (live 0 (vcons words vnil) ∷ []))) (Ok-of 𝓛 C.the_row AE.the_row made words) $
    suffices ! _ (ends_at 𝓛 f.ended stayed c y (live 0 (vcons words vnil)) (Ok made) (tt, (tt, tt)) (tt, (tt, tt))) $ says ! refl $
    nothing ! $ nothing ! $ join ! $ nothing ! $ join ! $ move ! (2 ∷ []) $ frame ! $ frame ! $ done !) in
    -- [room; the right to free it; the tokens]
    lands_as ! e refl (Answer-typed true b o) $ first ! $ switches_on ! (get_tag ! (vrt ! refl (fld ! refl (stop !))) (whole !)) $ exec ! 𝓣.C 𝓣.Λ En (arm_body 0 code.Mir.s-2) Then $
    sets ! (of_opd ! (get_in ! (vrt ! refl (fld ! refl (stop !))) (in_variant ! 0 0 refl refl (whole !)))) refl (tt, tt) $
    sets_last ! (of_opd ! (get ! refl)) refl (tt, tt) $ exec ! 𝓣.C 𝓣.Λ En code.Mir.t-3 (at_ret En (W.post y)) $
    sets ! (of_opd ! (get ! refl)) refl (tt, tt) $ sets ! (of_opd ! (lit ! tt)) refl (tt, record { fits = lit< tt }) $
    rewrite ! 0 (λ (u : ℕ × ℕ). ‵ (froom (ty_array (ty_int w8) u.0) b u.1)) (λ j. (all_left n j, from_start o j)) refl $ nothing ! $
    forget_but ! En (2 ∷ 3 ∷ 6 ∷ []) refl $ first ! $ blocks ! $
    loops ! (tables_of 𝓤 𝓛.H 𝓜 𝓣) (Nearer n) (InvImage.wf (λ (t : Zeroed n). n - t.0) lt-wf_rel.wf) Now turns (0, omega arith))
    (λ e.
    let Refusal = Struct (Declared.shape AE.the_type) in let refused : Val = live 1 (vcons (vstruct vnil) vnil) in
    lands_as ! e refl (Answer-typed false 0 0) $ first ! $ switches_on ! (get_tag ! (vrt ! refl (fld ! refl (stop !))) (whole !)) $ exec ! 𝓣.C 𝓣.Λ En (arm_body 1 code.Mir.s-2) Then $
    sets ! (of_opd ! (get_in ! (vrt ! refl (fld ! refl (stop !))) (in_variant ! 1 0 refl refl (whole !)))) refl (tt, tt) $
    sets ! (agg ! (and_then ! (lit ! tt) (and_then ! (get ! refl) (no_more !)))) refl (tt, (record { fits = lit< tt }, (tt, tt))) $
    returns_within ! (W.post y) refl (look_at ! 0 refl) $ free_all ! refl $ keep ! (0 ∷ []) $
    owned ! Refusal (Is Refusal) (Struct-Makes 𝓛 (Declared.shape AE.the_type) tt) tt (vstruct vnil ∷ []) (tt, (refl, tt)) $
    use1 𝓛 (‵ ((RS.the_row C.the_row AE.the_row).own_val (Err (record {})) (refused ∷ []))) (Err-of 𝓛 C.the_row AE.the_row (record {}) (vstruct vnil)) $
    suffices ! _ (ends_at 𝓛 f.ended stayed c y refused (Err (record {})) (tt, (tt, tt)) (tt, (tt, tt))) $ says ! tt $
    nothing ! $ nothing ! $ join ! $ nothing ! $ join ! $ move ! (2 ∷ []) $ frame ! $ frame ! $ done !)))))))
