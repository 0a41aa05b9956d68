-- `bytes` reads the two words through a `&`, and gives out the bytes that it lends. Assumes `Logic`.
use Rattle.std.proofs.Common.{ℕ, ◌+◌, ◌*◌, ◌<◌, ◌^◌, List, [], ◌∷◌, length, refl, ap, arith, w64}
use Rattle.std.proofs.raw_atomic.Walks.{proved}
use Rattle.std.proofs.Words.{word_in, word_out, pointer_in, pointer_out}
use seplogic.Ra.Ura.{Ura}
use base.Logic.{ent, sep}
use base.Fml.{Lft, Fml, ftrue, fhide, flft}
use mir.Syntax.{named}
use mir.Val.{Val}
use contract.Monad.{fact}
use contract.Running.{tables}
use types.Logic.{Logic, sem}
use types.Kit.{‵, raw, ◌⊛◌, at_ret, ◌$◌, ◌∵◌, !, qed, move, keep, drop, use1, split, join, fsplit, fjoin, feq_i, flt_i, suffices, frame, done}
use types.Part.{agg}
use types.Run.{enter, of_opd, load, look, stop, fld, no_more, and_then, first, blocks, exec, returns}
use types.ByLocal.{alloc_all, pass_all, free_all, look_at, get, is, through, sets, sets_last, env}
use denote.Builtin.{usize, RefOf}
use denote.Exit.{yes}
use denote.Memory.{hidden_shr}
use denote.Opens.{shr_dup, unhide, hide}
use denote.Plain.{uint_row_laws}
use denote.RattleType.{RattleType, RowLaws, owns}
use denote.RawPtr.{RawPtr, block_ptr, block_of, count_of, InBlock, ptr_row_laws}
use denote.Ref.{shr_vals, shr_Tells}
use denote.Signature.{plain, types_at}
use denote.Slice.{slice_val}
use denote.Steps.{nothing, heard}
use denote.Struct.Lending.{in_block_says, lent_out}
use denote.Struct.Owning.{shape}
use denote.Struct.Struct.{Struct, Struct-row_laws}
use denote.Triple.Walked.{Stays, walk_of, says, stay_dropped, Goes-dropped, ends_at}
use Rattle.enclave_memory.specs.declared.region.Region.{Region}
use Rattle.enclave_memory.specs.contracts.region.Region as C
use Rattle.enclave_memory.specs.contracts.region.Region.bytes as f
use Rattle.enclave_memory.proofs.region.Region.bytes.Statement.{statement}
use Rattle.enclave_memory.proofs.region.Region.bytes.Code as code

abbrev Words : RattleType
Words = Struct (shape C.the_type)

-- what a `&` to the two words shows of each
module _ {M : Type 1} {𝓤 : Ura M} (𝓛 : Logic 𝓤) (κ : Lft) (b o : ℕ) (h : Region) where
  abbrev S : Fml
  S = hidden_shr Words κ (h.at, (h.size, tt)) b o

  laws : RowLaws Words
  laws = Struct-row_laws (shape C.the_type) (ptr_row_laws, (uint_row_laws w64, tt))

  shows_at : ent 𝓤 (sem 𝓛 S) (sep 𝓤 (sem 𝓛 (hidden_shr RawPtr κ h.at b (o + 0))) (sem 𝓛 S))
  shows_at = qed 𝓛 (‵ S ∷ []) ∵ shr_dup ! Words laws (h.at, (h.size, tt)) b o κ $ unhide ! $ fsplit ! $ fsplit ! $ hide ! $ keep ! (0 ∷ 3 ∷ []) $ done !

  shows_size : ent 𝓤 (sem 𝓛 S) (sep 𝓤 (sem 𝓛 (hidden_shr usize κ h.size b (o + 8))) (sem 𝓛 S))
  shows_size = qed 𝓛 (‵ S ∷ []) ∵ shr_dup ! Words laws (h.at, (h.size, tt)) b o κ $ unhide ! $ fsplit ! $ fsplit ! $ drop ! $ fsplit ! $ hide ! $ keep ! (0 ∷ 3 ∷ []) $ done !

abbrev stayed : Stays f.ended.signature.params f.ended.kept
stayed = (stay_dropped (RefOf (0 ∷ []) tt (plain (λ _. C.the_row)) (λ _. tt)) yes, tt)

pub bytes_spec : {M : Type 1} → statement M
bytes_spec 𝓤 𝓛 𝓜 𝓡 wired =
    let c = f.clauses 𝓛 𝓜.mem 𝓡.returns in let W = walk_of 𝓛 f.ended stayed c in let 𝓣 = tables 𝓤 𝓛.H 𝓜 𝓡 𝓡.env in
    proved 𝓛 f.ended stayed c 𝓜 𝓡 (Goes-dropped 𝓛 1 (RefOf (0 ∷ []) tt (plain (λ _. C.the_row)) (λ _. tt)) yes (λ κs x w. refl), tt)
    f.Key.name code.function (code.unfolded 𝓤 𝓛.H 𝓜 𝓡 wired)
    (λ κs. (shr_vals, tt)) (λ κs. (shr_Tells (named 0) κs.0 C.the_row, tt)) (λ κs qs bounds a _ are.
    let κ = κs.0 in let q = qs.0 in let b = a.0.ref_ptr.0 in let o = a.0.ref_ptr.1 in let h = a.0.now in let xs = h.bytes in let n = length xs in
    let at : ℕ × ℕ = (block_of h.at, count_of h.at) in
    let vs : List Val × Unit {0} = (shr_vals a.0, tt) in
    let fn : n < 2 ^ 64 = omega (arith, h.small, h.counted) in let room : n * 1 < 2 ^ 63 = omega (arith, h.small, h.counted) in
    let y : W.Ghost = ((κs, qs, bounds, a, vs), tt) in
    qed 𝓛 (((‵ (flft κ q) ⊛ ‵ ftrue) ⊛ ‵ (owns (types_at f.ended.signature.params κs) a vs)) ∷ ‵ ftrue ∷ []) ∵
    split ! $ split ! $ move ! (2 ∷ []) $ fsplit ! $ fsplit ! $ drop ! $ keep ! (0 ∷ 2 ∷ []) $
    -- [what the `&` holds; the token]
    enter ! _ _ _ _ _ $ alloc_all ! (λ l. pass_all ! refl ((tt, tt), tt) $
    use1 𝓛 (‵ (S 𝓛 κ b o h) ⊛ ‵ (fhide (C.the_lent h (block_ptr b o) κ))) (lent_out 𝓛 C.struct C.the_codes C.the_heap C.the_lent κ h b o) $ split ! $
    move ! (1 ∷ []) $ unhide ! $ fsplit ! $ use1 𝓛 (raw (fact 𝓤 (InBlock h.at))) (in_block_says 𝓛 h.at) $ heard ! (InBlock h.at) (λ inside. fsplit ! $ drop ! $ hide ! $
    move ! (1 ∷ 2 ∷ []) $ first ! $ blocks ! $
    -- [the words; the token; the bytes]
    pointer_in ! tt h.at inside b (o + 0) (shows_at 𝓛 κ b o h) (λ q'.
    sets ! (of_opd ! (load ! (through ! refl (fld ! refl (stop !))) (look ! 1 refl))) refl (tt, tt) $
    pointer_out ! tt h.at inside b (o + 0) $ move ! (1 ∷ 0 ∷ []) $
    word_in ! tt h.size b (o + 8) (shows_size 𝓛 κ b o h) (λ q'' fs.
    sets ! (of_opd ! (load ! (through ! refl (fld ! refl (stop !))) (look ! 1 refl))) refl (tt, record { fits = fs }) $
    word_out ! tt h.size b (o + 8) fs $
    sets_last ! (agg ! (and_then ! (get ! refl) (and_then ! (get ! refl) (no_more !)))) refl (tt, (tt, (record { fits = fs }, tt))) $
    exec ! 𝓣.C 𝓣.Λ (env code.Mir.locals l) code.Mir.t-2 (at_ret _ (W.post y)) $
    sets ! (is ! (of_opd ! (get ! refl)) (ap (λ (k : ℕ). slice_val at k) h.counted)) refl (tt, (tt, (record { fits = fn }, tt))) $
    returns ! (look_at ! 0 refl) $ free_all ! refl $ keep ! (2 ∷ 0 ∷ []) $
    flt_i ! (n * 1) (2 ^ 63) room $ flt_i ! n (2 ^ 64) fn $ fjoin ! $ feq_i ! (List Val) (slice_val at n ∷ []) (slice_val at n ∷ []) refl $ fjoin ! $ fjoin ! $
    suffices ! _ (ends_at 𝓛 f.ended stayed c y (slice_val at n) (record { ref_ptr = at; now = xs }) (tt, tt) (tt, tt)) $ says ! refl $
    nothing ! $ nothing ! $ join ! $ nothing ! $ move ! (3 ∷ 0 ∷ []) $ join ! $ frame ! $ frame ! $ done !)))))
