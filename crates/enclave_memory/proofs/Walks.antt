-- What the walks of a region rest on: its bytes are lent as a slice, and come back; a new block is filled with zeros; the heap's answer. Assumes `Logic`.
use Rattle.std.proofs.Common.{◌≡◌, ℕ, zero, suc, ◌+◌, ◌-◌, ◌<◌, ◌^◌, Bool, true, false, List, [], ◌∷◌, ◌++◌, length, replicate, refl, sym, ap, ◌∙◌, arith, w8, w64}
use seplogic.Ra.Ura.{Ura}
use base.Fraction.{full_share}
use base.Fml.{Lft, GName, feq, fsep, ftrue, fat, froom, fdead, flent}
use base.Logic.{SProp, ent, sep, ex, emp, guard, fst∗, never}
use mir.Syntax.{Ty, named, ty_int, ty_array}
use mir.Val.{Val, vint, vptr, vstruct, vcons, vnil, of_list}
use types.Logic.{Logic, sem}
use types.Kit.{Goal, Item, Seq, ‵, ◌⊛◌, some, given, later, ◌$◌, ◌∵◌, !, qed, by, move, keep, drop, show, check, use1, use2, use3, split, rewrite, fsplit, fjoin, fpick, feq_i, feq_l, pick, learn, await, updating, now, done}
use types.Match.{live}
use types.SemTy.{Arr, cells}
use denote.Array.{Array}
use denote.Builtin.{u8}
use denote.Index.{whole_in, whole_out}
use denote.Lend.{Held, Lent, lends_slice, slice_back}
use denote.Memory.{mem, part_at}
use denote.Plain.{uint_in}
use denote.RawPtr.{Ptr, block_ptr, null_ptr, ptr_val, room_for, in_a_block}
use denote.Shadow.{makes_shadow}
use denote.Steps.{nothing, only}
use denote.Struct.Owning.{shape}
use denote.Struct.Struct.{Struct}
use denote.RawPtr.Bytes.{bytes, bytes_apart, bytes_whole}
use denote.Slice.{finally}
use Rattle.core.proofs.alloc.Calls.{Answer, answer_val, got}
use Rattle.core.specs.Allocator.{block_if_ok}
use Rattle.core.specs.declared.result.Result.TheVariants.{Ok, Err}
use Rattle.enclave_memory.specs.Region.{right_to_free}
use Rattle.enclave_memory.specs.contracts.region.Region as C

module _ {M : Type 1} {𝓤 : Ura M} (𝓛 : Logic 𝓤) where
  open 𝓛 use {H, A}

  pub lends_bytes : (κ : Lft) (n : ℕ) (xs : List ℕ) (b o : ℕ) → n ≡ length xs → n < 2 ^ 63 → ent 𝓤 (sem 𝓛 (part_at (Array u8 n) full_share xs b o)) (H.⇛ (ex 𝓤 (Lent 𝓛 u8 (named 0) κ xs b o)))
  lends_bytes κ n xs b o e small =
      qed 𝓛 (‵ (part_at (Array u8 n) full_share xs b o) ∷ []) ∵
      use1 𝓛 (‵ (fsep (feq ℕ (length xs) n) (bytes full_share xs b o))) (bytes_apart 𝓛 full_share n xs b o) $ fsplit ! $ feq_l ! (λ _.
      use1 𝓛 (‵ (cells (mem u8) xs b o)) (whole_in 𝓛 u8 xs b o) $ by ! (lends_slice 𝓛 u8 (named 0) κ xs b o (omega (arith, e, small), omega (arith, e, small))))

  pub bytes_back : (κ : Lft) (γ : GName) (n m : ℕ) (ys : List ℕ) (b o : ℕ) → n ≡ m → ent 𝓤 (sep 𝓤 (A.dead κ) (sep 𝓤 (A.lent κ (Held u8 m b o γ)) (sem 𝓛 (finally u8 γ ys)))) (H.⇛ (sem 𝓛 (part_at (Array u8 n) full_share ys b o)))
  bytes_back κ γ n m ys b o e =
      qed 𝓛 (‵ (fdead κ) ∷ ‵ (flent κ (Held u8 m b o γ)) ∷ ‵ (finally u8 γ ys) ∷ []) ∵ updating ! $
      use3 𝓛 (later (‵ ((Arr (mem u8) m).own_at ys b o))) (slice_back 𝓛 u8 κ γ ys m b o) $ await ! tt $ fsplit ! $ feq_l ! (λ long.
      use1 𝓛 (‵ (bytes full_share ys b o)) (whole_out 𝓛 u8 ys b o) $ feq_i ! ℕ (length ys) n (long ∙ sym e) $ fjoin ! $
      use1 𝓛 (‵ (part_at (Array u8 n) full_share ys b o)) (bytes_whole 𝓛 full_share n ys b o) $ now ! $ done !)

  -- one byte more is set to 0
  pub zero_more : (i b o : ℕ) → ent 𝓤 (sep 𝓤 (sem 𝓛 (bytes full_share (replicate i 0) b o)) (H.at full_share (ty_int w8) b (i + o) (vint w8 0))) (sem 𝓛 (bytes full_share (replicate (suc i) 0) b o))
  zero_more zero b o =
      let e : 0 + o ≡ o = omega arith in
      qed 𝓛 (‵ (bytes full_share (replicate 0 0) b o) ∷ ‵ (fat full_share (ty_int w8) b (0 + o) (vint w8 0)) ∷ []) ∵ drop ! $
      rewrite ! 0 (λ (k : ℕ). ‵ (fat full_share (ty_int w8) b k (vint w8 0))) e refl $
      use1 𝓛 (‵ (part_at u8 full_share 0 b o)) (uint_in 𝓛 full_share w8 0 b o) $ nothing ! $ move ! (1 ∷ 0 ∷ []) $ fjoin ! $ done !
  zero_more (suc i) b o =
      let e : suc i + o ≡ i + (o + 1) = omega arith in
      qed 𝓛 (‵ (bytes full_share (replicate (suc i) 0) b o) ∷ ‵ (fat full_share (ty_int w8) b (suc i + o) (vint w8 0)) ∷ []) ∵ fsplit ! $ move ! (1 ∷ 2 ∷ []) $
      rewrite ! 1 (λ (k : ℕ). ‵ (fat full_share (ty_int w8) b k (vint w8 0))) e refl $
      use2 𝓛 (‵ (bytes full_share (replicate (suc i) 0) b (o + 1))) (zero_more i b (o + 1)) $ move ! (1 ∷ 0 ∷ []) $ fjoin ! $ done !

  -- the first byte of the room that is left
  pub one_byte : (i n b o : ℕ) → i < n → ent 𝓤 (H.room (ty_array (ty_int w8) (n - i)) b (i + o)) (sep 𝓤 (H.room (ty_int w8) b (i + o)) (H.room (ty_array (ty_int w8) (n - suc i)) b (suc i + o)))
  one_byte i n b o less =
      let e : n - i ≡ suc (n - suc i) = omega (arith, less) in let p : i + o + 1 ≡ suc i + o = omega arith in
      qed 𝓛 (‵ (froom (ty_array (ty_int w8) (n - i)) b (i + o)) ∷ []) ∵ rewrite ! 0 (λ (k : ℕ). ‵ (froom (ty_array (ty_int w8) k) b (i + o))) e refl $
      use1 𝓛 (‵ (froom (ty_int w8) b (i + o)) ⊛ ‵ (froom (ty_array (ty_int w8) (n - suc i)) b (i + o + 1))) (𝓛.laws.room_uncons (ty_int w8) (n - suc i) b (i + o)) $ split ! $
      rewrite ! 1 (λ (k : ℕ). ‵ (froom (ty_array (ty_int w8) (n - suc i)) b k)) p refl $ done !

  -- the two words of a region are made of nothing
  pub words_made : (b o n : ℕ) → n < 2 ^ 64 → ent 𝓤 (emp 𝓤) (sem 𝓛 ((Struct (shape C.the_type)).own_val (block_ptr b o, (n, tt)) (vstruct (vcons (vptr b o) (vcons (vint w64 n) vnil)) ∷ [])))
  words_made b o n fits =
      makes_shadow 𝓛 ((Struct (shape C.the_type)).own_val (block_ptr b o, (n, tt)) (vstruct (vcons (vptr b o) (vcons (vint w64 n) vnil)) ∷ [])) (λ _. (tt, (tt, ((tt, tt), tt))))
      ((vptr b o ∷ [], (vint w64 n ∷ [], tt)), (refl, (refl, ((refl, fits), tt))))

  -- what the heap answered, by a flag and a place
  abbrev pub Answered : Ty → Val → Bool × (ℕ × ℕ) → SProp 𝓤
  Answered τ v c = guard 𝓤 (v ≡ answer_val c.0 c.1.0 c.1.1) (sem 𝓛 (got right_to_free τ c.0 c.1.0 c.1.1))

  pub answered : (τ : Ty) (v : Val) (r : Answer.Denot) → ent 𝓤 (sep 𝓤 (sem 𝓛 (Answer.own_val r (v ∷ []))) (sem 𝓛 (block_if_ok right_to_free τ r))) (ex 𝓤 (Answered τ v))
  answered τ v (Ok r) =
      qed 𝓛 (‵ (Answer.own_val (Ok r) (v ∷ [])) ∷ ‵ (fsep (room_for τ r) (right_to_free τ r)) ∷ []) ∵
      fpick ! (λ us. fsplit ! $ feq_l ! (λ e. fpick ! (λ vss. fsplit ! $ feq_l ! (λ e'. fsplit ! $ feq_l ! (λ e''. drop ! $
      in_a_block ! r (λ z. fsep (room_for τ z) (right_to_free τ z)) (fst∗ 𝓤 (never 𝓤) (sem 𝓛 (right_to_free τ null_ptr))) (λ b o at.
      show ! (Answered τ v) (true, (b, o)) $
      check ! (ap only e ∙ ap (λ (ws : List Val). live 0 (of_list ws)) (e' ∙ ap (λ (ws : List Val). ws ++ []) (e'' ∙ ap (λ (z : Ptr). ptr_val z ∷ []) at))) $ done !))))))
  answered τ v (Err n) =
      qed 𝓛 (‵ (Answer.own_val (Err n) (v ∷ [])) ∷ ‵ ftrue ∷ []) ∵
      fpick ! (λ us. fsplit ! $ feq_l ! (λ e. fpick ! (λ vss. fsplit ! $ feq_l ! (λ e'. fsplit ! $ fpick ! (λ none. fsplit ! $ feq_l ! (λ e''. keep ! [] $
      show ! (Answered τ v) (false, (0, 0)) $
      check ! (ap only e ∙ ap (λ (ws : List Val). live 1 (of_list ws)) (e' ∙ ap (λ (ws : List Val). ws ++ []) e'')) $ done !))))))

module _ {M : Type 1} {𝓤 : Ura M} {𝓛 : Logic 𝓤} {K : Type 0} {Γ : List (Item 𝓤)} {G : Goal 𝓤 𝓛.H} where
  answers_at : (τ : Ty) (v : Val) (y : Bool) (b o : ℕ) → K → v ≡ answer_val y b o
      → ((b o : ℕ) → v ≡ answer_val true b o → Seq K 𝓛 (‵ (froom τ b o) ∷ ‵ (right_to_free τ (block_ptr b o)) ∷ Γ) G) → (v ≡ answer_val false 0 0 → Seq K 𝓛 Γ G) → Seq K 𝓛 (‵ (got right_to_free τ y b o) ∷ Γ) G
  answers_at τ v true b o t e ok none = fsplit t $ ok b o e
  answers_at τ v false b o t e ok none = drop t $ none e

  -- a proof's step: the two cases of what the heap answered
  pub answers : K → (τ : Ty) (v : Val)
      → ((b o : ℕ) → v ≡ answer_val true b o → Seq K 𝓛 (‵ (froom τ b o) ∷ ‵ (right_to_free τ (block_ptr b o)) ∷ Γ) G) → (v ≡ answer_val false 0 0 → Seq K 𝓛 Γ G)
      → Seq K 𝓛 (some (λ (c : Bool × (ℕ × ℕ)). given (v ≡ answer_val c.0 c.1.0 c.1.1) (‵ (got right_to_free τ c.0 c.1.0 c.1.1))) ∷ Γ) G
  answers t τ v ok none = pick t (λ c. learn t (λ e. answers_at τ v c.0 c.1.0 c.1.1 t e ok none))
