-- Whatever the host does, an OCALL leaves each block as long as it was.
use Rattle.std.proofs.Common.{ℕ, zero, suc, ◌+◌, ◌-◌, ◌*◌, ◌/◌, ◌≡◌, ◌≤◌, ◌==◌, ◌&&◌, ◌||◌, not, nat_lt, ◌⊎◌, inl, inr, Bool, true, false, if◌then◌else◌, List, [], ◌∷◌, ◌++◌, length, take, drop, map, filter, zip, position, Option, Some, None, Result, Ok, Err, option_map, slice_get, slice_set, refl, ap, sym, ◌∙◌, subst, arith, length-append, length-take, length-drop}
use Rattle.std.specs.Prelude.{unwrap_or, option_and_then}
use Rattle.std.specs.List.{list_any}
use Rattle.std.proofs.lemmas.Bool.{eqb-false, ltb-false}
use Rattle.std.proofs.Math.Nat.{suc-mul}
use Rattle.sgx_base.specs.Bytes.{with_bytes_at}
use Rattle.sgx_base.specs.Rows.{first_row}
use Rattle.sgx_base.specs.Texts.{units, is_zero_unit, terminated_text, terminated_length}
use Rattle.sgx_base.specs.declared.Status.{Status}
use Rattle.edl_interface.specs.declared.Param.{Param}
use Rattle.edl_interface.specs.declared.Function.{Function}
use Rattle.edl_interface.specs.Parameters.{marshalled, is_marshalled, is_out, is_text, unit_of, return_size}
use Rattle.edl_interface.specs.Lengths.{length_in}
use Rattle.word_port.specs.declared.Side.TheVariants.{Enclave}
use Rattle.word_port.specs.Events.{Event, made, ticked, placed, new_record}
use Rattle.word_port.specs.Interaction.{Interaction, ret, here, tick, and_then, map_value, IsRun}
use Rattle.word_port.specs.Accesses.{loads, stores}
use Rattle.word_port.proofs.OneRun.{not_ended}
use Rattle.call_copy.proofs.TextLaws.{length-text}
use Rattle.enclave_memory.specs.Arguments.{Argument, number, bytes, Passed, by_number, by_place, argument_of, places_in}
use Rattle.ocall_frames.specs.Frames.{Buffer, numbers_structure, argument_length, has_no_length, exceeds_block, buffer_bytes, buffers_from, buffers_of, frame_bytes, buffer_loads, Reply, return_value, read_reply, block_after, blocks_after}
use Rattle.call_machine.specs.declared.Machine.{Machine}
use Rattle.call_machine.specs.Context.{Context}
use Rattle.call_machine.specs.Result.{is_success}
use Rattle.call_machine.specs.Ecall.{OcallOutcome}
use Rattle.call_machine.specs.Ocall.{Handlers, HostSide, OcallDone, ocall_rows, ocall_frame, host_run, handler_context, no_reply, answer_loads, unrefused_ocall, ocall_or_refusal, ocall_outcome, ocall_by}
use Rattle.call_machine.specs.Bodies.{block_length, KeepLengths}
use Rattle.call_laws.proofs.Lengths.{FitArguments, OcallsKeepLengths}
use Rattle.call_laws.specs.Transfers.{loads_of}
use Rattle.call_laws.proofs.RunParts.{IsTwoRuns, two_runs, ret_run, IsMappedRun, mapped_run, IsPlacedRun, placed_run, IsAllowedRun, allowed_run}
use Rattle.call_laws.proofs.TransferLaws.{loads_run}
use Rattle.call_machine.proofs.BlockLengths.{keep_same, keep_set, change_length}

-- what was loaded is as long as the buffers, and nothing is of a buffer with no bytes
abbrev AreLoaded : List Buffer → List (Option (List ℕ)) → Type 0
AreLoaded [] [] = Unit {0}
AreLoaded (b ∷ buffers) (None ∷ loaded) = AreLoaded buffers loaded
AreLoaded (b ∷ buffers) (Some these ∷ loaded) = (length these ≡ length b.content) × (¬ (length b.content ≡ 0)) × AreLoaded buffers loaded
AreLoaded _ _ = ⊥

both_hold : (a b : Bool) → (a && not b) ≡ true → b ≡ false
both_hold true true e = cc
both_hold true false e = refl
both_hold false b e = cc

buffer_run : (b : Buffer) (more : List Buffer) (c : Bool) → (is_out b.param.class && not (length b.content == 0)) ≡ c → (events : List Event) (loaded : List (Option (List ℕ)))
    → ((es : List Event) (l : List (Option (List ℕ))) → IsRun (buffer_loads more) es l → AreLoaded more l)
    → IsRun (if c then and_then (loads Enclave b.address (length b.content)) (λ these. map_value (λ rest. Some these ∷ rest) (buffer_loads more))
    else map_value (λ rest. None ∷ rest) (buffer_loads more)) events loaded
    → AreLoaded (b ∷ more) loaded
buffer_run b more true e events loaded others h =
    let goes_on : List ℕ → Interaction (List (Option (List ℕ))) = λ these. map_value (λ rest. Some these ∷ rest) (buffer_loads more) in
    let r : IsTwoRuns (loads Enclave b.address (length b.content)) goes_on events loaded = two_runs (loads Enclave b.address (length b.content)) goes_on events loaded h in
    let g : IsMappedRun (λ rest. Some r.middle ∷ rest) (buffer_loads more) r.rest loaded = mapped_run (λ rest. Some r.middle ∷ rest) (buffer_loads more) r.rest loaded r.rest_run in
    let whole : (length r.middle ≡ length b.content) × (r.first ≡ loads_of b.address r.middle) = loads_run b.address (length b.content) r.first r.middle r.first_run in
    let some : ¬ (length b.content ≡ 0) = eqb-false (length b.content) 0 (both_hold (is_out b.param.class) (length b.content == 0) e) in
    subst (λ l. AreLoaded (b ∷ more) l) g.value_is (whole.0, some, others r.rest g.value g.run)
buffer_run b more false e events loaded others h =
    let g : IsMappedRun (λ rest. None ∷ rest) (buffer_loads more) events loaded = mapped_run (λ rest. None ∷ rest) (buffer_loads more) events loaded h in
    subst (λ l. AreLoaded (b ∷ more) l) g.value_is (others events g.value g.run)

buffers_run : (buffers : List Buffer) (events : List Event) (loaded : List (Option (List ℕ))) → IsRun (buffer_loads buffers) events loaded → AreLoaded buffers loaded
buffers_run [] events loaded h =
    let end : (events ≡ []) × ([] ≡ loaded) = ret_run [] events loaded h in
    subst (λ l. AreLoaded [] l) end.1 tt
buffers_run (b ∷ more) events loaded h =
    buffer_run b more (is_out b.param.class && not (length b.content == 0)) refl events loaded (λ es l g. buffers_run more es l g) h

-- a string ends behind its first unit
whole_units : (unit n : ℕ) (found : Option ℕ) → option_map (λ k. (k + 1) * unit) found ≡ Some n → unit ≤ n
whole_units unit n None e = cc
whole_units unit n (Some k) e =
    let same : (k + 1) * unit ≡ n = cc in
    let next : k + 1 ≡ suc k = omega arith in
    let parts : (k + 1) * unit ≡ k * unit + unit = ap (λ j. j * unit) next ∙ suc-mul k unit in
    omega (arith, same, parts)

taken_length : (n : ℕ) (block : List ℕ) → length (take n block) ≤ length block
taken_length n block = let cut = length-take n block in omega (arith, cut)

taken_whole : (n : ℕ) (block : List ℕ) → n ≤ length block → length (take n block) ≡ n
taken_whole n block le = let cut = length-take n block in omega (arith, cut, le)

-- what comes back of a string or a buffer is no longer than its block
text_fits : (unit : ℕ) (block these : List ℕ) (n : Option ℕ) → terminated_length unit block ≡ n → has_no_length n ≡ false → nat_lt (length block) (unwrap_or n 0) ≡ false
    → length these ≡ length (take (unwrap_or n 0) block) → length (terminated_text unit these) ≤ length block
text_fits unit block these None found e less same = cc
text_fits unit block these (Some n) found e less same =
    let within : n ≤ length block = ltb-false (length block) n less in
    let fits : unit ≤ n = whole_units unit n (position is_zero_unit (units unit (length block / unit) block)) found in
    let whole : length these ≡ n = same ∙ taken_whole n block within in
    let unit_fits : unit ≤ length these = subst (λ k. unit ≤ k) (sym whole) fits in
    let kept : length (terminated_text unit these) ≡ length these = length-text unit these unit_fits in
    omega (arith, kept, whole, within)

back_fits : (text : Bool) (unit : ℕ) (block these : List ℕ) (o : Option ℕ) → has_no_length (if text then terminated_length unit block else o) ≡ false
    → nat_lt (length block) (unwrap_or (if text then terminated_length unit block else o) 0) ≡ false
    → length these ≡ length (take (unwrap_or (if text then terminated_length unit block else o) 0) block)
    → length (if text then terminated_text unit these else these) ≤ length block
back_fits true unit block these o e less same = text_fits unit block these (terminated_length unit block) refl e less same
back_fits false unit block these o e less same = let le : length (take (unwrap_or o 0) block) ≤ length block = taken_length (unwrap_or o 0) block in omega (arith, same, le)

-- a block whose first bytes are replaced
replaced_length : (block others : List ℕ) → length others ≤ length block → length (with_bytes_at block 0 others) ≡ length block
replaced_length block others le =
    let joined : length (others ++ drop (0 + length others) block) ≡ length others + length (drop (0 + length others) block) = length-append others (drop (0 + length others) block) in
    let rest : length (drop (0 + length others) block) ≡ length block - (0 + length others) = length-drop (0 + length others) block in
    omega (arith, joined, rest, le)

-- a block in a place where another is as long
keep_at : (xs ys : List (Option (List ℕ))) (k : ℕ) (block : List ℕ) → KeepLengths xs ys → unwrap_or (slice_get xs k) None ≡ Some block
    → block_length (unwrap_or (slice_get ys k) None) ≡ Some (length block)
keep_at [] ys k block h e = cc
keep_at (x ∷ xs) [] k block h e = absurd h
keep_at (x ∷ xs) (y ∷ ys) zero block h e = h.0 ∙ ap (λ b. block_length b) e
keep_at (x ∷ xs) (y ∷ ys) (suc k) block h e = keep_at xs ys k block h.1 e

either_false : (a b : Bool) → (a || b) ≡ false → (a ≡ false) × (b ≡ false)
either_false true b e = cc
either_false false b e = (refl, e)

module _ (f : Function) (structure : List ℕ) (blocks : List (Option (List ℕ))) where
  -- each marshalled parameter with its argument
  abbrev pairs : List Param → List Passed → List (Param × Argument)
  pairs params passed = zip params (map (argument_of blocks) passed)

  abbrev NoneLacks : List (Param × Argument) → Type 0
  NoneLacks l = list_any (λ (p, a). has_no_length (argument_length f structure p a)) l ≡ false

  abbrev NoneExceeds : List (Param × Argument) → Type 0
  NoneExceeds l = list_any (λ (p, a). exceeds_block (argument_length f structure p a) a) l ≡ false

  -- the bytes of one block come back
  bytes_back_fit : (p : Param) (these : List ℕ) (now : Option (List ℕ)) (was : Option (List ℕ))
      → has_no_length (argument_length f structure p (bytes was)) ≡ false → exceeds_block (argument_length f structure p (bytes was)) (bytes was) ≡ false
      → length these ≡ length (buffer_bytes (argument_length f structure p (bytes was)) (bytes was)) → ¬ (length (buffer_bytes (argument_length f structure p (bytes was)) (bytes was)) ≡ 0)
      → ((block : List ℕ) → was ≡ Some block → block_length now ≡ Some (length block))
      → block_length (option_map (block_after p.class (Some these)) now) ≡ block_length now
  bytes_back_fit p these now None has less same some at = absurd (some refl)
  bytes_back_fit p these None (Some block) has less same some at = refl
  bytes_back_fit p these (Some cur) (Some block) has less same some at =
      let long : Some (length cur) ≡ Some (length block) = at block refl in
      let as_long : length cur ≡ length block = cc in
      let others : List ℕ = if is_text p.class then terminated_text (unit_of p.class) these else these in
      let fits : length others ≤ length block = back_fits (is_text p.class) (unit_of p.class) block these (Some (length_in f structure p)) has less same in
      let fits_now : length others ≤ length cur = subst (λ n. length others ≤ n) (sym as_long) fits in
      ap (λ n. Some n) (replaced_length cur others fits_now)

  -- what came back of one buffer
  abbrev IsBack : List ℕ → Option (List ℕ) → Type 0
  IsBack content None = Unit {0}
  IsBack content (Some these) = (length these ≡ length content) × (¬ (length content ≡ 0))

  loaded_parts : (b : Buffer) (more : List Buffer) (x : Option (List ℕ)) (loaded : List (Option (List ℕ))) → AreLoaded (b ∷ more) (x ∷ loaded) → IsBack b.content x × AreLoaded more loaded
  loaded_parts b more None loaded l = (tt, l)
  loaded_parts b more (Some these) loaded l = ((l.0, l.1), l.2)

  -- the argument of a block
  abbrev block_at : Option ℕ → Option (List ℕ)
  block_at place = option_and_then (λ k. unwrap_or (slice_get blocks k) None) place

  place_keeps : (p : Param) (place : Option ℕ) (x : Option (List ℕ)) (params : List Param) (places : List (Option ℕ)) (loaded current : List (Option (List ℕ)))
      → has_no_length (argument_length f structure p (bytes (block_at place))) ≡ false
      → exceeds_block (argument_length f structure p (bytes (block_at place))) (bytes (block_at place)) ≡ false
      → IsBack (buffer_bytes (argument_length f structure p (bytes (block_at place))) (bytes (block_at place))) x
      → KeepLengths blocks current
      → ((now : List (Option (List ℕ))) → KeepLengths blocks now → KeepLengths blocks (blocks_after params places loaded now))
      → KeepLengths blocks (blocks_after (p ∷ params) (place ∷ places) (x ∷ loaded) current)
  place_keeps p None x params places loaded current has less back k others = others current k
  place_keeps p (Some j) None params places loaded current has less back k others =
      let now : Option (List ℕ) = unwrap_or (slice_get current j) None in
      others (slice_set current j (option_map (block_after p.class None) now))
      (keep_set blocks current j (option_map (block_after p.class None) now) k (change_length (block_after p.class None) (λ block. refl) now))
  place_keeps p (Some j) (Some these) params places loaded current has less back k others =
      let now : Option (List ℕ) = unwrap_or (slice_get current j) None in
      others (slice_set current j (option_map (block_after p.class (Some these)) now))
      (keep_set blocks current j (option_map (block_after p.class (Some these)) now) k
      (bytes_back_fit p these now (unwrap_or (slice_get blocks j) None) has less back.0 back.1 (λ block e. keep_at blocks current j block k e)))

  -- the parameters that are marshalled
  abbrev kept_params : List Param → List Param
  kept_params params = filter (λ p. is_marshalled p.class) params

  back_keeps : (params : List Param) (passed : List Passed) (next : ℕ) (loaded current : List (Option (List ℕ)))
      → FitArguments params passed → NoneLacks (pairs params passed) → NoneExceeds (pairs params passed)
      → AreLoaded (buffers_from f structure next (pairs params passed)) loaded → KeepLengths blocks current
      → KeepLengths blocks (blocks_after (kept_params params) (places_in passed) loaded current)
  back_keeps [] [] next loaded current fit has less l k = k
  back_keeps [] (a ∷ passed) next loaded current fit has less l k = absurd fit
  back_keeps (p ∷ params) [] next loaded current fit has less l k = absurd fit
  back_keeps (p ∷ params) (by_number n ∷ passed) next loaded current fit has less l k =
      let content : List ℕ = buffer_bytes (argument_length f structure p (number n)) (number n) in
      let more : List Buffer = buffers_from f structure (next + length content) (pairs params passed) in
      let b : Buffer = record { param = p; address = if length content == 0 then 0 else next; content = content } in
      let rest : AreLoaded more loaded = subst (λ c. AreLoaded (if c then b ∷ more else more) loaded) fit.0 l in
      subst (λ c. KeepLengths blocks (blocks_after (if c then p ∷ kept_params params else kept_params params) (places_in passed) loaded current)) (sym fit.0)
      (back_keeps params passed (next + length content) loaded current fit.1 has less rest k)
  back_keeps (p ∷ params) (by_place place ∷ passed) next [] current fit has less l k =
      let a : Argument = bytes (block_at place) in
      let content : List ℕ = buffer_bytes (argument_length f structure p a) a in
      let more : List Buffer = buffers_from f structure (next + length content) (pairs params passed) in
      let b : Buffer = record { param = p; address = if length content == 0 then 0 else next; content = content } in
      absurd (subst (λ c. AreLoaded (if c then b ∷ more else more) []) fit.0 l)
  back_keeps (p ∷ params) (by_place place ∷ passed) next (x ∷ loaded) current fit has less l k =
      let a : Argument = bytes (block_at place) in
      let content : List ℕ = buffer_bytes (argument_length f structure p a) a in
      let more : List Buffer = buffers_from f structure (next + length content) (pairs params passed) in
      let b : Buffer = record { param = p; address = if length content == 0 then 0 else next; content = content } in
      let parts : IsBack content x × AreLoaded more loaded = loaded_parts b more x loaded (subst (λ c. AreLoaded (if c then b ∷ more else more) (x ∷ loaded)) fit.0 l) in
      let has_parts : (has_no_length (argument_length f structure p a) ≡ false) × NoneLacks (pairs params passed) = either_false _ _ has in
      let less_parts : (exceeds_block (argument_length f structure p a) a ≡ false) × NoneExceeds (pairs params passed) = either_false _ _ less in
      subst (λ c. KeepLengths blocks (blocks_after (if c then p ∷ kept_params params else kept_params params) (place ∷ places_in passed) (x ∷ loaded) current)) (sym fit.0)
      (place_keeps p place x (kept_params params) (places_in passed) loaded current has_parts.0 less_parts.0 parts.0 k
      (λ now kept. back_keeps params passed (next + length content) loaded now fit.1 has_parts.1 less_parts.1 parts.1 kept))

-- where nothing came back, nothing changes
nothing_back : (blocks : List (Option (List ℕ))) (params : List Param) (places : List (Option ℕ)) → KeepLengths blocks (blocks_after params places [] blocks)
nothing_back blocks [] places = keep_same blocks
nothing_back blocks (p ∷ params) [] = keep_same blocks
nothing_back blocks (p ∷ params) (None ∷ places) = keep_same blocks
nothing_back blocks (p ∷ params) (Some k ∷ places) = keep_same blocks

ticked_run : {A : Type 0} (next : Interaction A) (events : List Event) (y : A) → IsRun (tick new_record next) events y → (es : List Event) × IsRun next es y
ticked_run next [] y h = absurd (not_ended (tick new_record next) y h)
ticked_run next (made s ∷ es) y h = absurd h
ticked_run next (ticked k ∷ es) y h = (es, h.1)
ticked_run next (placed n ∷ es) y h = absurd h

module _ (f : Function) (arguments : List Argument) where
  -- what a reply loaded
  reply_run : (frame : ℕ) (events : List Event) (reply : Reply) → IsRun (read_reply f arguments frame) events reply → AreLoaded (buffers_of f arguments frame) reply.loaded
  unfolding read_reply
  reply_run frame events reply h =
      let buffers : List Buffer = buffers_of f arguments frame in
      let goes_on : List ℕ → Interaction Reply = λ returned. map_value (λ loaded. record { value = return_value f returned; loaded = loaded }) (buffer_loads buffers) in
      let r : IsTwoRuns (loads Enclave frame (return_size f)) goes_on events reply = two_runs (loads Enclave frame (return_size f)) goes_on events reply h in
      let make : List (Option (List ℕ)) → Reply = λ loaded. record { value = return_value f r.middle; loaded = loaded } in
      let g : IsMappedRun make (buffer_loads buffers) r.rest reply = mapped_run make (buffer_loads buffers) r.rest reply r.rest_run in
      subst (λ (q : Reply). AreLoaded buffers q.loaded) g.value_is (buffers_run buffers r.rest g.value g.run)

  abbrev IsLoadedReply : ℕ → List (Option (List ℕ)) → Type 0
  IsLoadedReply frame loaded = (loaded ≡ []) ⊎ AreLoaded (buffers_of f arguments frame) loaded

  answer_run : (frame : ℕ) (host : HostSide) (c : Bool) (events : List Event) (done : OcallDone)
      → IsRun (if c then here (λ turn. map_value (λ reply. record { frame = frame; host = host; turn = Some turn; reply = reply }) (read_reply f arguments frame))
      else ret (record { frame = frame; host = host; turn = None; reply = no_reply })) events done
      → IsLoadedReply frame done.reply.loaded
  answer_run frame host true events done h =
      let make : ℕ → Reply → OcallDone = λ turn reply. record { frame = frame; host = host; turn = Some turn; reply = reply } in
      let p : IsPlacedRun (λ turn. map_value (make turn) (read_reply f arguments frame)) events done = placed_run (λ turn. map_value (make turn) (read_reply f arguments frame)) events done h in
      let g : IsMappedRun (make p.place) (read_reply f arguments frame) p.rest done = mapped_run (make p.place) (read_reply f arguments frame) p.rest done p.run in
      subst (λ (d : OcallDone). IsLoadedReply frame d.reply.loaded) g.value_is (inr (reply_run frame p.rest g.value g.run))
  answer_run frame host false events done h =
      let none : OcallDone = record { frame = frame; host = host; turn = None; reply = no_reply } in
      let end : (events ≡ []) × (none ≡ done) = ret_run none events done h in
      inl (ap (λ (d : OcallDone). d.reply.loaded) (sym end.1))

  module _ (m : Machine) (handlers : Handlers) (cx : Context) (ordinal : ℕ) where
    done_run : (events : List Event) (done : OcallDone) → IsRun (unrefused_ocall m handlers cx ordinal arguments f) events done → IsLoadedReply (ocall_frame cx f arguments) done.reply.loaded
    done_run events done h =
        let frame : ℕ = ocall_frame cx f arguments in
        let hosted : Interaction HostSide = host_run m handlers (handler_context cx ordinal f frame) ordinal f frame in
        let after : Unit {0} → Interaction OcallDone = λ stored. and_then hosted (answer_loads f arguments frame) in
        let r : IsTwoRuns (stores Enclave frame (frame_bytes f arguments frame)) after events done = two_runs (stores Enclave frame (frame_bytes f arguments frame)) after events done h in
        let q : IsTwoRuns hosted (answer_loads f arguments frame) r.rest done = two_runs hosted (answer_loads f arguments frame) r.rest done r.rest_run in
        answer_run frame q.middle (is_success q.middle.status) q.rest done q.rest_run

    -- what came back, and that no row refused it
    abbrev IsBackFrom : List (Option (List ℕ)) → Type 0
    IsBackFrom loaded = (loaded ≡ []) ⊎ ((first_row (ocall_rows cx f arguments) ≡ None) × AreLoaded (buffers_of f arguments (ocall_frame cx f arguments)) loaded)

    abbrev ResultBack : Result OcallDone Status → Type 0
    ResultBack (Err status) = Unit {0}
    ResultBack (Ok done) = IsBackFrom done.reply.loaded

    allowed_back : (loaded : List (Option (List ℕ))) → first_row (ocall_rows cx f arguments) ≡ None → IsLoadedReply (ocall_frame cx f arguments) loaded → IsBackFrom loaded
    allowed_back loaded none (inl e) = inl e
    allowed_back loaded none (inr l) = inr (none, l)

    result_run : (events : List Event) (result : Result OcallDone Status)
        → IsAllowedRun (first_row (ocall_rows cx f arguments)) (λ allowed. map_value (λ done. Ok done) (unrefused_ocall m handlers cx ordinal arguments f)) events result → ResultBack result
    result_run events result (inl q) =
        let g : IsMappedRun (λ done. Ok done) (unrefused_ocall m handlers cx ordinal arguments f) events result =
        mapped_run (λ done. Ok done) (unrefused_ocall m handlers cx ordinal arguments f) events result q.1 in
        subst (λ z. ResultBack z) g.value_is (allowed_back g.value.reply.loaded q.0 (done_run events g.value g.run))
    result_run events result (inr q) = subst (λ z. ResultBack z) q.3 tt

    outcome_back : (first last : ℕ) (result : Result OcallDone Status) → ResultBack result → IsBackFrom (ocall_outcome cx ordinal first last result).loaded
    outcome_back first last (Err status) h = inl refl
    outcome_back first last (Ok done) h = h

    ocall_run : slice_get m.interface.ocalls ordinal ≡ Some f → (events : List Event) (out : OcallOutcome) → IsRun (ocall_by m handlers cx ordinal arguments) events out → IsBackFrom out.loaded
    unfolding ocall_by
    ocall_run found events out h =
        let made_by : Interaction (Result OcallDone Status) = ocall_or_refusal m handlers cx ordinal arguments (slice_get m.interface.ocalls ordinal) in
        let ends : ℕ → Result OcallDone Status → ℕ → Interaction OcallOutcome = λ first result last. ret (ocall_outcome cx ordinal first last result) in
        let begins : ℕ → Interaction OcallOutcome = λ first. and_then made_by (λ result. here (ends first result)) in
        let (es, run) = ticked_run (here begins) events out h in
        let p : IsPlacedRun begins es out = placed_run begins es out run in
        let r : IsTwoRuns made_by (λ result. here (ends p.place result)) p.rest out = two_runs made_by (λ result. here (ends p.place result)) p.rest out p.run in
        let q : IsPlacedRun (ends p.place r.middle) r.rest out = placed_run (ends p.place r.middle) r.rest out r.rest_run in
        let end : (q.rest ≡ []) × (ocall_outcome cx ordinal p.place q.place r.middle ≡ out) = ret_run (ocall_outcome cx ordinal p.place q.place r.middle) q.rest out q.run in
        let result : ResultBack r.middle =
        result_run r.first r.middle
        (allowed_run (first_row (ocall_rows cx f arguments)) (λ allowed. map_value (λ done. Ok done) (unrefused_ocall m handlers cx ordinal arguments f)) r.first r.middle
        (subst (λ o. IsRun (ocall_or_refusal m handlers cx ordinal arguments o) r.first r.middle) found r.first_run)) in
        subst (λ (o : OcallOutcome). IsBackFrom o.loaded) end.1 (outcome_back p.place q.place r.middle result)

two_fail : (a b : Bool) (x y : Status) (o : Option Status) → (if a then Some x else (if b then Some y else o)) ≡ None → (a ≡ false) × (b ≡ false)
two_fail true b x y o e = cc
two_fail false true x y o e = cc
two_fail false false x y o e = (refl, refl)

module _ (m : Machine) (handlers : Handlers) where
  back_kept : (f : Function) (cx : Context) (ordinal : ℕ) (blocks : List (Option (List ℕ))) (passed : List Passed) (loaded : List (Option (List ℕ)))
      → FitArguments f.params passed → IsBackFrom f (map (argument_of blocks) passed) m handlers cx ordinal loaded
      → KeepLengths blocks (blocks_after (marshalled f) (places_in passed) loaded blocks)
  back_kept f cx ordinal blocks passed loaded fit (inl e) =
      subst (λ l. KeepLengths blocks (blocks_after (marshalled f) (places_in passed) l blocks)) (sym e) (nothing_back blocks (marshalled f) (places_in passed))
  back_kept f cx ordinal blocks passed loaded fit (inr q) =
      let arguments : List Argument = map (argument_of blocks) passed in
      let structure : List ℕ = numbers_structure f arguments in
      let rows = two_fail _ _ _ _ _ q.0 in
      back_keeps f structure blocks f.params passed (ocall_frame cx f arguments + f.frame_size) loaded blocks fit rows.0 rows.1 q.1 (keep_same blocks)

  pub ocalls_keep : OcallsKeepLengths m (ocall_by m handlers)
  ocalls_keep f cx ordinal blocks passed events out found fit h =
      back_kept f cx ordinal blocks passed out.loaded fit (ocall_run f (map (argument_of blocks) passed) m handlers cx ordinal found events out h)
