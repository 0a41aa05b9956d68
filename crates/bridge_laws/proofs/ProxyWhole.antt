-- The list of the proxy of an OCALL with a frame does what the OCALL is defined to do, where its fields lie apart.
use Rattle.std.proofs.Common.{ℕ, ◌+◌, ◌≡◌, ◌&&◌, Bool, true, false, if◌then◌else◌, List, [], ◌∷◌, ◌++◌, length, map, zip, replicate, fold, Option, Some, None, is_none, is_some, Ok, Err, refl, ap, sym, ◌∙◌, append_assoc}
use Rattle.std.specs.Prelude.{unwrap_or, flat_map}
use Rattle.std.specs.List.{list_any}
use Rattle.sgx_base.specs.Bytes.{low_bytes, with_bytes_at}
use Rattle.sgx_base.specs.Rows.{unless_refused}
use Rattle.sgx_base.specs.declared.TheConstants.Status.{UNEXPECTED, INVALID_PARAMETER}
use Rattle.edl_interface.specs.declared.Function.{Function}
use Rattle.edl_interface.specs.Parameters.{is_marshalled, is_in, is_out, has_frame, return_size}
use Rattle.word_port.specs.declared.Side.TheVariants.{Enclave}
use Rattle.word_port.specs.Interaction.{Interaction, ret, here, and_then, map_value}
use Rattle.word_port.specs.Accesses.{loads, stores}
use Rattle.word_port.proofs.Laws.{and_then-assoc}
use Rattle.enclave_memory.specs.Arguments.{Argument}
use Rattle.ocall_frames.specs.Stack.{frame_below}
use Rattle.ocall_frames.specs.Frames.{numbers_structure, has_no_length, exceeds_block, Buffer, buffers_of, ocall_size, shown_content, frame_bytes, buffer_loads, Reply, return_value, read_reply}
use Rattle.call_machine.specs.declared.Machine.{Machine}
use Rattle.call_machine.specs.Context.{Context}
use Rattle.call_machine.specs.Result.{go_on_if_ok, and_then_ok, is_success}
use Rattle.call_machine.specs.Ocall.{Handlers, HostSide, OcallDone, host_run, handler_context, answer_loads, ocall_or_refusal}
use Rattle.bridge_program.specs.declared.Instr.{Instr}
use Rattle.bridge_program.specs.declared.Instr.TheVariants.{OBegin, OLength, OWithin, OTotal, OAdd, OTake, OCopy, OEnter, OReturn, OBack, OEnd}
use Rattle.bridge_program.specs.Lists.{each, where_is, once, field_instr, frame_list}
use Rattle.bridge_laws.specs.Proxy.{ProxyState, ProxyDoing, length_of, taken, laid, begun_answer, first_proxy, done_of, ocall_by_list}
use Rattle.bridge_laws.proofs.Trees.{same_next, ok-ret}
use Rattle.bridge_laws.proofs.ProxyRefusals.{does, append_does, fold_does, testing_list, testing_tests, total_from}
use Rattle.bridge_laws.proofs.ProxyFrames.{zeros_of, joined_map, fielded, field_does, fields_filled, copied, copy_does, copies_shown}
use Rattle.bridge_laws.proofs.ProxyReplies.{backs_fail, return_fails, return_loads, backs_load}
use std.Path.{fun_ext}

to_right : (l w x y c z u e : List Instr) → (((((((l ++ w) ++ x) ++ y) ++ c) ++ z) ++ u) ++ e) ≡ l ++ (w ++ (x ++ (y ++ (c ++ (z ++ (u ++ e))))))
to_right l w x y c z u e = simp append_assoc

front : (l w x y rest : List Instr) → (l ++ (w ++ (x ++ y))) ++ rest ≡ l ++ (w ++ (x ++ (y ++ rest)))
front l w x y rest = simp append_assoc

regroup : (l w a fl c r u e : List Instr) (i j k : Instr) → (((((((l ++ w) ++ (i ∷ a)) ++ (j ∷ fl)) ++ c) ++ (k ∷ r)) ++ u) ++ e)
    ≡ (l ++ (w ++ (i ∷ (a ++ (j ∷ []))))) ++ (fl ++ (c ++ (k ∷ (r ++ (u ++ e)))))
regroup l w a fl c r u e i j k = to_right l w (i ∷ a) (j ∷ fl) c (k ∷ r) u e ∙ sym (front l w (i ∷ a) (j ∷ []) (fl ++ (c ++ (k ∷ (r ++ (u ++ e))))))

module _ (m : Machine) (handlers : Handlers) (cx : Context) (ordinal : ℕ) (arguments : List Argument) (f : Function) where
  abbrev go : List Instr → ProxyState → ProxyDoing
  go list s = does m handlers cx ordinal arguments f list s

  abbrev backs_list : List Instr
  backs_list = where_is is_out (λ n. OBack n) f

  abbrev reply_list : List Instr
  reply_list = once (is_some f.ret) OReturn ++ (backs_list ++ (OEnd ∷ []))

  abbrev filling_list : List Instr
  filling_list = each field_instr f ++ (where_is is_in (λ n. OCopy n) f ++ (OEnter ∷ reply_list))

  -- its frame is at this address and is filled
  abbrev entering : ℕ → ℕ → ℕ → List ℕ → List (List ℕ) → ProxyState
  entering size address next structure shown = record first_proxy { size = size; frame = address; next = next; structure = structure; buffers = buffers_of f arguments address; shown = shown }

  module _ (l : length f.params ≡ length arguments) (size address next : ℕ) (structure : List ℕ) (shown : List (List ℕ)) where
    abbrev entered : ProxyState
    entered = entering size address next structure shown

    abbrev none_loaded : List (Option (List ℕ))
    none_loaded = map (λ b. None) (buffers_of f arguments address)

    ended : (s : ProxyState) → go (backs_list ++ (OEnd ∷ [])) s ≡ go backs_list s
    ended s = append_does m handlers cx ordinal arguments f backs_list (OEnd ∷ []) s ∙ ok-ret (go backs_list s)

    abbrev succeeded : HostSide → ℕ → List ℕ → List (Option (List ℕ)) → ProxyState
    succeeded host turn bytes loaded = record entered { host = host; turn = Some turn; value = return_value f bytes; loaded = loaded }

    abbrev reply_of : HostSide → ℕ → Reply → OcallDone
    reply_of host turn reply = record { frame = address; host = host; turn = Some turn; reply = reply }

    success_does : (host : HostSide) (turn : ℕ) → is_success host.status ≡ true
        → map_value done_of (go reply_list (record entered { host = host; turn = Some turn; loaded = none_loaded }))
        ≡ map_value (λ done. Ok done) (map_value (reply_of host turn) (read_reply f arguments address))
    unfolding read_reply
    success_does host turn h =
        let returning : Interaction (List ℕ) = loads Enclave address (return_size f) in
        let backs : Interaction (List (Option (List ℕ))) = buffer_loads (buffers_of f arguments address) in
        ap (λ t. map_value done_of t) (return_loads m handlers cx ordinal arguments f f.ret refl (backs_list ++ (OEnd ∷ [])) (record entered { host = host; turn = Some turn; loaded = none_loaded }) h refl)
        ∙ and_then-assoc returning (λ bytes. go (backs_list ++ (OEnd ∷ [])) (succeeded host turn bytes none_loaded)) (λ r. ret (done_of r))
        ∙ same_next returning (λ bytes. map_value done_of (go (backs_list ++ (OEnd ∷ [])) (succeeded host turn bytes none_loaded)))
        (λ bytes. map_value (λ loaded. Ok (reply_of host turn (record { value = return_value f bytes; loaded = loaded }))) backs)
        (λ bytes. ap (λ t. map_value done_of t)
        (ended (succeeded host turn bytes none_loaded)
        ∙ backs_load m handlers cx ordinal arguments f (succeeded host turn bytes none_loaded) h f.params arguments 0 (address + f.frame_size) [] l refl refl refl)
        ∙ and_then-assoc backs (λ loaded. ret (Ok (succeeded host turn bytes loaded))) (λ r. ret (done_of r)))
        ∙ same_next returning (λ bytes. map_value (λ loaded. Ok (reply_of host turn (record { value = return_value f bytes; loaded = loaded }))) backs)
        (λ bytes. map_value (λ reply. Ok (reply_of host turn reply)) (map_value (λ loaded. record { value = return_value f bytes; loaded = loaded }) backs))
        (λ bytes. sym (and_then-assoc backs (λ loaded. ret (record { value = return_value f bytes; loaded = loaded })) (λ reply. ret (Ok (reply_of host turn reply)))))
        ∙ sym (and_then-assoc returning (λ bytes. map_value (λ loaded. record { value = return_value f bytes; loaded = loaded }) backs) (λ reply. ret (Ok (reply_of host turn reply))))
        ∙ sym (and_then-assoc (and_then returning (λ bytes. map_value (λ loaded. record { value = return_value f bytes; loaded = loaded }) backs)) (λ reply. ret (reply_of host turn reply)) (λ done. ret (Ok done)))

    failure_does : (host : HostSide) → is_success host.status ≡ false → go reply_list (record entered { host = host }) ≡ ret (Ok (record entered { host = host }))
    failure_does host h =
        return_fails m handlers cx ordinal arguments f (is_some f.ret) (backs_list ++ (OEnd ∷ [])) (record entered { host = host }) h
        ∙ ended (record entered { host = host })
        ∙ backs_fail m handlers cx ordinal arguments f f.params 0 (record entered { host = host }) h

    answer_does : (host : HostSide) (b : Bool) → is_success host.status ≡ b → map_value done_of (and_then_ok (begun_answer entered host) (go reply_list)) ≡ map_value (λ done. Ok done) (answer_loads f arguments address host)
    answer_does host true h =
        ap (λ c. map_value done_of (and_then_ok (if c then here (λ turn. ret (Ok (record entered { host = host; turn = Some turn; loaded = none_loaded }))) else ret (Ok (record entered { host = host }))) (go reply_list))) h
        ∙ ap (λ k. here k) (fun_ext (λ turn. success_does host turn h))
        ∙ ap (λ c. map_value (λ done. Ok done) (if c then here (λ turn. map_value (reply_of host turn) (read_reply f arguments address)) else ret (record { frame = address; host = host; turn = None; reply = record { value = 0; loaded = [] } }))) (sym h)
    answer_does host false h =
        ap (λ c. map_value done_of (and_then_ok (if c then here (λ turn. ret (Ok (record entered { host = host; turn = Some turn; loaded = none_loaded }))) else ret (Ok (record entered { host = host }))) (go reply_list))) h
        ∙ ap (λ t. map_value done_of t) (failure_does host h)
        ∙ ap (λ c. map_value (λ done. Ok done) (if c then here (λ turn. map_value (reply_of host turn) (read_reply f arguments address)) else ret (record { frame = address; host = host; turn = None; reply = record { value = 0; loaded = [] } }))) (sym h)

    abbrev calling : List ℕ → Interaction OcallDone
    calling put = and_then (stores Enclave address put) (λ stored. and_then (host_run m handlers (handler_context cx ordinal f address) ordinal f address) (answer_loads f arguments address))

    entering_does : map_value done_of (go (OEnter ∷ reply_list) entered) ≡ map_value (λ done. Ok done) (calling (structure ++ flat_map (λ b. b) shown))
    entering_does =
        let storing : Interaction (Unit {0}) = stores Enclave address (structure ++ flat_map (λ b. b) shown) in
        let running : Interaction HostSide = host_run m handlers (handler_context cx ordinal f address) ordinal f address in
        ap (λ t. map_value done_of t) (and_then-assoc storing (λ stored. and_then running (begun_answer entered)) (go_on_if_ok (go reply_list)))
        ∙ and_then-assoc storing (λ stored. and_then_ok (and_then running (begun_answer entered)) (go reply_list)) (λ r. ret (done_of r))
        ∙ same_next storing (λ stored. map_value done_of (and_then_ok (and_then running (begun_answer entered)) (go reply_list))) (λ stored. map_value (λ done. Ok done) (and_then running (answer_loads f arguments address)))
        (λ stored. ap (λ t. map_value done_of t) (and_then-assoc running (begun_answer entered) (go_on_if_ok (go reply_list)))
        ∙ and_then-assoc running (λ host. and_then_ok (begun_answer entered host) (go reply_list)) (λ r. ret (done_of r))
        ∙ same_next running (λ host. map_value done_of (and_then_ok (begun_answer entered host) (go reply_list))) (λ host. map_value (λ done. Ok done) (answer_loads f arguments address host))
        (λ host. answer_does host (is_success host.status) refl)
        ∙ sym (and_then-assoc running (answer_loads f arguments address) (λ done. ret (Ok done))))
        ∙ sym (and_then-assoc storing (λ stored. and_then running (answer_loads f arguments address)) (λ done. ret (Ok done)))

  -- written in order, the fields are what they are with all numbers first
  abbrev pub IsLaid : Type 0
  IsLaid = (address : ℕ) → laid f arguments (address + f.frame_size) (replicate f.frame_size 0) (zip f.params arguments)
      ≡ fold (λ s b. with_bytes_at s b.param.offset (low_bytes 8 b.address)) (numbers_structure f arguments) (buffers_of f arguments address)

  -- its frame is taken at this address
  abbrev taken_at : ℕ → ProxyState
  taken_at address = record first_proxy { size = ocall_size f arguments; frame = address; next = address + f.frame_size; structure = replicate f.frame_size 0 }

  abbrev next_of : ℕ → ℕ
  next_of address = total_from (address + f.frame_size) (buffers_of f arguments address)

  abbrev structure_of : ℕ → List ℕ
  structure_of address = laid f arguments (address + f.frame_size) (replicate f.frame_size 0) (zip f.params arguments)

  module _ (l : length f.params ≡ length arguments) (is_laid : IsLaid) where
    filling_does : (address : ℕ) → map_value done_of (go filling_list (taken_at address)) ≡ map_value (λ done. Ok done) (calling l 0 address 0 [] [] (frame_bytes f arguments address))
    filling_does address =
        let size : ℕ = ocall_size f arguments in
        let buffers : List Buffer = buffers_of f arguments address in
        let copying : List Instr = where_is is_in (λ n. OCopy n) f in
        let zeroed : ProxyState = entering size address (next_of address) (structure_of address) (map zeros_of buffers) in
        ap (λ t. map_value done_of t)
        (append_does m handlers cx ordinal arguments f (each field_instr f) (copying ++ (OEnter ∷ reply_list)) (taken_at address)
        ∙ ap (λ t. and_then_ok t (go (copying ++ (OEnter ∷ reply_list))))
        (fold_does m handlers cx ordinal arguments f field_instr (fielded m handlers cx ordinal arguments f) (λ n p a s g. field_does m handlers cx ordinal arguments f n p a s g (is_marshalled p.class)) f.params arguments 0 (taken_at address) refl l
        ∙ ap (λ t. ret (Ok t)) (fields_filled m handlers cx ordinal arguments f f.params arguments 0 (taken_at address) l))
        ∙ append_does m handlers cx ordinal arguments f copying (OEnter ∷ reply_list) zeroed
        ∙ ap (λ t. and_then_ok t (go (OEnter ∷ reply_list)))
        (fold_does m handlers cx ordinal arguments f (λ n p. if is_in p.class then OCopy n ∷ [] else []) (copied m handlers cx ordinal arguments f) (λ n p a s g. copy_does m handlers cx ordinal arguments f n p a s g (is_in p.class)) f.params arguments 0 zeroed refl l
        ∙ ap (λ t. ret (Ok t)) (copies_shown m handlers cx ordinal arguments f f.params arguments 0 (address + f.frame_size) [] zeroed l refl refl refl)))
        ∙ entering_does l size address (next_of address) (structure_of address) (map shown_content buffers)
        ∙ ap (λ put. map_value (λ done. Ok done) (calling l 0 address 0 [] [] put))
        (ap (λ r. r ++ flat_map (λ b. b) (map shown_content buffers)) (is_laid address)
        ∙ ap (λ r. fold (λ s b. with_bytes_at s b.param.offset (low_bytes 8 b.address)) (numbers_structure f arguments) buffers ++ r) (joined_map shown_content buffers))

    abbrev calling_at : ℕ → Interaction OcallDone
    calling_at address = calling l 0 address 0 [] [] (frame_bytes f arguments address)

    by_tests : (b1 b2 : Bool) (o : Option ℕ) (k : Option ℕ → ℕ) → ((address : ℕ) → k (Some address) ≡ address)
        → map_value done_of (and_then_ok (if b1 then ret (Err INVALID_PARAMETER) else (if b2 then ret (Err INVALID_PARAMETER) else ret (taken f o (record first_proxy { size = ocall_size f arguments })))) (go filling_list))
        ≡ and_then_ok (ret (unless_refused (if b1 then Some INVALID_PARAMETER else (if b2 then Some INVALID_PARAMETER else (if true && is_none o then Some UNEXPECTED else None))))) (λ allowed. map_value (λ done. Ok done) (calling_at (k o)))
    by_tests true b2 o k e = refl
    by_tests false true o k e = refl
    by_tests false false None k e = refl
    by_tests false false (Some address) k e = filling_does address ∙ ap (λ n. map_value (λ done. Ok done) (calling_at n)) (sym (e address))

    pub frame_list_is_ocall : has_frame f ≡ true → ocall_by_list m handlers cx ordinal arguments f (frame_list f) ≡ ocall_or_refusal m handlers cx ordinal arguments (Some f)
    frame_list_is_ocall h =
        let no_length : Bool = list_any (λ (p, a). has_no_length (length_of f arguments p a)) (zip f.params arguments) in
        let exceeded : Bool = list_any (λ (p, a). exceeds_block (length_of f arguments p a) a) (zip f.params arguments) in
        let o : Option ℕ = frame_below cx.base cx.top (ocall_size f arguments) in
        ap (λ list. ocall_by_list m handlers cx ordinal arguments f (OBegin ∷ list))
        (regroup (where_is is_marshalled (λ n. OLength n) f) (where_is is_marshalled (λ n. OWithin n) f) (where_is is_marshalled (λ n. OAdd n) f) (each field_instr f)
        (where_is is_in (λ n. OCopy n) f) (once (is_some f.ret) OReturn) backs_list (OEnd ∷ []) OTotal OTake OEnter)
        ∙ ap (λ t. map_value done_of t)
        (append_does m handlers cx ordinal arguments f (testing_list m handlers cx ordinal arguments f) filling_list first_proxy
        ∙ ap (λ t. and_then_ok t (go filling_list)) (testing_tests m handlers cx ordinal arguments f first_proxy l))
        ∙ by_tests no_length exceeded o (λ q. unwrap_or q 0) (λ address. refl)
        ∙ ap (λ b. and_then_ok (ret (unless_refused (if no_length then Some INVALID_PARAMETER else (if exceeded then Some INVALID_PARAMETER else (if b && is_none o then Some UNEXPECTED else None)))))
        (λ allowed. map_value (λ done. Ok done) (calling_at (if b then unwrap_or o 0 else 0)))) (sym h)
