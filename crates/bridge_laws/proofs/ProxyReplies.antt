-- The instructions that load the answer of an OCALL.
use Rattle.std.proofs.Common.{ℕ, suc, ◌+◌, ◌≡◌, ◌==◌, not, ◌&&◌, Bool, true, false, if◌then◌else◌, List, [], ◌∷◌, ◌++◌, length, map, drop, Option, Some, None, is_some, option_map, slice_get, slice_set, Ok, refl, ap, sym, ◌∙◌, arith, append_assoc}
use Rattle.std.specs.Prelude.{unwrap_or}
use Rattle.std.proofs.Math.Seq.{set-append_seam}
use Rattle.sgx_base.specs.Passing.{is_outward}
use Rattle.sgx_base.specs.declared.Passing.{Passing}
use Rattle.edl_interface.specs.declared.Plain.{Plain}
use Rattle.edl_interface.specs.declared.Param.{Param}
use Rattle.edl_interface.specs.declared.Function.{Function}
use Rattle.edl_interface.specs.Parameters.{way_of, is_marshalled, is_out, return_size, value_at}
use Rattle.word_port.specs.declared.Side.TheVariants.{Enclave}
use Rattle.word_port.specs.Interaction.{Interaction, ret, and_then, map_value}
use Rattle.word_port.specs.Accesses.{loads}
use Rattle.word_port.proofs.Laws.{and_then-assoc}
use Rattle.enclave_memory.specs.Arguments.{Argument}
use Rattle.ocall_frames.specs.Frames.{Buffer, buffer_loads, return_value}
use Rattle.call_machine.specs.declared.Machine.{Machine}
use Rattle.call_machine.specs.Context.{Context}
use Rattle.call_machine.specs.Result.{go_on_if_ok, and_then_ok, is_success}
use Rattle.call_machine.specs.Ocall.{Handlers}
use Rattle.bridge_program.specs.declared.Instr.{Instr}
use Rattle.bridge_program.specs.declared.Instr.TheVariants.{OReturn, OBack}
use Rattle.bridge_program.specs.Lists.{each_from, once}
use Rattle.bridge_laws.specs.Meaning.{place_of}
use Rattle.bridge_laws.specs.Proxy.{ProxyState, ProxyDoing, content_of, loaded_back}
use Rattle.bridge_laws.proofs.Trees.{same_next}
use Rattle.bridge_laws.proofs.Places.{get_drop, drop_next, length_last, place_next}
use Rattle.bridge_laws.proofs.ProxyRefusals.{does}
use Rattle.bridge_laws.proofs.ProxyFrames.{buffers_at}

not_out : (w : Option Passing) → is_some w ≡ false → unwrap_or (option_map is_outward w) false ≡ false
not_out None e = refl
not_out (Some way) e = let no : ⊥ = cc in absurd no

nothing_back : (k : ℕ) (o : Option Buffer) (s : ProxyState) → is_success s.host.status ≡ false → loaded_back k o s ≡ ret (Ok s)
nothing_back k None s e = refl
nothing_back k (Some b) s e =
    ap (λ c. if c && not (length b.content == 0) then map_value (λ these. Ok (record s { loaded = slice_set s.loaded k (Some these) })) (loads Enclave b.address (length b.content)) else ret (Ok s)) e

module _ (m : Machine) (handlers : Handlers) (cx : Context) (ordinal : ℕ) (arguments : List Argument) (f : Function) where
  abbrev go : List Instr → ProxyState → ProxyDoing
  go list s = does m handlers cx ordinal arguments f list s

  abbrev backs_from : ℕ → List Param → List Instr
  backs_from n ps = each_from n (λ k p. if is_out p.class then OBack k ∷ [] else []) ps

  one_fails : (b : Bool) (n : ℕ) (rest : List Instr) (s : ProxyState) → is_success s.host.status ≡ false → go rest s ≡ ret (Ok s) → go ((if b then OBack n ∷ [] else []) ++ rest) s ≡ ret (Ok s)
  one_fails true n rest s e more = ap (λ t. and_then_ok t (go rest)) (nothing_back (place_of n f.params) (slice_get s.buffers (place_of n f.params)) s e) ∙ more
  one_fails false n rest s e more = more

  -- nothing comes back after a failure
  pub backs_fail : (ps : List Param) (n : ℕ) (s : ProxyState) → is_success s.host.status ≡ false → go (backs_from n ps) s ≡ ret (Ok s)
  backs_fail [] n s e = refl
  backs_fail (p ∷ ps) n s e = one_fails (is_out p.class) n (backs_from (suc n) ps) s e (backs_fail ps (suc n) s e)

  pub return_fails : (b : Bool) (list : List Instr) (s : ProxyState) → is_success s.host.status ≡ false → go (once b OReturn ++ list) s ≡ go list s
  return_fails true list s e =
      ap (λ c. and_then_ok (if c then map_value (λ bytes. Ok (record s { value = return_value f bytes })) (loads Enclave s.frame (return_size f)) else ret (Ok s)) (go list)) e
  return_fails false list s e = refl

  -- the return
  pub return_loads : (o : Option Plain) → f.ret ≡ o → (list : List Instr) (s : ProxyState) → is_success s.host.status ≡ true → s.value ≡ 0
      → go (once (is_some o) OReturn ++ list) s ≡ and_then (loads Enclave s.frame (return_size f)) (λ bytes. go list (record s { value = return_value f bytes }))
  return_loads None e list s h v =
      ap (λ n. go list (record s { value = n })) (v ∙ ap (λ o. unwrap_or (option_map (λ (r : Plain). value_at r []) o) 0) (sym e))
      ∙ ap (λ o. and_then (loads Enclave s.frame (unwrap_or (option_map (λ (r : Plain). r.size) o) 0)) (λ bytes. go list (record s { value = return_value f bytes }))) (sym e)
  return_loads (Some r) e list s h v =
      ap (λ c. and_then_ok (if c then map_value (λ bytes. Ok (record s { value = return_value f bytes })) (loads Enclave s.frame (return_size f)) else ret (Ok s)) (go list)) h
      ∙ and_then-assoc (loads Enclave s.frame (return_size f)) (λ bytes. ret (Ok (record s { value = return_value f bytes }))) (go_on_if_ok (go list))

  abbrev nones : List Buffer → List (Option (List ℕ))
  nones buffers = map (λ b. None) buffers

  module _ (s : ProxyState) (h : is_success s.host.status ≡ true) where
    -- with these bytes so far
    abbrev with_loaded : List (Option (List ℕ)) → ProxyState
    with_loaded v = record s { loaded = v }

    abbrev with_all : List (Option (List ℕ)) → Interaction (List (Option (List ℕ))) → ProxyDoing
    with_all done t = map_value (λ l. Ok (with_loaded (done ++ l))) t

    one_more : (done : List (Option (List ℕ))) (x : Option (List ℕ)) (t : Interaction (List (Option (List ℕ)))) → with_all (done ++ x ∷ []) t ≡ with_all done (map_value (λ l. x ∷ l) t)
    one_more done x t =
        same_next t (λ l. ret (Ok (with_loaded ((done ++ x ∷ []) ++ l)))) (λ l. ret (Ok (with_loaded (done ++ x ∷ l)))) (λ l. ap (λ r. ret (Ok (with_loaded r))) (append_assoc done (x ∷ []) l))
        ∙ sym (and_then-assoc t (λ l. ret (x ∷ l)) (λ l. ret (Ok (with_loaded (done ++ l)))))

    -- one buffer, where this is what follows
    one_back : (n : ℕ) (b : Buffer) (later : List Buffer) (done : List (Option (List ℕ))) (rest : List Instr)
        → slice_get s.buffers (place_of n f.params) ≡ Some b → place_of n f.params ≡ length done
        → ((x : Option (List ℕ)) → go rest (with_loaded ((done ++ x ∷ []) ++ nones later)) ≡ with_all (done ++ x ∷ []) (buffer_loads later))
        → (out empty : Bool) → (length b.content == 0) ≡ empty
        → go ((if out then OBack n ∷ [] else []) ++ rest) (with_loaded (done ++ None ∷ nones later))
        ≡ with_all done (if out && not empty then and_then (loads Enclave b.address (length b.content)) (λ these. map_value (λ l. Some these ∷ l) (buffer_loads later)) else map_value (λ l. None ∷ l) (buffer_loads later))
    one_back n b later done rest g k more false empty e =
        ap (λ v. go rest (with_loaded v)) (sym (append_assoc done (None ∷ []) (nones later))) ∙ more None ∙ one_more done None (buffer_loads later)
    one_back n b later done rest g k more true true e =
        let t : ProxyState = with_loaded (done ++ None ∷ nones later) in
        ap (λ o. and_then_ok (loaded_back (place_of n f.params) o t) (go rest)) g
        ∙ ap (λ c. and_then_ok (if c then map_value (λ these. Ok (record t { loaded = slice_set t.loaded (place_of n f.params) (Some these) })) (loads Enclave b.address (length b.content)) else ret (Ok t)) (go rest))
        (ap (λ c. c && not (length b.content == 0)) h ∙ ap (λ c. not c) e)
        ∙ ap (λ v. go rest (with_loaded v)) (sym (append_assoc done (None ∷ []) (nones later))) ∙ more None ∙ one_more done None (buffer_loads later)
    one_back n b later done rest g k more true false e =
        let t : ProxyState = with_loaded (done ++ None ∷ nones later) in
        let loading : Interaction (List ℕ) = loads Enclave b.address (length b.content) in
        ap (λ o. and_then_ok (loaded_back (place_of n f.params) o t) (go rest)) g
        ∙ ap (λ c. and_then_ok (if c then map_value (λ these. Ok (record t { loaded = slice_set t.loaded (place_of n f.params) (Some these) })) loading else ret (Ok t)) (go rest))
        (ap (λ c. c && not (length b.content == 0)) h ∙ ap (λ c. not c) e)
        ∙ and_then-assoc loading (λ these. ret (Ok (record t { loaded = slice_set t.loaded (place_of n f.params) (Some these) }))) (go_on_if_ok (go rest))
        ∙ same_next loading (λ these. go rest (with_loaded (slice_set (done ++ None ∷ nones later) (place_of n f.params) (Some these)))) (λ these. with_all done (map_value (λ l. Some these ∷ l) (buffer_loads later)))
        (λ these. ap (λ v. go rest (with_loaded v))
        (ap (λ j. slice_set (done ++ None ∷ nones later) j (Some these)) k ∙ set-append_seam done None (nones later) (Some these) ∙ sym (append_assoc done (Some these ∷ []) (nones later)))
        ∙ more (Some these) ∙ one_more done (Some these) (buffer_loads later))
        ∙ sym (and_then-assoc loading (λ these. map_value (λ l. Some these ∷ l) (buffer_loads later)) (λ l. ret (Ok (with_loaded (done ++ l)))))

    abbrev buffers_from_here : ℕ → List Param → List Argument → List Buffer
    buffers_from_here next ps args = buffers_at m handlers cx ordinal arguments f next ps args

    by_class : (p : Param) (a : Argument) (ps : List Param) (args : List Argument) (n next : ℕ) (done : List (Option (List ℕ))) → drop n f.params ≡ p ∷ ps → place_of n f.params ≡ length done
        → ((others : List (Option (List ℕ))) → place_of (suc n) f.params ≡ length others
        → drop (place_of (suc n) f.params) s.buffers ≡ buffers_from_here (next + length (content_of f arguments p a)) ps args
        → go (backs_from (suc n) ps) (with_loaded (others ++ nones (buffers_from_here (next + length (content_of f arguments p a)) ps args))) ≡ with_all others (buffer_loads (buffers_from_here (next + length (content_of f arguments p a)) ps args)))
        → (b : Bool) → is_marshalled p.class ≡ b
        → drop (place_of n f.params) s.buffers
        ≡ (if b then record { param = p; address = if length (content_of f arguments p a) == 0 then 0 else next; content = content_of f arguments p a } ∷ buffers_from_here (next + length (content_of f arguments p a)) ps args else buffers_from_here (next + length (content_of f arguments p a)) ps args)
        → go ((if is_out p.class then OBack n ∷ [] else []) ++ backs_from (suc n) ps)
        (with_loaded (done ++ nones (if b then record { param = p; address = if length (content_of f arguments p a) == 0 then 0 else next; content = content_of f arguments p a } ∷ buffers_from_here (next + length (content_of f arguments p a)) ps args else buffers_from_here (next + length (content_of f arguments p a)) ps args)))
        ≡ with_all done (buffer_loads (if b then record { param = p; address = if length (content_of f arguments p a) == 0 then 0 else next; content = content_of f arguments p a } ∷ buffers_from_here (next + length (content_of f arguments p a)) ps args else buffers_from_here (next + length (content_of f arguments p a)) ps args))
    by_class p a ps args n next done d k more true e h2 =
        let here_is : Buffer = record { param = p; address = if length (content_of f arguments p a) == 0 then 0 else next; content = content_of f arguments p a } in
        let later : List Buffer = buffers_from_here (next + length (content_of f arguments p a)) ps args in
        let place : place_of (suc n) f.params ≡ suc (place_of n f.params) = place_next f.params n p ps d ∙ ap (λ c. if c then suc (place_of n f.params) else place_of n f.params) e in
        one_back n here_is later done (backs_from (suc n) ps) (get_drop s.buffers (place_of n f.params) here_is later h2) k
        (λ x. more (done ++ x ∷ []) (place ∙ ap (λ j. suc j) k ∙ sym (length_last done x)) (ap (λ j. drop j s.buffers) place ∙ drop_next s.buffers (place_of n f.params) here_is later h2))
        (is_out p.class) (length (content_of f arguments p a) == 0) refl
    by_class p a ps args n next done d k more false e h2 =
        let later : List Buffer = buffers_from_here (next + length (content_of f arguments p a)) ps args in
        let place : place_of (suc n) f.params ≡ place_of n f.params = place_next f.params n p ps d ∙ ap (λ c. if c then suc (place_of n f.params) else place_of n f.params) e in
        ap (λ o. go ((if o then OBack n ∷ [] else []) ++ backs_from (suc n) ps) (with_loaded (done ++ nones later))) (not_out (way_of p.class) e)
        ∙ more done (place ∙ k) (ap (λ j. drop j s.buffers) place ∙ h2)

    -- the `out` buffers from a number on
    pub backs_load : (ps : List Param) (args : List Argument) (n next : ℕ) (done : List (Option (List ℕ))) → length ps ≡ length args → drop n f.params ≡ ps → place_of n f.params ≡ length done
        → drop (place_of n f.params) s.buffers ≡ buffers_from_here next ps args
        → go (backs_from n ps) (with_loaded (done ++ nones (buffers_from_here next ps args))) ≡ with_all done (buffer_loads (buffers_from_here next ps args))
    backs_load [] args n next done l d k h2 = refl
    backs_load (p ∷ ps) [] n next done l d k h2 = absurd (omega arith)
    backs_load (p ∷ ps) (a ∷ args) n next done l d k h2 =
        by_class p a ps args n next done d k (λ others j h3. backs_load ps args (suc n) (next + length (content_of f arguments p a)) others (omega arith) (drop_next f.params n p ps d) j h3) (is_marshalled p.class) refl h2
