-- A reply changes the blocks that are copied back alone.
use Rattle.std.proofs.Common.{ℕ, zero, suc, ◌+◌, ◌≡◌, ◌==◌, ◌&&◌, not, Bool, true, false, if◌then◌else◌, List, [], ◌∷◌, length, filter, zip, Option, Some, None, option_map, slice_get, slice_set, refl, ap, sym, ◌∙◌, subst}
use Rattle.std.specs.Prelude.{◌≢◌, unwrap_or}
use Rattle.std.proofs.lemmas.Option.{slice_get-map}
use Rattle.edl_interface.specs.declared.Class.{Class}
use Rattle.edl_interface.specs.declared.Param.{Param}
use Rattle.edl_interface.specs.declared.Function.{Function}
use Rattle.edl_interface.specs.Parameters.{is_marshalled, is_out, marshalled, return_size}
use Rattle.enclave_memory.specs.Arguments.{Argument, Passed, arguments_in, places_in, blocks_of}
use Rattle.enclave_memory.specs.Memory.{Memory}
use Rattle.word_port.specs.declared.Side.TheVariants.{Enclave}
use Rattle.word_port.specs.Events.{Event, made, ticked, placed}
use Rattle.word_port.specs.Interaction.{Interaction, ret, ask, here, tick, and_then, IsAfter}
use Rattle.word_port.specs.Accesses.{loads}
use Rattle.word_port.specs.Port.{PortState}
use Rattle.ocall_frames.specs.Frames.{numbers_structure, argument_length, buffer_bytes, buffers_from, buffers_of, buffer_loads, read_reply, block_after, blocks_after}
use Rattle.ocall_frames.specs.Laws.{IsNotCopiedBack}
use Rattle.ocall_frames.specs.Replies.{IsReplied}

-- whatever the answers, the value has this property
abbrev AllValues : {A : Type 0} → (A → Type 0) → Interaction A → Type 0
AllValues P (ret x) = P x
AllValues P (ask q next) = (n : ℕ) → AllValues P (next n)
AllValues P (here next) = (n : ℕ) → AllValues P (next n)
AllValues P (tick k rest) = AllValues P rest

value_has : {A : Type 0} (P : A → Type 0) (t : Interaction A) (events : List Event) (x : A) → AllValues P t → IsAfter t events (ret x) → P x
value_has P (ret y) [] x all after = subst (λ (t : Interaction _). AllValues P t) after all
value_has P (ret y) (e ∷ events) x all after = absurd after
value_has P (ask q next) [] x all after = cc
value_has P (ask q next) (made s ∷ events) x all after = value_has P (next s.answer) events x (all s.answer) after.1
value_has P (ask q next) (ticked k ∷ events) x all after = absurd after
value_has P (ask q next) (placed n ∷ events) x all after = absurd after
value_has P (here next) [] x all after = cc
value_has P (here next) (made s ∷ events) x all after = absurd after
value_has P (here next) (ticked k ∷ events) x all after = absurd after
value_has P (here next) (placed n ∷ events) x all after = value_has P (next n) events x (all n) after
value_has P (tick k rest) [] x all after = cc
value_has P (tick k rest) (made s ∷ events) x all after = absurd after
value_has P (tick k rest) (ticked j ∷ events) x all after = value_has P rest events x all after.1
value_has P (tick k rest) (placed n ∷ events) x all after = absurd after

values_then : {A B : Type 0} (P : B → Type 0) (t : Interaction A) (f : A → Interaction B) → ((x : A) → AllValues P (f x)) → AllValues P (and_then t f)
values_then P (ret x) f all = all x
values_then P (ask q next) f all = λ n. values_then P (next n) f all
values_then P (here next) f all = λ n. values_then P (next n) f all
values_then P (tick k rest) f all = values_then P rest f all

-- the same where the value of the first is known too
values_after : {A B : Type 0} (P : A → Type 0) (Q : B → Type 0) (t : Interaction A) (f : A → Interaction B) → AllValues P t → ((x : A) → P x → AllValues Q (f x)) → AllValues Q (and_then t f)
values_after P Q (ret x) f have all = all x have
values_after P Q (ask q next) f have all = λ n. values_after P Q (next n) f (have n) all
values_after P Q (here next) f have all = λ n. values_after P Q (next n) f (have n) all
values_after P Q (tick k rest) f have all = values_after P Q rest f have all

-- bytes came back of those parameters alone that are copied back
abbrev AreBackOf : List (Option (List ℕ)) → List Param → Type 0
AreBackOf [] params = Unit {0}
AreBackOf (these ∷ loaded) [] = Unit {0}
AreBackOf (these ∷ loaded) (p ∷ params) = (is_out p.class ≡ false → these ≡ None) × AreBackOf loaded params

both : (a b : Bool) → (a && b) ≡ true → a ≡ true
both true b e = refl
both false b e = cc

marshalled_in : List Param → List Param
marshalled_in params = filter (λ p. is_marshalled p.class) params

module _ (f : Function) (structure : List ℕ) where
  loads_back : (next : ℕ) (params : List Param) (arguments : List Argument)
      → AllValues (λ loaded. AreBackOf loaded (filter (λ p. is_marshalled p.class) params)) (buffer_loads (buffers_from f structure next (zip params arguments)))
  loads_back next [] arguments = tt
  loads_back next (p ∷ params) [] = tt
  loads_back next (p ∷ params) (a ∷ arguments) =
      let content : List ℕ = buffer_bytes (argument_length f structure p a) a in
      by_class (is_marshalled p.class) refl content (loads_back (next + length content) params arguments)
    where
      by_loads : (c : Bool) (content : List ℕ) → (is_out p.class && not (length content == 0)) ≡ c
          → AllValues (λ loaded. AreBackOf loaded (filter (λ p. is_marshalled p.class) params)) (buffer_loads (buffers_from f structure (next + length content) (zip params arguments)))
          → AllValues (λ loaded. AreBackOf loaded (p ∷ filter (λ p. is_marshalled p.class) params))
          (if c then and_then (loads Enclave (if length content == 0 then 0 else next) (length content)) (λ these. and_then (buffer_loads (buffers_from f structure (next + length content) (zip params arguments))) (λ rest. ret (Some these ∷ rest)))
          else and_then (buffer_loads (buffers_from f structure (next + length content) (zip params arguments))) (λ rest. ret (None ∷ rest)))
      by_loads true content e more =
          values_then _ (loads Enclave (if length content == 0 then 0 else next) (length content)) _ (λ these.
          values_after _ _ (buffer_loads (buffers_from f structure (next + length content) (zip params arguments))) _ more (λ rest h.
          (λ none. (let out : is_out p.class ≡ true = both (is_out p.class) (not (length content == 0)) e in cc), h)))
      by_loads false content e more =
          values_after _ _ (buffer_loads (buffers_from f structure (next + length content) (zip params arguments))) _ more (λ rest h. (λ none. refl, h))

      by_class : (m : Bool) → is_marshalled p.class ≡ m → (content : List ℕ)
          → AllValues (λ loaded. AreBackOf loaded (filter (λ p. is_marshalled p.class) params)) (buffer_loads (buffers_from f structure (next + length content) (zip params arguments)))
          → AllValues (λ loaded. AreBackOf loaded (if m then p ∷ filter (λ p. is_marshalled p.class) params else filter (λ p. is_marshalled p.class) params))
          (buffer_loads (if m then record { param = p; address = if length content == 0 then 0 else next; content = content } ∷ buffers_from f structure (next + length content) (zip params arguments)
          else buffers_from f structure (next + length content) (zip params arguments)))
      by_class true e content more = by_loads (is_out p.class && not (length content == 0)) content refl more
      by_class false e content more = more

-- all that is loaded after an OCALL came back of parameters that are copied back
reply_back : (f : Function) (arguments : List Argument) (frame : ℕ) → AllValues (λ reply. AreBackOf reply.loaded (marshalled f)) (read_reply f arguments frame)
unfolding read_reply
reply_back f arguments frame =
    values_then _ (loads Enclave frame (return_size f)) _ (λ returned.
    values_after (λ loaded. AreBackOf loaded (marshalled f)) _ (buffer_loads (buffers_of f arguments frame)) _
    (loads_back f (numbers_structure f arguments) (frame + f.frame_size) f.params arguments) (λ loaded h. h))

get_other : (blocks : List (Option (List ℕ))) (k n : ℕ) (x : Option (List ℕ)) → k ≢ n → slice_get (slice_set blocks k x) n ≡ slice_get blocks n
get_other [] k n x apart = refl
get_other (b ∷ blocks) zero zero x apart = absurd (apart refl)
get_other (b ∷ blocks) zero (suc n) x apart = refl
get_other (b ∷ blocks) (suc k) zero x apart = refl
get_other (b ∷ blocks) (suc k) (suc n) x apart = get_other blocks k n x (λ e. apart (ap (λ m. suc m) e))

-- nothing came back: the block stays
set_none : (class : Class) (blocks : List (Option (List ℕ))) (k : ℕ) → slice_set blocks k (option_map (block_after class None) (unwrap_or (slice_get blocks k) None)) ≡ blocks
set_none class [] k = refl
set_none class (None ∷ blocks) zero = refl
set_none class (Some b ∷ blocks) zero = refl
set_none class (b ∷ blocks) (suc k) = ap (λ l. b ∷ l) (set_none class blocks k)

blocks_other : (n : ℕ) (params : List Param) (places : List (Option ℕ)) (loaded : List (Option (List ℕ))) (blocks : List (Option (List ℕ)))
    → AreBackOf loaded params → IsNotCopiedBack n params places → slice_get (blocks_after params places loaded blocks) n ≡ slice_get blocks n
blocks_other n [] places loaded blocks back apart = refl
blocks_other n (p ∷ params) [] loaded blocks back apart = refl
blocks_other n (p ∷ params) (None ∷ places) [] blocks back apart = refl
blocks_other n (p ∷ params) (Some k ∷ places) [] blocks back apart = refl
blocks_other n (p ∷ params) (None ∷ places) (these ∷ loaded) blocks back apart = blocks_other n params places loaded blocks back.1 apart.1
blocks_other n (p ∷ params) (Some k ∷ places) (these ∷ loaded) blocks back apart =
    by_way (is_out p.class) refl (λ more. blocks_other n params places loaded more back.1 apart.1)
  where
    set : Option (List ℕ) → List (Option (List ℕ))
    set bytes = slice_set blocks k (option_map (block_after p.class bytes) (unwrap_or (slice_get blocks k) None))

    by_way : (out : Bool) → is_out p.class ≡ out
        → ((more : List (Option (List ℕ))) → slice_get (blocks_after params places loaded more) n ≡ slice_get more n)
        → slice_get (blocks_after params places loaded (set these)) n ≡ slice_get blocks n
    by_way true e rest = rest (set these) ∙ get_other blocks k n _ (λ same. apart.0 e (ap (λ m. Some m) same))
    by_way false e rest =
        rest (set these)
        ∙ ap (λ b. slice_get (set b) n) (back.0 e)
        ∙ ap (λ l. slice_get l n) (set_none p.class blocks k)

some_of : (a b : Option (List ℕ)) → option_map (λ x. Some x) a ≡ option_map (λ (x : List ℕ). Some x) b → a ≡ b
some_of None None e = refl
some_of None (Some y) e = cc
some_of (Some x) None e = cc
some_of (Some x) (Some y) e = cc

pub reply_others : (f : Function) (passed : List Passed) (frame : ℕ) (old new : PortState) (before after : Memory) (value n : ℕ) → IsReplied f passed frame old new before after value
    → IsNotCopiedBack n (marshalled f) (places_in passed) → slice_get after.blocks n ≡ slice_get before.blocks n
reply_others f passed frame old new before after value n replied apart =
    let back : AreBackOf replied.reply.loaded (marshalled f) =
    value_has (λ reply. AreBackOf reply.loaded (marshalled f)) (read_reply f (arguments_in before passed) frame) _ replied.reply (reply_back f (arguments_in before passed) frame) replied.makes.after in
    some_of (slice_get after.blocks n) (slice_get before.blocks n)
    (sym (slice_get-map (λ x. Some x) after.blocks n)
    ∙ ap (λ l. slice_get l n) replied.arena_is.blocks_are
    ∙ blocks_other n (marshalled f) (places_in passed) replied.reply.loaded (blocks_of before) back apart
    ∙ slice_get-map (λ x. Some x) before.blocks n)
