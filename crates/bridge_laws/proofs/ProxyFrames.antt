-- The instructions that fill the frame of an OCALL.
use Rattle.std.proofs.Common.{ℕ, suc, ◌+◌, ◌≡◌, ◌==◌, Bool, true, false, if◌then◌else◌, List, [], ◌∷◌, ◌++◌, length, map, drop, zip, replicate, Option, Some, None, is_some, option_map, slice_get, slice_set, Ok, refl, ap, sym, ◌∙◌, arith, append-nil, append_assoc}
use Rattle.std.specs.Prelude.{unwrap_or, flat_map}
use Rattle.std.proofs.Math.Seq.{set-append_seam}
use Rattle.sgx_base.specs.Bytes.{low_bytes, with_bytes_at}
use Rattle.sgx_base.specs.Passing.{is_inward}
use Rattle.sgx_base.specs.declared.Passing.{Passing}
use Rattle.edl_interface.specs.declared.Class.{Class}
use Rattle.edl_interface.specs.declared.Class.TheVariants.{Plain as by_value, UserCheck, Buffer as a_buffer, Text, Fixed, Foreign}
use Rattle.edl_interface.specs.declared.Param.{Param}
use Rattle.edl_interface.specs.declared.Function.{Function}
use Rattle.edl_interface.specs.Parameters.{way_of, is_marshalled, is_in}
use Rattle.word_port.specs.Interaction.{ret}
use Rattle.enclave_memory.specs.Arguments.{Argument, number, bytes}
use Rattle.ocall_frames.specs.Frames.{numbers_structure, with_number, Buffer, buffers_from, shown_content}
use Rattle.call_machine.specs.declared.Machine.{Machine}
use Rattle.call_machine.specs.Context.{Context}
use Rattle.call_machine.specs.Ocall.{Handlers}
use Rattle.bridge_program.specs.declared.Instr.TheVariants.{OField, OBuffer, OCopy}
use Rattle.bridge_laws.specs.Meaning.{place_of}
use Rattle.bridge_laws.specs.Proxy.{ProxyState, with_argument, content_of, with_buffer, laid}
use Rattle.bridge_laws.proofs.Places.{drop_next, length_last, place_next}
use Rattle.bridge_laws.proofs.ProxyRefusals.{does, folded, total_from}

-- what a new buffer holds
abbrev pub zeros_of : Buffer → List ℕ
zeros_of b = replicate (length b.content) 0

not_in : (w : Option Passing) → is_some w ≡ false → unwrap_or (option_map is_inward w) false ≡ false
not_in None e = refl
not_in (Some way) e = let no : ⊥ = cc in absurd no

pub joined_map : (g : Buffer → List ℕ) (l : List Buffer) → flat_map (λ x. x) (map g l) ≡ flat_map g l
joined_map g [] = refl
joined_map g (b ∷ l) = ap (λ r. g b ++ r) (joined_map g l)

module _ (m : Machine) (handlers : Handlers) (cx : Context) (ordinal : ℕ) (arguments : List Argument) (f : Function) where
  abbrev pub buffers_at : ℕ → List Param → List Argument → List Buffer
  buffers_at next ps args = buffers_from f (numbers_structure f arguments) next (zip ps args)

  abbrev content : Param → Argument → List ℕ
  content p a = content_of f arguments p a

  quiet_content : (c : Class) (p : Param) (a : Argument) → is_marshalled c ≡ false → length (content (record p { class = c }) a) ≡ 0
  quiet_content c p (number n) e = refl
  quiet_content c p (bytes None) e = refl
  quiet_content (by_value plain) p (bytes (Some these)) e = refl
  quiet_content UserCheck p (bytes (Some these)) e = refl
  quiet_content (Foreign None) p (bytes (Some these)) e = refl
  quiet_content (Foreign (Some way)) p (bytes (Some these)) e = let no : ⊥ = cc in absurd no
  quiet_content (a_buffer way size count unit) p (bytes (Some these)) e = let no : ⊥ = cc in absurd no
  quiet_content (Text way unit) p (bytes (Some these)) e = let no : ⊥ = cc in absurd no
  quiet_content (Fixed way count unit) p (bytes (Some these)) e = let no : ⊥ = cc in absurd no

  pub same_next_buffer : (p : Param) (a : Argument) (next : ℕ) → is_marshalled p.class ≡ false → next ≡ next + length (content p a)
  same_next_buffer p a next e = let z : length (content p a) ≡ 0 = quiet_content p.class p a e in omega (arith, z)

  -- one field
  abbrev pub fielded : ℕ → Param → Argument → ProxyState → ProxyState
  fielded n p a s = if is_marshalled p.class then with_buffer f arguments s p a else record s { structure = with_number p s.structure a }

  pub field_does : (n : ℕ) (p : Param) (a : Argument) (s : ProxyState) → slice_get (zip f.params arguments) n ≡ Some (p, a) → (b : Bool)
      → does m handlers cx ordinal arguments f ((if b then OBuffer n else OField n) ∷ []) s ≡ ret (Ok (if b then with_buffer f arguments s p a else record s { structure = with_number p s.structure a }))
  field_does n p a s g true = ap (λ o. ret (Ok (with_argument o s (with_buffer f arguments s)))) g
  field_does n p a s g false = ap (λ o. ret (Ok (with_argument o s (λ q c. record s { structure = with_number q s.structure c })))) g

  -- with all fields of these parameters
  abbrev pub filled : List Param → List Argument → ProxyState → ProxyState
  filled ps args s = record s {
    next = total_from s.next (buffers_at s.next ps args);
    structure = laid f arguments s.next s.structure (zip ps args);
    buffers = s.buffers ++ buffers_at s.next ps args;
    shown = s.shown ++ map zeros_of (buffers_at s.next ps args);
  }

  pub fields_filled : (ps : List Param) (args : List Argument) (n : ℕ) (s : ProxyState) → length ps ≡ length args
      → folded m handlers cx ordinal arguments f fielded n ps args s ≡ filled ps args s
  fields_filled [] args n s l =
      ap (λ r. record s { buffers = r }) (sym (append-nil s.buffers)) ∙ ap (λ r. record s { buffers = s.buffers ++ []; shown = r }) (sym (append-nil s.shown))
  fields_filled (p ∷ ps) [] n s l = absurd (omega arith)
  fields_filled (p ∷ ps) (a ∷ args) n s l = one_field (λ t. fields_filled ps args (suc n) t (omega arith)) (is_marshalled p.class) refl
    where
      one_field : ((t : ProxyState) → folded m handlers cx ordinal arguments f fielded (suc n) ps args t ≡ filled ps args t) → (b : Bool) → is_marshalled p.class ≡ b
          → folded m handlers cx ordinal arguments f fielded (suc n) ps args (if b then with_buffer f arguments s p a else record s { structure = with_number p s.structure a })
          ≡ (let address = if length (content p a) == 0 then 0 else s.next in
          let later = buffers_at (s.next + length (content p a)) ps args in
          let all = if b then record { param = p; address = address; content = content p a } ∷ later else later in
          record s {
            next = total_from s.next all;
            structure = if b then laid f arguments (s.next + length (content p a)) (with_bytes_at s.structure p.offset (low_bytes 8 address)) (zip ps args) else laid f arguments s.next (with_number p s.structure a) (zip ps args);
            buffers = s.buffers ++ all;
            shown = s.shown ++ map zeros_of all;
          })
      one_field more true e =
          let b : Buffer = record { param = p; address = if length (content p a) == 0 then 0 else s.next; content = content p a } in
          let later : List Buffer = buffers_at (s.next + length (content p a)) ps args in
          let t : ProxyState = with_buffer f arguments s p a in
          more t
          ∙ ap (λ r. record (filled ps args t) { buffers = r }) (append_assoc s.buffers (b ∷ []) later)
          ∙ ap (λ r. record (filled ps args t) { buffers = s.buffers ++ b ∷ later; shown = r }) (append_assoc s.shown (zeros_of b ∷ []) (map zeros_of later))
      one_field more false e =
          more (record s { structure = with_number p s.structure a })
          ∙ ap (λ k. record s {
            next = total_from s.next (buffers_at k ps args);
            structure = laid f arguments s.next (with_number p s.structure a) (zip ps args);
            buffers = s.buffers ++ buffers_at k ps args;
            shown = s.shown ++ map zeros_of (buffers_at k ps args);
          }) (same_next_buffer p a s.next e)

  -- one block's bytes
  abbrev pub copied : ℕ → Param → Argument → ProxyState → ProxyState
  copied n p a s = if is_in p.class then record s { shown = slice_set s.shown (place_of n f.params) (content p a) } else s

  pub copy_does : (n : ℕ) (p : Param) (a : Argument) (s : ProxyState) → slice_get (zip f.params arguments) n ≡ Some (p, a) → (b : Bool)
      → does m handlers cx ordinal arguments f (if b then OCopy n ∷ [] else []) s ≡ ret (Ok (if b then record s { shown = slice_set s.shown (place_of n f.params) (content p a) } else s))
  copy_does n p a s g true = ap (λ o. ret (Ok (with_argument o s (λ q c. record s { shown = slice_set s.shown (place_of n f.params) (content_of f arguments q c) })))) g
  copy_does n p a s g false = refl

  abbrev held : Param → Argument → Bool → List ℕ
  held p a i = if i then content p a else replicate (length (content p a)) 0

  abbrev after : ℕ → Param → Argument → ProxyState → Bool → ProxyState
  after n p a s i = if i then record s { shown = slice_set s.shown (place_of n f.params) (content p a) } else s

  pub copies_shown : (ps : List Param) (args : List Argument) (n next : ℕ) (done : List (List ℕ)) (s : ProxyState) → length ps ≡ length args
      → drop n f.params ≡ ps → place_of n f.params ≡ length done → s.shown ≡ done ++ map zeros_of (buffers_at next ps args)
      → folded m handlers cx ordinal arguments f copied n ps args s ≡ record s { shown = done ++ map shown_content (buffers_at next ps args) }
  copies_shown [] args n next done s l d k e = ap (λ r. record s { shown = r }) e
  copies_shown (p ∷ ps) [] n next done s l d k e = absurd (omega arith)
  copies_shown (p ∷ ps) (a ∷ args) n next done s l d k e =
      by_class (λ more_done t j h. copies_shown ps args (suc n) (next + length (content p a)) more_done t (omega arith) (drop_next f.params n p ps d) j h) (is_marshalled p.class) refl e
    where
      shown_after : (i : Bool) → s.shown ≡ done ++ replicate (length (content p a)) 0 ∷ map zeros_of (buffers_at (next + length (content p a)) ps args)
          → (after n p a s i).shown ≡ (done ++ held p a i ∷ []) ++ map zeros_of (buffers_at (next + length (content p a)) ps args)
      shown_after true h =
          ap (λ r. slice_set r (place_of n f.params) (content p a)) h
          ∙ ap (λ j. slice_set (done ++ replicate (length (content p a)) 0 ∷ map zeros_of (buffers_at (next + length (content p a)) ps args)) j (content p a)) k
          ∙ set-append_seam done (replicate (length (content p a)) 0) (map zeros_of (buffers_at (next + length (content p a)) ps args)) (content p a)
          ∙ sym (append_assoc done (content p a ∷ []) (map zeros_of (buffers_at (next + length (content p a)) ps args)))
      shown_after false h = h ∙ sym (append_assoc done (replicate (length (content p a)) 0 ∷ []) (map zeros_of (buffers_at (next + length (content p a)) ps args)))

      state_after : (i : Bool) (r : List (List ℕ)) → record (after n p a s i) { shown = r } ≡ record s { shown = r }
      state_after true r = refl
      state_after false r = refl

      by_class : ((more_done : List (List ℕ)) (t : ProxyState) → place_of (suc n) f.params ≡ length more_done → t.shown ≡ more_done ++ map zeros_of (buffers_at (next + length (content p a)) ps args)
          → folded m handlers cx ordinal arguments f copied (suc n) ps args t ≡ record t { shown = more_done ++ map shown_content (buffers_at (next + length (content p a)) ps args) })
          → (b : Bool) → is_marshalled p.class ≡ b
          → s.shown ≡ done ++ map zeros_of (if b then record { param = p; address = if length (content p a) == 0 then 0 else next; content = content p a } ∷ buffers_at (next + length (content p a)) ps args else buffers_at (next + length (content p a)) ps args)
          → folded m handlers cx ordinal arguments f copied (suc n) ps args (after n p a s (is_in p.class))
          ≡ record s { shown = done ++ map shown_content (if b then record { param = p; address = if length (content p a) == 0 then 0 else next; content = content p a } ∷ buffers_at (next + length (content p a)) ps args else buffers_at (next + length (content p a)) ps args) }
      by_class more true b h =
          more (done ++ held p a (is_in p.class) ∷ []) (after n p a s (is_in p.class))
          (place_next f.params n p ps d ∙ ap (λ c. if c then suc (place_of n f.params) else place_of n f.params) b ∙ ap (λ j. suc j) k ∙ sym (length_last done (held p a (is_in p.class))))
          (shown_after (is_in p.class) h)
          ∙ state_after (is_in p.class) ((done ++ held p a (is_in p.class) ∷ []) ++ map shown_content (buffers_at (next + length (content p a)) ps args))
          ∙ ap (λ r. record s { shown = r }) (append_assoc done (held p a (is_in p.class) ∷ []) (map shown_content (buffers_at (next + length (content p a)) ps args)))
      by_class more false b h =
          ap (λ i. folded m handlers cx ordinal arguments f copied (suc n) ps args (after n p a s i)) (not_in (way_of p.class) b)
          ∙ more done s (place_next f.params n p ps d ∙ ap (λ c. if c then suc (place_of n f.params) else place_of n f.params) b ∙ k) h
