-- A whole frame, and a whole reply.
use Rattle.std.proofs.Common.{ℕ, zero, suc, ◌+◌, ◌^◌, ◌≡◌, ◌<◌, ◌≤◌, take, replicate, rules, List, [], ◌∷◌, ◌++◌, length, map, zip, sum, Option, Some, None, Ok, Err, refl, ap, sym, ◌∙◌, subst, arith, IsTrue}
use Rattle.std.specs.Prelude.{flat_map}
use Rattle.std.proofs.lemmas.List.{take-replicate, length-replicate}
use Rattle.sgx_base.specs.Ranges.{host_start, is_mapped}
use Rattle.sgx_base.specs.declared.TheConstants.Status.{INVALID_PARAMETER}
use Rattle.edl_interface.specs.declared.Function.{Function}
use Rattle.edl_interface.specs.Parameters.{return_size}
use Rattle.word_port.specs.declared.Side.TheVariants.{Enclave}
use Rattle.word_port.specs.Port.{PortState}
use Rattle.word_port.specs.Interaction.{Interaction, ret, and_then, map_value}
use Rattle.word_port.specs.Accesses.{loads, stores}
use Rattle.word_port.specs.Runs.{Makes, StopsFull}
use Rattle.word_port.proofs.Laws.{makes_then, makes_ret, full_first, full_second}
use Rattle.call_copy.proofs.CutLaws.{stores_then, stores_full_first, stores_full_then}
use Rattle.enclave_memory.specs.declared.Arg.{Arg}
use Rattle.enclave_memory.specs.Arguments.{Argument, Passed, ArePassed, arguments_in}
use Rattle.enclave_memory.specs.Memory.{Memory}
use Rattle.ocall_frames.specs.Arguments.{AreOfKinds, checked_size}
use Rattle.ocall_frames.specs.Contents.{AreArguments, contents_of, measured, AreContents, buffers_with, addressed, framed}
use Rattle.ocall_frames.specs.Replies.{reply_with}
use Rattle.ocall_frames.specs.Frames.{Buffer, Reply, numbers_structure, shown_content, frame_bytes, buffer_loads, return_value, read_reply}
use Rattle.ocall_frames.proofs.ArgumentLaws.{IsMeasured, all_measured, checked_refused, checked_allowed, passed_are}
use Rattle.ocall_frames.proofs.ContentLaws.{contents_are, buffers_are}
use Rattle.ocall_frames.proofs.PutLaws.{contents_count}

module _ (f : Function) (arguments : List Argument) where
  abbrev pub whole_contents : List (List ℕ)
  whole_contents = contents_of f (numbers_structure f arguments) (zip f.params arguments)

  -- what is known of a frame that is not refused
  pub record IsWhole (m : Memory) (args : List Arg) (ns : List ℕ) (size : ℕ) : Type 0 where
    pub contents : AreContents m f.params args whole_contents
    pub lengths : ns ≡ map length whole_contents
    pub total : f.frame_size + sum ns ≡ size

  pub whole_is : (m : Memory) (args : List Arg) (ns : List ℕ) (size : ℕ) → AreArguments m args arguments → AreOfKinds f.params args
      → measured f (numbers_structure f arguments) (zip f.params arguments) ≡ Some ns → checked_size f arguments ≡ Ok size → IsWhole m args ns size
  whole_is m args ns size are kinds e sized =
      let p : IsMeasured _ _ ns _ = all_measured f (numbers_structure f arguments) (zip f.params arguments) ns e in
      let both : Ok (f.frame_size + sum ns) ≡ Ok size = sym (checked_allowed f arguments m args ns are kinds e) ∙ sized in
      record {
        contents = contents_are f (numbers_structure f arguments) m f.params args arguments are kinds p.none_lacks p.none_exceeds;
        lengths = p.lengths;
        total = cc;
      }

  pub not_refused : (size : ℕ) → measured f (numbers_structure f arguments) (zip f.params arguments) ≡ None → checked_size f arguments ≡ Ok size → ⊥
  not_refused size e sized = let both : Err INVALID_PARAMETER ≡ Ok size = sym (checked_refused f arguments e) ∙ sized in cc

  module _ (at : ℕ) where
    abbrev pub whole_buffers : List Buffer
    whole_buffers = buffers_with (at + f.frame_size) f.params whole_contents

    pub frame_is : framed at f (numbers_structure f arguments) whole_contents ≡ frame_bytes f arguments at
    frame_is = ap (λ (bs : List Buffer). addressed (numbers_structure f arguments) bs ++ flat_map shown_content bs) (sym (buffers_are f (numbers_structure f arguments) f.params arguments (at + f.frame_size)))

    pub reply_is : reply_with f whole_contents at ≡ read_reply f arguments at
    unfolding read_reply
    reply_is =
        ap (λ (bs : List Buffer). and_then (loads Enclave at (return_size f)) (λ returned. map_value (λ loaded. record { value = return_value f returned; loaded = loaded }) (buffer_loads bs)))
        (sym (buffers_are f (numbers_structure f arguments) f.params arguments (at + f.frame_size)))

-- the structure is put, and then the buffers
module _ (f : Function) (at buffers : ℕ) (first structure : List ℕ) (contents : List (List ℕ)) (buffers_at : buffers ≡ at + f.frame_size)
    (is : structure ≡ addressed first (buffers_with buffers f.params contents)) (size : length structure ≡ f.frame_size) where
  abbrev shown_all : ℕ → List ℕ
  shown_all from = flat_map shown_content (buffers_with from f.params contents)

  parts : stores Enclave at (structure ++ shown_all buffers) ≡ stores Enclave at (framed at f first contents)
  parts =
      ap (λ l. stores Enclave at (l ++ shown_all buffers)) is
      ∙ ap (λ n. stores Enclave at (addressed first (buffers_with n f.params contents) ++ shown_all n)) buffers_at

  place : buffers ≡ at + length structure
  place = buffers_at ∙ ap (λ n. at + n) (sym size)

  pub frame_made : (old mid new : PortState) → Makes (stores Enclave at structure) old mid tt → Makes (stores Enclave buffers (shown_all buffers)) mid new tt
      → Makes (stores Enclave at (framed at f first contents)) old new tt
  frame_made old mid new p q =
      subst (λ (t : Interaction (Unit {0})). Makes t old new tt) parts
      (stores_then Enclave at structure (shown_all buffers) old mid new p (subst (λ n. Makes (stores Enclave n (shown_all buffers)) mid new tt) place q))

  pub frame_stops : (old new : PortState) → StopsFull (stores Enclave at structure) old new → StopsFull (stores Enclave at (framed at f first contents)) old new
  frame_stops old new p = subst (λ (t : Interaction (Unit {0})). StopsFull t old new) parts (stores_full_first Enclave at structure (shown_all buffers) old new p)

  pub frame_stops_then : (old mid new : PortState) → Makes (stores Enclave at structure) old mid tt → StopsFull (stores Enclave buffers (shown_all buffers)) mid new
      → StopsFull (stores Enclave at (framed at f first contents)) old new
  frame_stops_then old mid new p q =
      subst (λ (t : Interaction (Unit {0})). StopsFull t old new) parts
      (stores_full_then Enclave at structure (shown_all buffers) old mid new p (subst (λ n. StopsFull (stores Enclave n (shown_all buffers)) mid new) place q))

-- a mapped range ends below 2 ^ 64
pub mapped_fits : (host at size n : ℕ) → IsTrue (is_mapped host at size) → host < 2 ^ 32 → at < 2 ^ 64 → n ≤ size → at + n < 2 ^ 64
mapped_fits host at zero n h small low within = omega (arith, low, within)
mapped_fits host at (suc size) n h small low within =
    let both : (host_start ≤ at) × (at + suc size ≤ host_start + host) = search rules in
    omega (arith, both, small, within)

-- the counts of what is whole
pub whole_counts : (f : Function) (arguments : List Argument) (m : Memory) (args : List Arg) (ns : List ℕ) (size : ℕ) → IsWhole f arguments m args ns size → (length f.params ≡ length args) × (length ns ≡ length args)
whole_counts f arguments m args ns size w =
    let c : (length f.params ≡ length args) × (length args ≡ length (whole_contents f arguments)) = contents_count m f.params args (whole_contents f arguments) w.contents in
    let l : length ns ≡ length (map length (whole_contents f arguments)) = ap (λ (x : List ℕ). length x) w.lengths in
    let k : length (map length (whole_contents f arguments)) ≡ length (whole_contents f arguments) = map_count (whole_contents f arguments) in
    (c.0, l ∙ k ∙ sym c.1)
  where
    map_count : (xs : List (List ℕ)) → length (map length xs) ≡ length xs
    map_count [] = refl
    map_count (x ∷ xs) = ap suc (map_count xs)

-- what is known in the function that puts a frame
pub whole_here : (f : Function) (m : Memory) (items slice : List Arg) (passed : List Passed) (structure : List ℕ) (ns : List ℕ) (size : ℕ) → slice ≡ items → AreOfKinds f.params items → ArePassed m items passed
    → checked_size f (arguments_in m passed) ≡ Ok size → structure ≡ numbers_structure f (arguments_in m passed)
    → Some ns ≡ measured f structure (zip f.params (arguments_in m passed)) → IsWhole f (arguments_in m passed) m slice ns size
whole_here f m items slice passed structure ns size same kinds live sized is e =
    whole_is f (arguments_in m passed) m slice ns size (subst (λ l. AreArguments m l (arguments_in m passed)) (sym same) (passed_are m items passed live))
    (subst (λ l. AreOfKinds f.params l) (sym same) kinds)
    (ap (λ s. measured f s (zip f.params (arguments_in m passed))) (sym is) ∙ sym e) sized

pub slice_passed : (m : Memory) (items slice : List Arg) (passed : List Passed) → slice ≡ items → ArePassed m items passed → AreArguments m slice (arguments_in m passed)
slice_passed m items slice passed same live = subst (λ l. AreArguments m l (arguments_in m passed)) (sym same) (passed_are m items passed live)

pub zeros_taken : (n m : ℕ) → n ≤ m → length {A = ℕ} (take n (replicate m 0)) ≡ n
zeros_taken n m h =
    let none : ℕ = 0 in
    let same : take n (replicate m none) ≡ replicate n none = take-replicate n m none h in
    let size : length (replicate n none) ≡ n = length-replicate n none in
    ap (λ (l : List ℕ). length l) same ∙ size

-- the return is loaded, and then the buffers
module _ (f : Function) (contents : List (List ℕ)) (at buffers : ℕ) (buffers_at : buffers ≡ at + f.frame_size) where
  abbrev replied : List ℕ → List (Option (List ℕ)) → Reply
  replied returned loaded = record { value = return_value f returned; loaded = loaded }

  abbrev then_buffers : List ℕ → Interaction Reply
  then_buffers returned = map_value (λ loaded. replied returned loaded) (buffer_loads (buffers_with buffers f.params contents))

  whole_reply : and_then (loads Enclave at (return_size f)) then_buffers ≡ reply_with f contents at
  whole_reply = ap (λ n. and_then (loads Enclave at (return_size f)) (λ returned. map_value (λ loaded. replied returned loaded) (buffer_loads (buffers_with n f.params contents)))) buffers_at

  pub reply_made : (old mid new : PortState) (returned : List ℕ) (loaded : List (Option (List ℕ))) → Makes (loads Enclave at (return_size f)) old mid returned
      → Makes (buffer_loads (buffers_with buffers f.params contents)) mid new loaded → Makes (reply_with f contents at) old new (replied returned loaded)
  reply_made old mid new returned loaded p q =
      subst (λ t. Makes t old new (replied returned loaded)) whole_reply
      (makes_then (loads Enclave at (return_size f)) then_buffers old mid new returned (replied returned loaded) p
      (makes_then (buffer_loads (buffers_with buffers f.params contents)) (λ loaded. ret (replied returned loaded)) mid new new loaded (replied returned loaded) q (makes_ret (replied returned loaded) new)))

  pub reply_stops : (old new : PortState) → StopsFull (loads Enclave at (return_size f)) old new → StopsFull (reply_with f contents at) old new
  reply_stops old new p = subst (λ t. StopsFull t old new) whole_reply (full_first (loads Enclave at (return_size f)) then_buffers old new p)

  pub reply_stops_then : (old mid new : PortState) (returned : List ℕ) → Makes (loads Enclave at (return_size f)) old mid returned → StopsFull (buffer_loads (buffers_with buffers f.params contents)) mid new
      → StopsFull (reply_with f contents at) old new
  reply_stops_then old mid new returned p q =
      subst (λ t. StopsFull t old new) whole_reply
      (full_second (loads Enclave at (return_size f)) then_buffers old mid new returned p
      (full_first (buffer_loads (buffers_with buffers f.params contents)) (λ loaded. ret (replied returned loaded)) mid new q))

-- what is known in the function that loads a reply
pub loaded_here : (f : Function) (m : Memory) (items slice : List Arg) (passed : List Passed) (ns : List ℕ) (size : ℕ) → slice ≡ items → AreOfKinds f.params items → ArePassed m items passed
    → checked_size f (arguments_in m passed) ≡ Ok size
    → Some ns ≡ measured f (numbers_structure f (arguments_in m passed)) (zip f.params (arguments_in m passed)) → IsWhole f (arguments_in m passed) m slice ns size
loaded_here f m items slice passed ns size same kinds live sized e =
    whole_is f (arguments_in m passed) m slice ns size (slice_passed m items slice passed same live) (subst (λ l. AreOfKinds f.params l) (sym same) kinds) (sym e) sized
