-- Laws of the frames of OCALLs.
use Rattle.std.proofs.Common.{ℕ, ◌+◌, ◌-◌, ◌*◌, ◌/◌, ◌<◌, ◌≤◌, ◌≡◌, ◌==◌, ◌||◌, nat_lt, Bool, true, false, if◌then◌else◌, List, [], ◌∷◌, ◌++◌, length, zip, replicate, Some, None, refl, ap, ◌∙◌, arith}
use Rattle.std.specs.Prelude.{flat_map}
use Rattle.std.proofs.lemmas.Bool.{ltb-false}
use Rattle.edl_interface.specs.declared.Function.{Function}
use Rattle.edl_interface.specs.declared.Param.{Param}
use Rattle.edl_interface.specs.Parameters.{is_marshalled, is_in}
use Rattle.enclave_memory.specs.Arguments.{Argument, number, bytes}
use Rattle.word_port.specs.declared.Side.TheVariants.{Enclave}
use Rattle.word_port.specs.Interaction.{AllRequests}
use Rattle.word_port.specs.Accesses.{stores}
use Rattle.ocall_frames.specs.Stack.{frame_below}
use Rattle.ocall_frames.specs.Contents.{content_of, addressed}
use Rattle.ocall_frames.specs.Laws.{IsStoreIn, IsShownAlike, AreShownAlike}
use Rattle.ocall_frames.specs.Frames.{Buffer, numbers_structure, buffers_from, shown_content, frame_bytes}
use Rattle.ocall_frames.proofs.ArgumentLaws.{numbers_from}

stores_lie : (base count at : ℕ) (these : List ℕ) → base ≤ at → at + length these ≤ base + count → AllRequests (IsStoreIn base count) (stores Enclave at these)
stores_lie base count at [] low high = tt
stores_lie base count at (b ∷ these) low high =
    let here : at < base + count = omega (arith, high) in
    let on : base ≤ at + 1 = omega (arith, low) in
    let end : (at + 1) + length these ≤ base + count = omega (arith, high) in
    ((refl, (at, (low, here), refl)), λ n. stores_lie base count (at + 1) these on end)

pub frame_stores : (f : Function) (arguments : List Argument) (frame : ℕ) → AllRequests (IsStoreIn frame (length (frame_bytes f arguments frame))) (stores Enclave frame (frame_bytes f arguments frame))
frame_stores f arguments frame =
    let low : frame ≤ frame = omega arith in
    let high : frame + length (frame_bytes f arguments frame) ≤ frame + length (frame_bytes f arguments frame) = omega arith in
    stores_lie frame (length (frame_bytes f arguments frame)) frame (frame_bytes f arguments frame) low high

found_at : (c : Bool) (at frame : ℕ) → (if c then None else Some at) ≡ Some frame → (c ≡ false) × (at ≡ frame)
found_at true at frame e = cc
found_at false at frame e = let same : at ≡ frame = cc in (refl, same)

neither : (a b : Bool) → (a || b) ≡ false → (a ≡ false) × (b ≡ false)
neither true b e = cc
neither false b e = (refl, e)

pub frame_region : (base top size frame : ℕ) → frame_below base top size ≡ Some frame → (base ≤ frame) × (frame + size ≤ top)
frame_region base top size frame e =
    let r : ((nat_lt top size || nat_lt ((top - size) / 16 * 16) base) ≡ false) × ((top - size) / 16 * 16 ≡ frame) =
    found_at (nat_lt top size || nat_lt ((top - size) / 16 * 16) base) ((top - size) / 16 * 16) frame e in
    let fits : (nat_lt top size ≡ false) × (nat_lt ((top - size) / 16 * 16) base ≡ false) =
    neither (nat_lt top size) (nat_lt ((top - size) / 16 * 16) base) r.0 in
    let enough : size ≤ top = ltb-false top size fits.0 in
    let low : base ≤ (top - size) / 16 * 16 = ltb-false ((top - size) / 16 * 16) base fits.1 in
    let base_within : base ≤ frame = omega (arith, low, r.1) in
    let within : frame + size ≤ top = omega (arith, r.1, enough) in
    (base_within, within)

-- the numbers of alike arguments make one structure
numbers_alike : (f : Function) (structure : List ℕ) (ps : List Param) (xs ys : List Argument) (s : List ℕ) → AreShownAlike f structure ps xs ys → numbers_from s (zip ps xs) ≡ numbers_from s (zip ps ys)
numbers_alike f structure [] [] [] s h = refl
numbers_alike f structure [] [] (y ∷ ys) s h = absurd h
numbers_alike f structure [] (x ∷ xs) ys s h = absurd h
numbers_alike f structure (p ∷ ps) [] ys s h = absurd h
numbers_alike f structure (p ∷ ps) (x ∷ xs) [] s h = absurd h
numbers_alike f structure (p ∷ ps) (number m ∷ xs) (number n ∷ ys) s h =
    ap (λ k. numbers_from s ((p, number k) ∷ zip ps xs)) h.0 ∙ numbers_alike f structure ps xs ys _ h.1
numbers_alike f structure (p ∷ ps) (number m ∷ xs) (bytes c ∷ ys) s h = absurd h.0
numbers_alike f structure (p ∷ ps) (bytes b ∷ xs) (number n ∷ ys) s h = absurd h.0
numbers_alike f structure (p ∷ ps) (bytes b ∷ xs) (bytes c ∷ ys) s h = numbers_alike f structure ps xs ys s h.1

-- two contents of which the host is shown the same
abbrev AreAlike : Param → List ℕ → List ℕ → Type 0
AreAlike p x y = (length x ≡ length y) × (is_in p.class ≡ true → x ≡ y)

content_alike : (f : Function) (structure : List ℕ) (p : Param) (a b : Argument) → IsShownAlike f structure p a b → AreAlike p (content_of f structure (p, a)) (content_of f structure (p, b))
content_alike f structure p (number m) (number n) h = (refl, λ inward. refl)
content_alike f structure p (number m) (bytes c) h = absurd h
content_alike f structure p (bytes b) (number n) h = absurd h
content_alike f structure p (bytes b) (bytes c) h = h

shown_same : (inward : Bool) (x y : List ℕ) → length x ≡ length y → (inward ≡ true → x ≡ y) → (if inward then x else replicate (length x) 0) ≡ (if inward then y else replicate (length y) 0)
shown_same true x y l h = h refl
shown_same false x y l h = ap (λ n. replicate n 0) l

first_addressed : (s : List ℕ) (p : Param) (x y : List ℕ) (next : ℕ) (m : Bool) (more others : List Buffer) → length x ≡ length y
    → ((t : List ℕ) → addressed t more ≡ addressed t others)
    → addressed s (if m then record { param = p; address = if length x == 0 then 0 else next; content = x } ∷ more else more)
    ≡ addressed s (if m then record { param = p; address = if length y == 0 then 0 else next; content = y } ∷ others else others)
first_addressed s p x y next true more others l h =
    h _ ∙ ap (λ n. addressed s (record { param = p; address = if n == 0 then 0 else next; content = y } ∷ others)) l
first_addressed s p x y next false more others l h = h s

first_shown : (p : Param) (x y : List ℕ) (next : ℕ) (m : Bool) (more others : List Buffer) → AreAlike p x y → flat_map shown_content more ≡ flat_map shown_content others
    → flat_map shown_content (if m then record { param = p; address = if length x == 0 then 0 else next; content = x } ∷ more else more)
    ≡ flat_map shown_content (if m then record { param = p; address = if length y == 0 then 0 else next; content = y } ∷ others else others)
first_shown p x y next true more others l h =
    ap (λ z. z ++ flat_map shown_content more) (shown_same (is_in p.class) x y l.0 l.1) ∙ ap (λ z. (if is_in p.class then y else replicate (length y) 0) ++ z) h
first_shown p x y next false more others l h = h

module _ (f : Function) (structure : List ℕ) where
  addressed_alike : (ps : List Param) (xs ys : List Argument) (next : ℕ) (s : List ℕ) → AreShownAlike f structure ps xs ys
      → addressed s (buffers_from f structure next (zip ps xs)) ≡ addressed s (buffers_from f structure next (zip ps ys))
  addressed_alike [] [] [] next s h = refl
  addressed_alike [] [] (y ∷ ys) next s h = absurd h
  addressed_alike [] (x ∷ xs) ys next s h = absurd h
  addressed_alike (p ∷ ps) [] ys next s h = absurd h
  addressed_alike (p ∷ ps) (x ∷ xs) [] next s h = absurd h
  addressed_alike (p ∷ ps) (x ∷ xs) (y ∷ ys) next s h =
      let l : AreAlike p (content_of f structure (p, x)) (content_of f structure (p, y)) = content_alike f structure p x y h.0 in
      first_addressed s p (content_of f structure (p, x)) (content_of f structure (p, y)) next (is_marshalled p.class)
      (buffers_from f structure (next + length (content_of f structure (p, x))) (zip ps xs)) (buffers_from f structure (next + length (content_of f structure (p, y))) (zip ps ys)) l.0
      (λ t. addressed_alike ps xs ys (next + length (content_of f structure (p, x))) t h.1 ∙ ap (λ n. addressed t (buffers_from f structure (next + n) (zip ps ys))) l.0)

  shown_alike : (ps : List Param) (xs ys : List Argument) (next : ℕ) → AreShownAlike f structure ps xs ys
      → flat_map shown_content (buffers_from f structure next (zip ps xs)) ≡ flat_map shown_content (buffers_from f structure next (zip ps ys))
  shown_alike [] [] [] next h = refl
  shown_alike [] [] (y ∷ ys) next h = absurd h
  shown_alike [] (x ∷ xs) ys next h = absurd h
  shown_alike (p ∷ ps) [] ys next h = absurd h
  shown_alike (p ∷ ps) (x ∷ xs) [] next h = absurd h
  shown_alike (p ∷ ps) (x ∷ xs) (y ∷ ys) next h =
      let l : AreAlike p (content_of f structure (p, x)) (content_of f structure (p, y)) = content_alike f structure p x y h.0 in
      first_shown p (content_of f structure (p, x)) (content_of f structure (p, y)) next (is_marshalled p.class)
      (buffers_from f structure (next + length (content_of f structure (p, x))) (zip ps xs)) (buffers_from f structure (next + length (content_of f structure (p, y))) (zip ps ys)) l
      (shown_alike ps xs ys (next + length (content_of f structure (p, x))) h.1 ∙ ap (λ n. flat_map shown_content (buffers_from f structure (next + n) (zip ps ys))) l.0)

pub frame_alike : (f : Function) (arguments others : List Argument) (frame : ℕ) → AreShownAlike f (numbers_structure f arguments) f.params arguments others
    → frame_bytes f arguments frame ≡ frame_bytes f others frame
frame_alike f arguments others frame h =
    let s : List ℕ = numbers_structure f arguments in
    let next : ℕ = frame + f.frame_size in
    let same : s ≡ numbers_structure f others = numbers_alike f s f.params arguments others (replicate f.frame_size 0) h in
    ap (λ l. l ++ flat_map shown_content (buffers_from f s next (zip f.params arguments))) (addressed_alike f s f.params arguments others next s h)
    ∙ ap (λ l. addressed s (buffers_from f s next (zip f.params others)) ++ l) (shown_alike f s f.params arguments others next h)
    ∙ ap (λ t. addressed t (buffers_from f t next (zip f.params others)) ++ flat_map shown_content (buffers_from f t next (zip f.params others))) same
