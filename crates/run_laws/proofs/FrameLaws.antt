-- The frame of an OCALL is as long as the size that was taken for it.
use Rattle.std.proofs.Common.{ℕ, zero, suc, ◌+◌, ◌≡◌, ◌≤◌, ◌==◌, Bool, true, false, if◌then◌else◌, List, [], ◌∷◌, ◌++◌, length, replicate, zip, refl, ap, sym, ◌∙◌, subst, arith, length-append}
use Rattle.std.specs.Prelude.{fold, flat_map, sum_by}
use Rattle.std.specs.List.{AllByRecursion}
use Rattle.std.proofs.lemmas.List.{length-replicate}
use Rattle.std.proofs.lemmas.List.Elements.{recursion_from_All}
use Rattle.std.proofs.lemmas.List.Sums.{sum_by-cons}
use Rattle.sgx_base.specs.Bytes.{low_bytes, with_bytes_at}
use Rattle.edl_interface.specs.declared.Class.{Class}
use Rattle.edl_interface.specs.declared.Class.TheVariants.{Plain as by_value, UserCheck, Buffer as buffer_class, Text, Fixed, Foreign}
use Rattle.edl_interface.specs.declared.Param.{Param}
use Rattle.edl_interface.specs.declared.Function.{Function}
use Rattle.edl_interface.specs.Parameters.{is_marshalled, is_in, field_size}
use Rattle.edl_interface.specs.Runnable.{field_end, IsRunnableFunction}
use Rattle.enclave_memory.specs.Arguments.{Argument, number, bytes}
use Rattle.enclave_memory.proofs.Layouts.{length-with}
use Rattle.ocall_frames.specs.Frames.{Buffer, with_number, numbers_structure, argument_length, buffer_bytes, buffers_from, buffers_of, ocall_size, shown_content, frame_bytes}

low_length : (count n : ℕ) → length (low_bytes count n) ≡ count
low_length zero n = refl
low_length (suc count) n = ap (λ k. suc k) (low_length count _)

-- the field of a parameter lies in so many bytes
abbrev FitsIn : ℕ → Param → Type 0
FitsIn size p = p.offset + field_size p.class ≤ size

fits : (size : ℕ) (p : Param) → field_end false p ≤ size → FitsIn size p
fits size p h = let all : p.offset + field_size p.class + 0 ≤ size = h in omega (arith, all)

all_fit : (size : ℕ) (params : List Param) → AllByRecursion (λ p. field_end false p ≤ size) params → AllByRecursion (FitsIn size) params
all_fit size [] h = tt
all_fit size (p ∷ params) h = (fits size p h.0, all_fit size params h.1)

number_length : (p : Param) (structure : List ℕ) (a : Argument) → FitsIn (length structure) p → length (with_number p structure a) ≡ length structure
number_length p structure (number n) h =
    let size : length (low_bytes (field_size p.class) n) ≡ field_size p.class = low_length (field_size p.class) n in
    length-with structure p.offset (low_bytes (field_size p.class) n) (omega (arith, size, h))
number_length p structure (bytes block) h = refl

numbers_length : (params : List Param) (arguments : List Argument) (structure : List ℕ) → AllByRecursion (FitsIn (length structure)) params
    → length (fold (λ s (p, a). with_number p s a) structure (zip params arguments)) ≡ length structure
numbers_length [] arguments structure h = refl
numbers_length (p ∷ params) [] structure h = refl
numbers_length (p ∷ params) (a ∷ arguments) structure h =
    let same : length (with_number p structure a) ≡ length structure = number_length p structure a h.0 in
    numbers_length params arguments (with_number p structure a) (subst (λ n. AllByRecursion (FitsIn n) params) (sym same) h.1) ∙ same

-- a marshalled parameter's field is a pointer
pointer_field : (class : Class) → is_marshalled class ≡ true → field_size class ≡ 8
pointer_field (by_value plain) e = cc
pointer_field UserCheck e = refl
pointer_field (buffer_class way size count unit) e = refl
pointer_field (Text way unit) e = refl
pointer_field (Fixed way n unit) e = refl
pointer_field (Foreign way) e = refl

abbrev HasPointer : ℕ → Buffer → Type 0
HasPointer size b = b.param.offset + 8 ≤ size

one_buffer : (size : ℕ) (p : Param) (address : ℕ) (content : List ℕ) (more : List Buffer) (b : Bool) → is_marshalled p.class ≡ b → FitsIn size p → AllByRecursion (HasPointer size) more
    → AllByRecursion (HasPointer size) (if b then record { param = p; address = address; content = content } ∷ more else more)
one_buffer size p address content more true e h others = let field : field_size p.class ≡ 8 = pointer_field p.class e in (omega (arith, field, h), others)
one_buffer size p address content more false e h others = others

buffers_fit : (f : Function) (structure : List ℕ) (size next : ℕ) (params : List Param) (arguments : List Argument) → AllByRecursion (FitsIn size) params
    → AllByRecursion (HasPointer size) (buffers_from f structure next (zip params arguments))
buffers_fit f structure size next [] arguments h = tt
buffers_fit f structure size next (p ∷ params) [] h = tt
buffers_fit f structure size next (p ∷ params) (a ∷ arguments) h =
    let content : List ℕ = buffer_bytes (argument_length f structure p a) a in
    one_buffer size p (if length content == 0 then 0 else next) content (buffers_from f structure (next + length content) (zip params arguments)) (is_marshalled p.class) refl h.0
    (buffers_fit f structure size (next + length content) params arguments h.1)

addresses_length : (buffers : List Buffer) (structure : List ℕ) → AllByRecursion (HasPointer (length structure)) buffers
    → length (fold (λ s b. with_bytes_at s b.param.offset (low_bytes 8 b.address)) structure buffers) ≡ length structure
addresses_length [] structure h = refl
addresses_length (b ∷ buffers) structure h =
    let size : length (low_bytes 8 b.address) ≡ 8 = low_length 8 b.address in
    let fit : b.param.offset + 8 ≤ length structure = h.0 in
    let same : length (with_bytes_at structure b.param.offset (low_bytes 8 b.address)) ≡ length structure =
    length-with structure b.param.offset (low_bytes 8 b.address) (omega (arith, size, fit)) in
    addresses_length buffers (with_bytes_at structure b.param.offset (low_bytes 8 b.address)) (subst (λ n. AllByRecursion (HasPointer n) buffers) (sym same) h.1) ∙ same

-- what the buffers hold in all
abbrev pub total : List Buffer → ℕ
total buffers = sum_by (λ b. length b.content) buffers

shown_length : (b : Buffer) → length (shown_content b) ≡ length b.content
shown_length b = elim (is_in b.param.class) as (λ c. length (if c then b.content else replicate (length b.content) 0) ≡ length b.content) [ true ↦ refl | false ↦ length-replicate (length b.content) 0 ]

all_shown : (buffers : List Buffer) → length (flat_map shown_content buffers) ≡ total buffers
all_shown [] = refl
all_shown (b ∷ buffers) =
    let here : length (shown_content b) ≡ length b.content = shown_length b in
    let rest : length (flat_map shown_content buffers) ≡ total buffers = all_shown buffers in
    let joined : length (shown_content b ++ flat_map shown_content buffers) ≡ length (shown_content b) + length (flat_map shown_content buffers) = length-append (shown_content b) (flat_map shown_content buffers) in
    joined ∙ ap (λ n. n + length (flat_map shown_content buffers)) here ∙ ap (λ n. length b.content + n) rest ∙ sym (sum_by-cons (λ (c : Buffer). length c.content) b buffers)

one_total : (p : Param) (here there : ℕ) (content : List ℕ) (more others : List Buffer) (b : Bool) → total more ≡ total others
    → total (if b then record { param = p; address = here; content = content } ∷ more else more) ≡ total (if b then record { param = p; address = there; content = content } ∷ others else others)
one_total p here there content more others true e =
    sum_by-cons (λ (c : Buffer). length c.content) (record { param = p; address = here; content = content }) more
    ∙ ap (λ n. length content + n) e
    ∙ sym (sum_by-cons (λ (c : Buffer). length c.content) (record { param = p; address = there; content = content }) others)
one_total p here there content more others false e = e

-- it does not depend on where they begin
pub same_total : (f : Function) (structure : List ℕ) (here there : ℕ) (params : List Param) (arguments : List Argument)
    → total (buffers_from f structure here (zip params arguments)) ≡ total (buffers_from f structure there (zip params arguments))
same_total f structure here there [] arguments = refl
same_total f structure here there (p ∷ params) [] = refl
same_total f structure here there (p ∷ params) (a ∷ arguments) =
    let content : List ℕ = buffer_bytes (argument_length f structure p a) a in
    one_total p (if length content == 0 then 0 else here) (if length content == 0 then 0 else there) content
    (buffers_from f structure (here + length content) (zip params arguments)) (buffers_from f structure (there + length content) (zip params arguments)) (is_marshalled p.class)
    (same_total f structure (here + length content) (there + length content) params arguments)

-- the frame is as long as its size
pub frame_length : (f : Function) (arguments : List Argument) (frame : ℕ) → IsRunnableFunction false f → length (frame_bytes f arguments frame) ≡ ocall_size f arguments
frame_length f arguments frame h =
    let empty : List ℕ = replicate f.frame_size 0 in
    let structure : List ℕ = numbers_structure f arguments in
    let fields : AllByRecursion (FitsIn f.frame_size) f.params = all_fit f.frame_size f.params (recursion_from_All (λ p. field_end false p ≤ f.frame_size) f.params h.fields) in
    let whole : length empty ≡ f.frame_size = length-replicate f.frame_size 0 in
    let numbers : length structure ≡ f.frame_size = numbers_length f.params arguments empty (subst (λ n. AllByRecursion (FitsIn n) f.params) (sym whole) fields) ∙ whole in
    let buffers : List Buffer = buffers_of f arguments frame in
    let pointers : AllByRecursion (HasPointer (length structure)) buffers =
    subst (λ n. AllByRecursion (HasPointer n) buffers) (sym numbers) (buffers_fit f structure f.frame_size (frame + f.frame_size) f.params arguments fields) in
    let filled : List ℕ = fold (λ s b. with_bytes_at s b.param.offset (low_bytes 8 b.address)) structure buffers in
    let filled_length : length filled ≡ f.frame_size = addresses_length buffers structure pointers ∙ numbers in
    let content : length (flat_map shown_content buffers) ≡ total (buffers_of f arguments 0) =
    all_shown buffers ∙ same_total f structure (frame + f.frame_size) (0 + f.frame_size) f.params arguments in
    let joined : length (filled ++ flat_map shown_content buffers) ≡ length filled + length (flat_map shown_content buffers) = length-append filled (flat_map shown_content buffers) in
    joined ∙ ap (λ n. n + length (flat_map shown_content buffers)) filled_length ∙ ap (λ n. f.frame_size + n) content
