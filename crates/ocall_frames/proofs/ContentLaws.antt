-- What goes into the buffers of a frame, one content after another.
use Rattle.std.proofs.Common.{ℕ, zero, suc, ◌+◌, ◌*◌, ◌/◌, ◌<◌, ◌≤◌, ◌≡◌, ◌||◌, ◌==◌, nat_lt, Bool, true, false, if◌then◌else◌, List, [], ◌∷◌, length, take, drop, map, zip, sum, position, Option, Some, None, option_map, slice_get, get_or, refl, ap, sym, ◌∙◌, subst, arith, length-take}
use Rattle.std.specs.Prelude.{unwrap_or}
use Rattle.std.specs.List.{list_any}
use Rattle.std.proofs.lemmas.Bool.{ltb-false}
use Rattle.std.proofs.lemmas.List.Sums.{sum_by-cons}
use Rattle.std.proofs.Math.Nat.{suc-mul}
use Rattle.sgx_base.specs.Bytes.{low_bytes, with_bytes_at}
use Rattle.sgx_base.specs.Texts.{units, is_zero_unit, terminated_length}
use Rattle.edl_interface.specs.declared.Class.{Class}
use Rattle.edl_interface.specs.declared.Class.TheVariants.{Plain as by_value, UserCheck, Buffer as buffer_class, Text, Fixed, Foreign}
use Rattle.edl_interface.specs.declared.Function.{Function}
use Rattle.edl_interface.specs.declared.Param.{Param}
use Rattle.edl_interface.specs.Parameters.{is_marshalled, is_text, unit_of, field_size}
use Rattle.edl_interface.specs.Lengths.{length_in}
use Rattle.enclave_memory.specs.declared.Arg.{Arg}
use Rattle.enclave_memory.specs.declared.Arg.TheVariants.{Value, Bytes}
use Rattle.enclave_memory.specs.Arguments.{Argument, number, bytes}
use Rattle.enclave_memory.specs.Memory.{Memory}
use Rattle.ocall_frames.specs.Arguments.{AreOfKinds}
use Rattle.ocall_frames.specs.Contents.{IsArgument, AreArguments, content_of, contents_of, IsContent, AreContents, buffers_with, addressed}
use Rattle.ocall_frames.proofs.StructureLaws.{drop_at}
use Rattle.ocall_frames.specs.Frames.{argument_length, has_no_length, exceeds_block, Buffer, buffers_from}

-- a string ends behind its first unit
whole_units : (unit n : ℕ) (found : Option ℕ) → option_map (λ k. (k + 1) * unit) found ≡ Some n → unit ≤ n
whole_units unit n None e = cc
whole_units unit n (Some k) e =
    let same : (k + 1) * unit ≡ n = cc in
    let next : k + 1 ≡ suc k = omega arith in
    let parts : (k + 1) * unit ≡ k * unit + unit = ap (λ j. j * unit) next ∙ suc-mul k unit in
    omega (arith, same, parts)

taken_again : (k : ℕ) (these : List ℕ) → take k these ≡ take (length (take k these)) these
taken_again zero [] = refl
taken_again zero (x ∷ these) = refl
taken_again (suc k) [] = refl
taken_again (suc k) (x ∷ these) = ap (λ l. x ∷ l) (taken_again k these)

taken_within : (k : ℕ) (these : List ℕ) → length (take k these) ≤ length these
taken_within k these = let cut = length-take k these in omega (arith, cut)

taken_whole : (k : ℕ) (these : List ℕ) → k ≤ length these → length (take k these) ≡ k
taken_whole k these h = let cut = length-take k these in omega (arith, cut, h)

-- a string that is not refused has a whole unit
unit_within : (text : Bool) (unit product : ℕ) (these : List ℕ) (n : Option ℕ) → (if text then terminated_length unit these else Some product) ≡ n → has_no_length n ≡ false
    → nat_lt (length these) (unwrap_or n 0) ≡ false → text ≡ true → unit ≤ length (take (unwrap_or n 0) these)
unit_within false unit product these n e has less is = cc
unit_within true unit product these None e has less is = cc
unit_within true unit product these (Some n) e has less is =
    let within : n ≤ length these = ltb-false (length these) n less in
    let whole : length (take n these) ≡ n = taken_whole n these within in
    let fits : unit ≤ n = whole_units unit n (position is_zero_unit (units unit (length these / unit) these)) e in
    omega (arith, whole, fits)

either_false : (a b : Bool) → (a || b) ≡ false → (a ≡ false) × (b ≡ false)
either_false true b e = cc
either_false false b e = (refl, e)

module _ (f : Function) (structure : List ℕ) where
  abbrev lacks : Param × Argument → Bool
  lacks (p, a) = has_no_length (argument_length f structure p a)

  abbrev exceeds : Param × Argument → Bool
  exceeds (p, a) = exceeds_block (argument_length f structure p a) a

  content_is : (m : Memory) (p : Param) (arg : Arg) (a : Argument) → IsArgument m arg a → lacks (p, a) ≡ false → exceeds (p, a) ≡ false → IsContent m p.class arg (content_of f structure (p, a))
  content_is m p (Value n) (number k) h has less = refl
  content_is m p (Value n) (bytes b) h has less = absurd h
  content_is m p (Bytes None) (number k) h has less = absurd h
  content_is m p (Bytes None) (bytes None) h has less = refl
  content_is m p (Bytes None) (bytes (Some these)) h has less = absurd h
  content_is m p (Bytes (Some b)) (number k) h has less = absurd h
  content_is m p (Bytes (Some b)) (bytes None) h has less = absurd h
  content_is m p (Bytes (Some b)) (bytes (Some these)) h has less = record {
    place = h.0;
    block = these;
    is_block = h.1;
    content_is = taken_again (unwrap_or (argument_length f structure p (bytes (Some these))) 0) these;
    within = taken_within (unwrap_or (argument_length f structure p (bytes (Some these))) 0) these;
    unit = unit_within (is_text p.class) (unit_of p.class) (length_in f structure p) these (argument_length f structure p (bytes (Some these))) refl has less;
  }

  pub contents_are : (m : Memory) (ps : List Param) (args : List Arg) (arguments : List Argument) → AreArguments m args arguments → AreOfKinds ps args
      → list_any lacks (zip ps arguments) ≡ false → list_any exceeds (zip ps arguments) ≡ false → AreContents m ps args (contents_of f structure (zip ps arguments))
  contents_are m [] [] [] h kinds has less = tt
  contents_are m [] [] (x ∷ arguments) h kinds has less = absurd h
  contents_are m [] (a ∷ args) arguments h kinds has less = absurd kinds
  contents_are m (p ∷ ps) [] arguments h kinds has less = absurd kinds
  contents_are m (p ∷ ps) (a ∷ args) [] h kinds has less = absurd h
  contents_are m (p ∷ ps) (a ∷ args) (x ∷ arguments) h kinds has less =
      let has_parts : (lacks (p, x) ≡ false) × (list_any lacks (zip ps arguments) ≡ false) = either_false _ _ has in
      let less_parts : (exceeds (p, x) ≡ false) × (list_any exceeds (zip ps arguments) ≡ false) = either_false _ _ less in
      (kinds.0, content_is m p a x h.0 has_parts.0 less_parts.0, contents_are m ps args arguments h.1 kinds.1 has_parts.1 less_parts.1)

  -- the buffers are those of the contents
  pub buffers_are : (ps : List Param) (arguments : List Argument) (next : ℕ) → buffers_from f structure next (zip ps arguments) ≡ buffers_with next ps (contents_of f structure (zip ps arguments))
  buffers_are [] arguments next = refl
  buffers_are (p ∷ ps) [] next = refl
  buffers_are (p ∷ ps) (a ∷ arguments) next =
      let content : List ℕ = content_of f structure (p, a) in
      ap (λ (more : List Buffer). if is_marshalled p.class then record { param = p; address = if length content == 0 then 0 else next; content = content } ∷ more else more)
      (buffers_are ps arguments (next + length content))

-- the next content, by its length
pub record IsNextContent (contents : List (List ℕ)) (lengths : List ℕ) (i : ℕ) : Type 0 where
  pub content : List ℕ
  pub left : drop i contents ≡ content ∷ drop (i + 1) contents
  pub count : get_or lengths i 0 ≡ length content

lengths_next : (contents : List (List ℕ)) (i : ℕ) → i < length (map length contents) → IsNextContent contents (map length contents) i
lengths_next [] i h = absurd (omega (arith, h))
lengths_next (x ∷ contents) zero h = record { content = x; left = refl; count = refl }
lengths_next (x ∷ contents) (suc i) h =
    let below : i < length (map length contents) = omega (arith, h) in
    let n : IsNextContent contents (map length contents) i = lengths_next contents i below in
    let on : suc (i + 1) ≡ suc i + 1 = omega arith in
    record { content = n.content; left = n.left ∙ ap (λ k. n.content ∷ drop k (x ∷ contents)) on; count = n.count }

pub next_content : (contents : List (List ℕ)) (lengths : List ℕ) (i : ℕ) → lengths ≡ map length contents → i < length lengths → IsNextContent contents lengths i
next_content contents lengths i e h =
    subst (λ l. IsNextContent contents l i) (sym e) (lengths_next contents i (subst (λ (l : List ℕ). i < length l) e h))

pub no_content : (contents : List (List ℕ)) (lengths : List ℕ) (i : ℕ) → lengths ≡ map length contents → length lengths ≤ i → drop i contents ≡ []
no_content contents lengths i e h = none contents i (subst (λ (l : List ℕ). length l ≤ i) e h)
  where
    none : (xs : List (List ℕ)) (n : ℕ) → length (map length xs) ≤ n → drop n xs ≡ []
    none [] zero k = refl
    none [] (suc n) k = refl
    none (x ∷ xs) zero k = absurd (omega (arith, k))
    none (x ∷ xs) (suc n) k = let w : length (map length xs) ≤ n = omega (arith, k) in none xs n w

-- the lengths that are left, with the next one
pub sum_next : (lengths : List ℕ) (i : ℕ) → i < length lengths → sum (drop i lengths) ≡ get_or lengths i 0 + sum (drop (i + 1) lengths)
sum_next [] i h = absurd (omega (arith, h))
sum_next (x ∷ lengths) zero h = sum_by-cons (λ n. n) x lengths
sum_next (x ∷ lengths) (suc i) h =
    let below : i < length lengths = omega (arith, h) in
    let on : suc (i + 1) ≡ suc i + 1 = omega arith in
    sum_next lengths i below ∙ ap (λ k. get_or lengths i 0 + sum (drop k (x ∷ lengths))) on

-- the field of what is marshalled has 8 bytes
pub pointer_size : (class : Class) → is_marshalled class ≡ true → field_size class ≡ 8
pointer_size (by_value plain) e = cc
pointer_size UserCheck e = refl
pointer_size (buffer_class way size count unit) e = refl
pointer_size (Text way unit) e = refl
pointer_size (Fixed way length unit) e = refl
pointer_size (Foreign way) e = refl

-- the address of the next buffer is written
addressed_first : (s : List ℕ) (p : Param) (content : List ℕ) (next : ℕ) (more : List Buffer) (c : Bool)
    → addressed s (if c then record { param = p; address = if length content == 0 then 0 else next; content = content } ∷ more else more)
    ≡ addressed (if c then with_bytes_at s p.offset (low_bytes 8 (if length content == 0 then 0 else next)) else s) more
addressed_first s p content next more true = refl
addressed_first s p content next more false = refl

pub addressed_next : (s : List ℕ) (p : Param) (ps : List Param) (contents : List (List ℕ)) (content : List ℕ) (rest : List (List ℕ)) (next : ℕ) → contents ≡ content ∷ rest
    → addressed s (buffers_with next (p ∷ ps) contents)
    ≡ addressed (if is_marshalled p.class then with_bytes_at s p.offset (low_bytes 8 (if length content == 0 then 0 else next)) else s) (buffers_with (next + length content) ps rest)
addressed_next s p ps contents content rest next e =
    ap (λ l. addressed s (buffers_with next (p ∷ ps) l)) e ∙ addressed_first s p content next (buffers_with (next + length content) ps rest) (is_marshalled p.class)

-- one more address is written
pub address_more : (s new whole : List ℕ) (p : Param) (ps : List Param) (contents : List (List ℕ)) (lengths : List ℕ) (i next : ℕ) → lengths ≡ map length contents → i < length lengths → slice_get ps i ≡ Some p
    → new ≡ (if is_marshalled p.class then with_bytes_at s p.offset (low_bytes 8 (if get_or lengths i 0 == 0 then 0 else next)) else s)
    → addressed s (buffers_with next (drop i ps) (drop i contents)) ≡ whole
    → addressed new (buffers_with (next + get_or lengths i 0) (drop (i + 1) ps) (drop (i + 1) contents)) ≡ whole
address_more s new whole p ps contents lengths i next e h at is left =
    let n : IsNextContent contents lengths i = next_content contents lengths i e h in
    ap (λ x. addressed x (buffers_with (next + get_or lengths i 0) (drop (i + 1) ps) (drop (i + 1) contents))) is
    ∙ ap (λ k. addressed (if is_marshalled p.class then with_bytes_at s p.offset (low_bytes 8 (if k == 0 then 0 else next)) else s) (buffers_with (next + k) (drop (i + 1) ps) (drop (i + 1) contents))) n.count
    ∙ sym (addressed_next s p (drop (i + 1) ps) (drop i contents) n.content (drop (i + 1) contents) next n.left)
    ∙ ap (λ l. addressed s (buffers_with next l (drop i contents))) (sym (drop_at ps i p at)) ∙ left

-- the sum that is left, with the next length
pub total_more : (lengths : List ℕ) (i next all : ℕ) → i < length lengths → next + sum (drop i lengths) ≡ all → (next + get_or lengths i 0) + sum (drop (i + 1) lengths) ≡ all
total_more lengths i next all h e = let s : sum (drop i lengths) ≡ get_or lengths i 0 + sum (drop (i + 1) lengths) = sum_next lengths i h in omega (arith, s, e)
