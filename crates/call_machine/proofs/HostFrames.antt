-- The frame that the host writes for a call, field by field.
use Rattle.std.proofs.Common.{ℕ, zero, suc, ◌+◌, ◌-◌, ◌^◌, ◌/◌, ◌%◌, ◌<◌, ◌≤◌, ◌≡◌, List, [], ◌∷◌, ◌++◌, length, take, drop, fold, zip, replicate, Some, slice_get, get_or, All, refl, ap, sym, ◌∙◌, subst, arith}
use Rattle.std.proofs.lemmas.List.{take-replicate, length-replicate}
use Rattle.std.proofs.lemmas.List.Elements.{All-get_or}
use Rattle.std.proofs.lemmas.Option.{slice_get_within, get_or_from_slice_get, slice_get_read}
use Rattle.std.proofs.lemmas.Slice.{put_mid-paste}
use borrow.Rule.Slice.PartMut.{put_mid}
use Rattle.sgx_base.specs.Bytes.{low_bytes, with_bytes_at}
use Rattle.edl_interface.specs.declared.Class.{Class}
use Rattle.edl_interface.specs.declared.Class.TheVariants.{Plain as by_value, UserCheck, Buffer, Text, Fixed, Foreign}
use Rattle.edl_interface.specs.declared.Param.{Param}
use Rattle.edl_interface.specs.Parameters.{field_size, IsWordSized}
use Rattle.call_script.specs.declared.CallArg.{CallArg}
use Rattle.call_script.specs.declared.CallArg.TheVariants.{At, Null, Number, Bytes}
use Rattle.call_script.specs.declared.Place.{Place}
use Rattle.call_machine.specs.Calls.{argument_address, with_field, with_lengths}
use Rattle.call_machine.specs.FramedCalls.{IsArgument, AreArguments}

-- the frame once the fields of these arguments are written too
abbrev pub filled : ℕ → List ℕ → List Param → List CallArg → List ℕ → List ℕ
filled place frame ps args lengths = fold (with_field place) frame (with_lengths (zip ps args) lengths)

pub same_lengths : (place : ℕ) (ps : List Param) (args : List CallArg) → AreArguments place ps args → length args ≡ length ps
same_lengths place [] [] h = refl
same_lengths place [] (a ∷ args) h = absurd h
same_lengths place (p ∷ ps) [] h = absurd h
same_lengths place (p ∷ ps) (a ∷ args) h = ap suc (same_lengths place ps args h.1)

-- the argument of a parameter fits it
pub argument_at : (place : ℕ) (ps : List Param) (args : List CallArg) (i : ℕ) (p : Param) (arg : CallArg) → AreArguments place ps args → slice_get ps i ≡ Some p → slice_get args i ≡ Some arg → IsArgument place p.class arg
argument_at place [] [] i p arg h e k = cc
argument_at place [] (a ∷ args) i p arg h e k = absurd h
argument_at place (q ∷ ps) [] i p arg h e k = absurd h
argument_at place (q ∷ ps) (a ∷ args) zero p arg h e k =
    let same : a ≡ arg = cc in let param : q ≡ p = cc in
    subst (λ x. IsArgument place x.class arg) param (subst (λ x. IsArgument place q.class x) same h.0)
argument_at place (q ∷ ps) (a ∷ args) (suc i) p arg h e k = argument_at place ps args i p arg h.1 e k

-- an argument's address has 64 bits
pub address_fits : (place : ℕ) (class : Class) (arg : CallArg) → IsArgument place class arg → argument_address place arg < 2 ^ 64
address_fits place class Null h = omega arith
address_fits place class (Number n) h = omega arith
address_fits place class (Bytes bytes) h = omega arith
address_fits place (by_value plain) (At at) h = absurd h
address_fits place UserCheck (At at) h = h
address_fits place (Buffer way size count unit) (At at) h = h
address_fits place (Text way unit) (At at) h = h
address_fits place (Fixed way length unit) (At at) h = h
address_fits place (Foreign way) (At at) h = h

-- what holds of all holds of the one at a place
pub all_at : {X : Type 0} (P : X → Type 0) (xs : List X) (i : ℕ) (x : X) → All P xs → slice_get xs i ≡ Some x → P x
all_at P xs i x h e = subst P (get_or_from_slice_get xs i x x e) (All-get_or P xs i x (slice_get_within xs i x e) h)

-- the element that is read at an index
pub read_at : {X : Type 0} (xs ys : List X) (i : ℕ) (x : X) → xs ≡ ys → i < length xs → x ≡ get_or xs i x → slice_get ys i ≡ Some x
read_at xs ys i x same h e = subst (λ l. slice_get l i ≡ Some x) same (slice_get_read xs (length xs) i x refl h e)

take_whole : (xs : List ℕ) → take (length xs) xs ≡ xs
take_whole [] = refl
take_whole (x ∷ xs) = ap (λ l. x ∷ l) (take_whole xs)

-- bytes that are written over a part of a frame
pub written_at : (at k : ℕ) (xs ys zs : List ℕ) → ys ≡ zs → length zs ≡ k → put_mid at k xs ys ≡ with_bytes_at xs at zs
written_at at k xs ys zs e h = put_mid-paste at k xs ys zs (length zs) e h refl ∙ ap (λ l. take at xs ++ l ++ drop (at + length zs) xs) (take_whole zs)

pub low_length : (size n : ℕ) → length (low_bytes size n) ≡ size
low_length zero n = refl
low_length (suc size) n = ap suc (low_length size (n / 256))

pub low_part : (size more n : ℕ) → take size (low_bytes (size + more) n) ≡ low_bytes size n
low_part zero more n = refl
low_part (suc size) more n =
    let e : suc size + more ≡ suc (size + more) = omega arith in
    ap (λ k. take (suc size) (low_bytes k n)) e ∙ ap (λ l. n % 256 ∷ l) (low_part size more (n / 256))

-- the first bytes of the eight of a number
pub low_of_eight : (size n : ℕ) → size ≤ 8 → take size (low_bytes 8 n) ≡ low_bytes size n
low_of_eight size n h = let e : 8 ≡ size + (8 - size) = omega (arith, h) in ap (λ k. take size (low_bytes k n)) e ∙ low_part size (8 - size) n

-- the low bytes of a number are written
pub number_written : (at k size n : ℕ) (frame ys bytes : List ℕ) → k ≡ size → ys ≡ take size bytes → bytes ≡ low_bytes 8 n → size ≤ 8 → put_mid at k frame ys ≡ with_bytes_at frame at (low_bytes size n)
number_written at k size n frame ys bytes same e b h =
    written_at at k frame ys (low_bytes size n) (e ∙ ap (λ l. take size l) b ∙ low_of_eight size n h) (low_length size n ∙ sym same)

-- the first of some zeros
pub zeros_taken : (n m : ℕ) → n ≤ m → length {A = ℕ} (take n (replicate m 0)) ≡ n
zeros_taken n m h =
    let none : ℕ = 0 in
    let same : take n (replicate m none) ≡ replicate n none = take-replicate n m none h in
    let size : length (replicate n none) ≡ n = length-replicate n none in
    ap (λ (l : List ℕ). length l) same ∙ size

-- the sizes of fields, by their arguments
pub size_at_address : (frame : ℕ) (class : Class) (place : Place) → IsArgument frame class (At place) → field_size class ≤ 8
size_at_address frame (by_value plain) place h = absurd h
size_at_address frame UserCheck place h = omega arith
size_at_address frame (Buffer way size count unit) place h = omega arith
size_at_address frame (Text way unit) place h = omega arith
size_at_address frame (Fixed way length unit) place h = omega arith
size_at_address frame (Foreign way) place h = omega arith

pub size_at_null : (frame : ℕ) (class : Class) → IsArgument frame class Null → field_size class ≤ 8
size_at_null frame (by_value plain) h = absurd h
size_at_null frame UserCheck h = omega arith
size_at_null frame (Buffer way size count unit) h = omega arith
size_at_null frame (Text way unit) h = omega arith
size_at_null frame (Fixed way length unit) h = omega arith
size_at_null frame (Foreign way) h = omega arith

pub size_at_number : (frame : ℕ) (class : Class) (n : ℕ) → IsWordSized class → IsArgument frame class (Number n) → field_size class ≤ 8
size_at_number frame (by_value plain) n word h = word h.integer
size_at_number frame UserCheck n word h = absurd h
size_at_number frame (Buffer way size count unit) n word h = absurd h
size_at_number frame (Text way unit) n word h = absurd h
size_at_number frame (Fixed way length unit) n word h = absurd h
size_at_number frame (Foreign way) n word h = absurd h

pub size_at_bytes : (frame : ℕ) (class : Class) (bytes : List ℕ) → IsArgument frame class (Bytes bytes) → length bytes ≡ field_size class
size_at_bytes frame (by_value plain) bytes h = h.size
size_at_bytes frame UserCheck bytes h = absurd h
size_at_bytes frame (Buffer way size count unit) bytes h = absurd h
size_at_bytes frame (Text way unit) bytes h = absurd h
size_at_bytes frame (Fixed way length unit) bytes h = absurd h
size_at_bytes frame (Foreign way) bytes h = absurd h

pub drop_at : {X : Type 0} (xs : List X) (i : ℕ) (x : X) → slice_get xs i ≡ Some x → drop i xs ≡ x ∷ drop (i + 1) xs
drop_at [] i x e = cc
drop_at (y ∷ xs) zero x e = let same : y ≡ x = cc in ap (λ z. z ∷ xs) same
drop_at (y ∷ xs) (suc i) x e =
    let next : suc (i + 1) ≡ suc i + 1 = omega arith in
    drop_at xs i x e ∙ ap (λ k. x ∷ drop k (y ∷ xs)) next

pub drop_past : {X : Type 0} (xs : List X) (i : ℕ) → length xs ≤ i → drop i xs ≡ []
drop_past [] zero h = refl
drop_past [] (suc i) h = refl
drop_past (x ∷ xs) zero h = absurd (omega (arith, h))
drop_past (x ∷ xs) (suc i) h = let below : length xs ≤ i = omega (arith, h) in drop_past xs i below

-- one more field is written
pub fill_more : (place : ℕ) (ps : List Param) (args : List CallArg) (lengths : List ℕ) (i n : ℕ) (p : Param) (arg : CallArg) (frame next whole : List ℕ)
    → slice_get ps i ≡ Some p → slice_get args i ≡ Some arg → slice_get lengths i ≡ Some n → next ≡ with_field place frame (p, arg, n)
    → filled place frame (drop i ps) (drop i args) (drop i lengths) ≡ whole
    → filled place next (drop (i + 1) ps) (drop (i + 1) args) (drop (i + 1) lengths) ≡ whole
fill_more place ps args lengths i n p arg frame next whole p_at arg_at n_at e now =
    ap (λ x. filled place x (drop (i + 1) ps) (drop (i + 1) args) (drop (i + 1) lengths)) e
    ∙ sym (ap (λ l. filled place frame l (drop i args) (drop i lengths)) (drop_at ps i p p_at)
    ∙ ap (λ l. filled place frame (p ∷ drop (i + 1) ps) l (drop i lengths)) (drop_at args i arg arg_at)
    ∙ ap (λ l. filled place frame (p ∷ drop (i + 1) ps) (arg ∷ drop (i + 1) args) l) (drop_at lengths i n n_at))
    ∙ now

-- all fields are written
pub fill_end : (place : ℕ) (ps : List Param) (args : List CallArg) (lengths : List ℕ) (i : ℕ) (frame whole : List ℕ) → length ps ≤ i
    → filled place frame (drop i ps) (drop i args) (drop i lengths) ≡ whole → frame ≡ whole
fill_end place ps args lengths i frame whole all now =
    sym (ap (λ l. filled place frame l (drop i args) (drop i lengths)) (drop_past ps i all)) ∙ now
