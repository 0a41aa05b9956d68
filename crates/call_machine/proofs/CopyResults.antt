-- What is known of the copies that parameters are copied in as.
use Rattle.std.proofs.Common.{ℕ, zero, suc, ◌+◌, ◌-◌, ◌≡◌, ◌≢◌, ◌<◌, ◌==◌, Bool, true, false, not, nat_lt, if◌then◌else◌, List, [], ◌∷◌, length, replicate, Option, Some, None, Result, Ok, Err, refl, ap, sym, ◌∙◌, subst, IsTrue, arith}
use Rattle.std.proofs.lemmas.List.{length-replicate}
use Rattle.sgx_base.specs.Bytes.{is_divisible, rounded_size}
use Rattle.sgx_base.specs.Passing.{is_inward}
use Rattle.sgx_base.specs.Ranges.{is_mapped}
use Rattle.sgx_base.specs.Rows.{first_row}
use Rattle.sgx_base.specs.Texts.{terminated_text, has_early_end}
use Rattle.sgx_base.specs.declared.Status.{Status}
use Rattle.sgx_base.specs.declared.TheConstants.Status.{UNEXPECTED, INVALID_PARAMETER, OUT_OF_MEMORY}
use Rattle.edl_interface.specs.declared.Function.{Function}
use Rattle.edl_interface.specs.declared.Param.{Param}
use Rattle.edl_interface.specs.Parameters.{address_in}
use Rattle.edl_interface.specs.Lengths.{length_in, copied_length}
use Rattle.word_port.specs.declared.Side.{Side}
use Rattle.word_port.specs.declared.Side.TheVariants.{Enclave}
use Rattle.word_port.specs.Interaction.{Interaction, ret, and_then, map_value}
use Rattle.word_port.specs.Accesses.{loads}
use Rattle.word_port.specs.Port.{PortState}
use Rattle.word_port.specs.Runs.{Makes, StopsFull}
use Rattle.word_port.proofs.Laws.{and_then-assoc, makes_ret, makes_then, full_first}
use Rattle.word_port.specs.declared.RunFull.{RunFull}
use Rattle.call_copy.specs.declared.CopyStop.{CopyStop}
use Rattle.call_copy.specs.declared.CopyStop.TheVariants.{Refused, Full}
use Rattle.call_copy.specs.Stops.{MatchStop}
use Rattle.call_copy.specs.declared.Shape.{Shape}
use Rattle.call_copy.specs.Copies.{first_bytes, checked_bytes, copy_unless, copy_in}
use Rattle.call_copy.proofs.TextLaws.{length-text, unit_fits}
use Rattle.call_machine.specs.Result.{and_then_ok, go_on_if_ok}
use Rattle.call_machine.specs.Ecall.{Copies, copies_in, with_first, shape_of}
use Rattle.call_machine.specs.Entry.{IsPlaced, some_copy, copy_of, IsCopyOf, AreCopiesOf}
use Rattle.call_machine.proofs.Results.{AllResults, results_then}
use std.Path.{fun_ext}

-- the room that is left after a copy
abbrev pub room_after : ℕ → Option (List ℕ) → ℕ
room_after room None = room
room_after room (Some bytes) = room - rounded_size (length bytes)

-- the copies that follow one
abbrev pub copies_after : Function → List ℕ → ℕ → List Param → Option (List ℕ) → Interaction (Result Copies Status)
copies_after f frame room rest block = map_value (with_first block) (copies_in f frame (room_after room block) rest)

go_on_some : (f : Function) (frame : List ℕ) (room : ℕ) (rest : List Param) (copied : Result (List ℕ) Status)
    → go_on_if_ok (λ (bytes : List ℕ). map_value (with_first (Some bytes)) (copies_in f frame (room - rounded_size (length bytes)) rest)) copied
    ≡ go_on_if_ok (copies_after f frame room rest) (some_copy copied)
go_on_some f frame room rest (Ok bytes) = refl
go_on_some f frame room rest (Err status) = refl

-- the first copy, and then the others
pub copies_in-cons : (f : Function) (frame : List ℕ) (room : ℕ) (p : Param) (rest : List Param)
    → copies_in f frame room (p ∷ rest) ≡ and_then_ok (copy_of f frame room p) (copies_after f frame room rest)
copies_in-cons f frame room p rest =
    let some : Interaction (Result (List ℕ) Status) = copy_in (shape_of p.class) (address_in frame p) (length_in f frame p) room in
    let others : List ℕ → Interaction (Result Copies Status) = λ bytes. map_value (with_first (Some bytes)) (copies_in f frame (room - rounded_size (length bytes)) rest) in
    elim (copied_length f frame p == 0) as (λ b. (if b then map_value (with_first None) (copies_in f frame room rest) else and_then_ok some others)
    ≡ and_then_ok (if b then ret (Ok None) else map_value some_copy some) (copies_after f frame room rest)) [
      | true ↦ refl
      | false ↦ ap (λ g. and_then some g) (fun_ext (go_on_some f frame room rest)) ∙ sym (and_then-assoc some (λ x. ret (some_copy x)) (go_on_if_ok (copies_after f frame room rest)))
    ]

loads_results : (side : Side) (at n : ℕ) → AllResults (λ bytes. length bytes ≡ n) (loads side at n)
loads_results side at zero = refl
loads_results side at (suc n) = λ b.
    results_then (λ bytes. length bytes ≡ n) (λ bytes. length bytes ≡ suc n) (loads side (at + 1) n) (λ bytes. ret (b ∷ bytes)) (loads_results side (at + 1) n) (λ bytes e. ap (λ k. suc k) e)

first_results : (shape : Shape) (at n : ℕ) → AllResults (λ bytes. length bytes ≡ n) (first_bytes shape at n)
first_results shape at n =
    elim (is_inward shape.way) as (λ b. AllResults (λ bytes. length bytes ≡ n) (if b then loads Enclave at n else ret (replicate n 0))) [
      | true ↦ loads_results Enclave at n
      | false ↦ length-replicate n 0
    ]

-- a copy of n bytes, in whole elements
abbrev pub IsChecked : Shape → ℕ → Result (List ℕ) Status → Type 0
IsChecked shape n (Ok bytes) = (length bytes ≡ n) × (is_divisible n shape.unit ≡ true)
IsChecked shape n (Err status) = Unit {0}

checked_results : (shape : Shape) (n : ℕ) (bytes : List ℕ) → 0 < n → is_divisible n shape.unit ≡ true → length bytes ≡ n → IsChecked shape n (checked_bytes shape bytes)
checked_results shape n bytes some whole count = by_tests shape.text (has_early_end shape.unit (terminated_text shape.unit bytes))
  where
    by_tests : (text early : Bool) → IsChecked shape n (if not text then Ok bytes else (if early then Err UNEXPECTED else Ok (terminated_text shape.unit bytes)))
    by_tests false early = (count, whole)
    by_tests true true = tt
    by_tests true false = (length-text shape.unit bytes (omega (arith, (unit_fits shape.unit n whole some).1, count)) ∙ count, whole)

copy_results : (shape : Shape) (at n room : ℕ) → 0 < n → AllResults (IsChecked shape n) (copy_in shape at n room)
unfolding copy_in
copy_results shape at n room some = by_rows (is_divisible n shape.unit) (nat_lt room (rounded_size n)) refl
  where
    by_rows : (d large : Bool) → is_divisible n shape.unit ≡ d
        → AllResults (IsChecked shape n) (copy_unless (first_row (record { holds = not d; status = INVALID_PARAMETER } ∷ record { holds = large; status = OUT_OF_MEMORY } ∷ [])) shape at n)
    by_rows false large e = tt
    by_rows true true e = tt
    by_rows true false e =
        results_then (λ bytes. length bytes ≡ n) (IsChecked shape n) (first_bytes shape at n) (λ bytes. ret (checked_bytes shape bytes)) (first_results shape at n)
        (λ bytes count. checked_results shape n bytes some e count)

-- the copy of a parameter, where there is one
abbrev IsOne : Function → List ℕ → Param → Result (Option (List ℕ)) Status → Type 0
IsOne f frame p (Ok None) = Unit {0}
IsOne f frame p (Ok (Some bytes)) = IsCopyOf f frame p bytes
IsOne f frame p (Err status) = Unit {0}

one_of_checked : (f : Function) (frame : List ℕ) (p : Param) (copied : Result (List ℕ) Status) → (address_in frame p == 0) ≡ false → 0 < length_in f frame p
    → IsChecked (shape_of p.class) (length_in f frame p) copied → IsOne f frame p (some_copy copied)
one_of_checked f frame p (Err status) not_null some checked = tt
one_of_checked f frame p (Ok bytes) not_null some checked = record {
  not_null = not_null;
  some = omega (arith, checked.0, some);
  length_is = checked.0;
  whole = ap (λ n. is_divisible n (shape_of p.class).unit) checked.0 ∙ checked.1;
}

above_zero : (n : ℕ) → (n == 0) ≡ false → 0 < n
above_zero n e = grind arith

one_results : (f : Function) (frame : List ℕ) (room : ℕ) (p : Param) → AllResults (IsOne f frame p) (copy_of f frame room p)
one_results f frame room p = by_pointer (address_in frame p == 0) refl
  where
    some : Interaction (Result (List ℕ) Status)
    some = copy_in (shape_of p.class) (address_in frame p) (length_in f frame p) room

    by_length : (b : Bool) → (length_in f frame p == 0) ≡ b → (address_in frame p == 0) ≡ false → AllResults (IsOne f frame p) (if b then ret (Ok None) else map_value some_copy some)
    by_length true e not_null = tt
    by_length false e not_null =
        results_then (IsChecked (shape_of p.class) (length_in f frame p)) (IsOne f frame p) some (λ copied. ret (some_copy copied))
        (copy_results (shape_of p.class) (address_in frame p) (length_in f frame p) room (above_zero (length_in f frame p) e))
        (λ copied checked. one_of_checked f frame p copied not_null (above_zero (length_in f frame p) e) checked)

    by_pointer : (b : Bool) → (address_in frame p == 0) ≡ b
        → AllResults (IsOne f frame p) (if (if b then 0 else length_in f frame p) == 0 then ret (Ok None) else map_value some_copy some)
    by_pointer true e = tt
    by_pointer false e = by_length (length_in f frame p == 0) refl e

-- the copies of these parameters and no more, where none is refused
abbrev pub AreChecked : Function → List ℕ → List Param → Result Copies Status → Type 0
AreChecked f frame params (Ok copies) = AreCopiesOf f frame params copies.blocks × (length copies.blocks ≡ length params)
AreChecked f frame params (Err status) = Unit {0}

with_one : (f : Function) (frame : List ℕ) (p : Param) (rest : List Param) (block : Option (List ℕ)) (copied : Result Copies Status)
    → IsOne f frame p (Ok block) → AreChecked f frame rest copied → AreChecked f frame (p ∷ rest) (with_first block copied)
with_one f frame p rest block (Err status) one others = tt
with_one f frame p rest None (Ok copies) one others = (others.0, ap (λ n. suc n) others.1)
with_one f frame p rest (Some bytes) (Ok copies) one others = ((one, others.0), ap (λ n. suc n) others.1)

then_others : (f : Function) (frame : List ℕ) (room : ℕ) (p : Param) (rest : List Param) (copied : Result (Option (List ℕ)) Status)
    → ((left : ℕ) → AllResults (AreChecked f frame rest) (copies_in f frame left rest)) → IsOne f frame p copied
    → AllResults (AreChecked f frame (p ∷ rest)) (go_on_if_ok (copies_after f frame room rest) copied)
then_others f frame room p rest (Err status) others one = tt
then_others f frame room p rest (Ok block) others one =
    results_then (AreChecked f frame rest) (AreChecked f frame (p ∷ rest)) (copies_in f frame (room_after room block) rest) (λ copied. ret (with_first block copied))
    (others (room_after room block)) (λ copied checked. with_one f frame p rest block copied one checked)

pub copies_results : (f : Function) (frame : List ℕ) (room : ℕ) (params : List Param) → AllResults (AreChecked f frame params) (copies_in f frame room params)
copies_results f frame room [] = (tt, refl)
copies_results f frame room (p ∷ rest) =
    subst (λ t. AllResults (AreChecked f frame (p ∷ rest)) t) (sym (copies_in-cons f frame room p rest))
    (results_then (IsOne f frame p) (AreChecked f frame (p ∷ rest)) (copy_of f frame room p) (go_on_if_ok (copies_after f frame room rest)) (one_results f frame room p)
    (λ copied one. then_others f frame room p rest copied (λ left. copies_results f frame left rest) one))

copied_some : (null : Bool) (n count : ℕ) → (if null then 0 else n) ≡ count → count ≢ 0 → (null ≡ false) × (n ≡ count)
copied_some true n count e some = absurd (some (sym e))
copied_some false n count e some = (refl, e)

not_zero : (n m : ℕ) → n ≡ m → m ≢ 0 → (n == 0) ≡ false
not_zero n m e some = grind arith

-- a null pointer or a length of 0
pub copied_null : (f : Function) (frame : List ℕ) (room : ℕ) (p : Param) (port : PortState) → copied_length f frame p ≡ 0 → Makes (copy_of f frame room p) port port (Ok None)
copied_null f frame room p port none =
    let some : Interaction (Result (List ℕ) Status) = copy_in (shape_of p.class) (address_in frame p) (length_in f frame p) room in
    let nothing : copy_of f frame room p ≡ ret (Ok None) = ap (λ n. if n == 0 then ret (Ok None) else map_value some_copy some) none in
    subst (λ t. Makes t port port (Ok None)) (sym nothing) (makes_ret (Ok None) port)

module _ (f : Function) (frame : List ℕ) (room : ℕ) (p : Param) (shape : Shape) (address count : ℕ) (shape_is : shape ≡ shape_of p.class) (address_is : address ≡ address_in frame p)
    (count_is : copied_length f frame p ≡ count) (some : count ≢ 0) where
  parts : ((address_in frame p == 0) ≡ false) × (length_in f frame p ≡ count)
  parts = copied_some (address_in frame p == 0) (length_in f frame p) count count_is some

  abbrev the_copy : Interaction (Result (List ℕ) Status)
  the_copy = copy_in shape address count room

  copy_is : copy_of f frame room p ≡ map_value some_copy the_copy
  copy_is =
      let whole : Interaction (Result (List ℕ) Status) = copy_in (shape_of p.class) (address_in frame p) (length_in f frame p) room in
      let same : the_copy ≡ whole =
      ap (λ s. copy_in s address count room) shape_is ∙ ap (λ a. copy_in (shape_of p.class) a count room) address_is ∙ ap (λ n. copy_in (shape_of p.class) (address_in frame p) n room) (sym parts.1) in
      ap (λ b. if b then ret (Ok None) else map_value some_copy whole) (not_zero _ _ count_is some) ∙ ap (λ t. map_value some_copy t) (sym same)

  -- its range is host memory
  pub copy_mapped : (host : ℕ) → IsPlaced host f frame p → IsTrue (is_mapped host address count)
  copy_mapped host is =
      subst (λ a. IsTrue (is_mapped host a count)) (sym address_is) (subst (λ n. IsTrue (is_mapped host (address_in frame p) n)) parts.1 (is.mapped parts.0))

  pub copy_made : (old new : PortState) (copied : Result (List ℕ) Status) → Makes the_copy old new copied → Makes (copy_of f frame room p) old new (some_copy copied)
  copy_made old new copied made =
      subst (λ t. Makes t old new (some_copy copied)) (sym copy_is)
      (makes_then the_copy (λ x. ret (some_copy x)) old new new copied (some_copy copied) made (makes_ret (some_copy copied) new))

  pub copy_full : (old new : PortState) → StopsFull the_copy old new → StopsFull (copy_of f frame room p) old new
  copy_full old new stopped = subst (λ t. StopsFull t old new) (sym copy_is) (full_first the_copy (λ x. ret (some_copy x)) old new stopped)

-- what holds of a stop, turned into another
pub stop_maps : (stop : CopyStop) (P Q : Status → Type 0) (R S : RunFull → Type 0) → ((status : Status) → P status → Q status) → ((full : RunFull) → R full → S full)
    → MatchStop stop P R → MatchStop stop Q S
stop_maps (Refused status) P Q R S f g m = f status m
stop_maps (Full full) P Q R S f g m = g full m
