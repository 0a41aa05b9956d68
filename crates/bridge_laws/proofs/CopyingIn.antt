-- The instructions that copy parameters in do what the copies are defined to do.
use Rattle.std.proofs.Common.{ℕ, suc, ◌-◌, ◌==◌, ◌≡◌, ◌<◌, ◌≤◌, Bool, true, false, not, ◌&&◌, nat_lt, if◌then◌else◌, List, [], ◌∷◌, ◌++◌, length, replicate, drop, Option, Some, None, unwrap_or, slice_get, slice_set, Result, Ok, Err, refl, ap, sym, ◌∙◌, arith, append-nil, append_assoc}
use Rattle.std.specs.List.{filter}
use Rattle.std.proofs.lemmas.Bool.{eqb-false}
use Rattle.std.proofs.lemmas.List.{length-replicate}
use Rattle.sgx_base.specs.Bytes.{rounded_size, is_divisible}
use Rattle.sgx_base.specs.Passing.{is_inward}
use Rattle.sgx_base.specs.Texts.{terminated_text, has_early_end}
use Rattle.sgx_base.specs.declared.Status.{Status}
use Rattle.sgx_base.specs.declared.TheConstants.Status.{UNEXPECTED, INVALID_PARAMETER, OUT_OF_MEMORY}
use Rattle.edl_interface.specs.declared.Class.{Class}
use Rattle.edl_interface.specs.declared.Class.TheVariants.{Plain as by_value, UserCheck, Buffer, Text, Fixed, Foreign}
use Rattle.edl_interface.specs.declared.Param.{Param}
use Rattle.edl_interface.specs.declared.Function.{Function}
use Rattle.edl_interface.specs.Parameters.{is_marshalled, is_in, is_text, unit_of, address_in}
use Rattle.edl_interface.specs.Lengths.{length_in, copied_length}
use Rattle.word_port.specs.declared.Side.TheVariants.{Enclave}
use Rattle.word_port.specs.Interaction.{Interaction, ret, map_value}
use Rattle.word_port.specs.Accesses.{loads}
use Rattle.word_port.proofs.Laws.{and_then-assoc}
use Rattle.call_copy.specs.declared.Shape.{Shape}
use Rattle.call_copy.specs.Copies.{first_bytes, checked_bytes, copy_unless, copy_in}
use Rattle.call_copy.proofs.TextLaws.{length-text, unit_fits}
use Rattle.call_machine.specs.declared.Machine.{Machine}
use Rattle.call_machine.specs.Context.{Context}
use Rattle.call_machine.specs.Result.{go_on_if_ok, and_then_ok}
use Rattle.call_machine.specs.Ecall.{Ocalls, Copies, shape_of, with_first, copies_in}
use Rattle.bridge_program.specs.declared.Instr.{Instr}
use Rattle.bridge_program.specs.declared.Instr.TheVariants.{Divide, Alloc, CopyIn, Zero, TextEnd}
use Rattle.bridge_program.specs.Lists.{each_from, entry_of, once}
use Rattle.bridge_laws.specs.Meaning.{State, Doing, refuse_if, with_param, unless_null, block_at, with_block, place_of, with_room_taken, division_tested, allocated, copied_in, zeroed, text_ended, means, list_means}
use Rattle.bridge_laws.proofs.Trees.{same_next, map_ok, ok-ret, same_after_loads}
use Rattle.bridge_laws.proofs.Places.{get_drop, drop_next, get_last, set_last, length_last, place_next}
use Rattle.bridge_laws.proofs.Tests.{tested, append_does}

-- with one more block, which takes its room, or null
abbrev pushed : State → Option (List ℕ) → State
pushed s None = record s { blocks = s.blocks ++ None ∷ [] }
pushed s (Some bytes) = record s { blocks = s.blocks ++ Some bytes ∷ []; room = s.room - rounded_size (length bytes) }

-- with one more block, or its refusal
abbrev ok_pushed : State → Result (List ℕ) Status → Result State Status
ok_pushed s (Ok bytes) = Ok (pushed s (Some bytes))
ok_pushed s (Err status) = Err status

-- with all blocks, or the refusal
abbrev pub ok_with : State → Result Copies Status → Result State Status
ok_with s (Ok copies) = Ok (record s { blocks = s.blocks ++ copies.blocks; room = copies.room })
ok_with s (Err status) = Err status

-- the instructions of one marshalled parameter
abbrev entry_from : Bool → Bool → ℕ → List Instr
entry_from inward text n = Divide n ∷ Alloc n ∷ (if inward then CopyIn n else Zero n) ∷ once text (TextEnd n)

unit_is : (c : Class) → unit_of c ≡ (shape_of c).unit
unit_is (by_value plain) = refl
unit_is UserCheck = refl
unit_is (Buffer way size count unit) = refl
unit_is (Text way unit) = refl
unit_is (Fixed way count unit) = refl
unit_is (Foreign way) = refl

text_is : (c : Class) → (shape_of c).text ≡ is_text c
text_is (by_value plain) = refl
text_is UserCheck = refl
text_is (Buffer way size count unit) = refl
text_is (Text way unit) = refl
text_is (Fixed way count unit) = refl
text_is (Foreign way) = refl

no_length : (b : Bool) → ((if b then 0 else 0) == 0) ≡ false → ⊥
no_length true e = cc
no_length false e = cc

-- one that has a length is copied as its class says
way_is : (c : Class) (f : Function) (frame : List ℕ) (p : Param) → (copied_length f frame (record p { class = c }) == 0) ≡ false → is_inward (shape_of c).way ≡ is_in c
way_is (by_value plain) f frame p h = let no : ⊥ = no_length (address_in frame p == 0) h in absurd no
way_is UserCheck f frame p h = let no : ⊥ = no_length (address_in frame p == 0) h in absurd no
way_is (Buffer way size count unit) f frame p h = refl
way_is (Text way unit) f frame p h = refl
way_is (Fixed way count unit) f frame p h = refl
way_is (Foreign way) f frame p h = let no : ⊥ = no_length (address_in frame p == 0) h in absurd no

-- a length that is copied is not 0
some_length : (b : Bool) (n : ℕ) → ((if b then 0 else n) == 0) ≡ false → 0 < n
some_length true n e = let no : ⊥ = cc in absurd no
some_length false n e = let some : ¬ (n ≡ 0) = eqb-false n 0 e in omega arith

-- what follows what does nothing else than this
pub followed : {B : Type 0} (t : Doing) (s : State) (next : State → Interaction (Result B Status)) → t ≡ ret (Ok s) → and_then_ok t next ≡ next s
followed t s next e = ap (λ u. and_then_ok u next) e

block_last : (s : State) (k : ℕ) (l : List (Option (List ℕ))) (x : Option (List ℕ)) → k ≡ length l → s.blocks ≡ l ++ x ∷ [] → block_at s k ≡ x
block_last s k l x e b = ap (λ h. unwrap_or (slice_get h k) None) b ∙ ap (λ j. unwrap_or (slice_get (l ++ x ∷ []) j) None) e ∙ ap (λ o. unwrap_or o None) (get_last l x)

module _ (m : Machine) (ocalls : Ocalls) (cx : Context) (ordinal address : ℕ) (f : Function) where
  abbrev does : List Instr → State → Doing
  does list s = list_means m ocalls cx ordinal address f list s

  module _ (n : ℕ) (p : Param) (s : State) (g : slice_get f.params n ≡ Some p) (k_is : place_of n f.params ≡ length s.blocks) where
    -- with a block of these bytes, which took the room of the parameter's length
    abbrev filled : List ℕ → State
    filled bytes = record s { blocks = s.blocks ++ Some bytes ∷ []; room = s.room - rounded_size (length_in f s.frame p) }

    fill : (old bytes : List ℕ) → with_block (filled old) (place_of n f.params) bytes ≡ filled bytes
    fill old bytes =
        ap (λ l. record s { blocks = l; room = s.room - rounded_size (length_in f s.frame p) })
        (ap (λ k. slice_set (s.blocks ++ Some old ∷ []) k (Some bytes)) k_is ∙ set_last s.blocks (Some old) (Some bytes))

    -- a parameter with no block
    null_first : (inward : Bool) → means m ocalls cx ordinal address f (if inward then CopyIn n else Zero n) (pushed s None) ≡ ret (Ok (pushed s None))
    null_first true =
        ap (λ o. with_param o (pushed s None) (copied_in f (place_of n f.params) (pushed s None))) g
        ∙ ap (λ o. unless_null o (pushed s None) (λ bytes. map_value (λ loaded. Ok (with_block (pushed s None) (place_of n f.params) loaded)) (loads Enclave (address_in s.frame p) (length_in f s.frame p))))
        (block_last (pushed s None) (place_of n f.params) s.blocks None k_is refl)
    null_first false =
        ap (λ o. with_param o (pushed s None) (zeroed f (place_of n f.params) (pushed s None))) g
        ∙ ap (λ o. unless_null o (pushed s None) (λ bytes. ret (Ok (with_block (pushed s None) (place_of n f.params) (replicate (length_in f s.frame p) 0)))))
        (block_last (pushed s None) (place_of n f.params) s.blocks None k_is refl)

    null_end : (text : Bool) → does (once text (TextEnd n)) (pushed s None) ≡ ret (Ok (pushed s None))
    null_end true =
        followed (means m ocalls cx ordinal address f (TextEnd n) (pushed s None)) (pushed s None) (λ t. ret (Ok t))
        (ap (λ o. with_param o (pushed s None) (text_ended (place_of n f.params) (pushed s None))) g
        ∙ ap (λ o. unless_null o (pushed s None) (λ bytes.
        ret (if has_early_end (unit_of p.class) (terminated_text (unit_of p.class) bytes) then Err UNEXPECTED else Ok (with_block (pushed s None) (place_of n f.params) (terminated_text (unit_of p.class) bytes)))))
        (block_last (pushed s None) (place_of n f.params) s.blocks None k_is refl))
    null_end false = refl

    no_block_does : (inward text : Bool) → (copied_length f s.frame p == 0) ≡ true → does (entry_from inward text n) s ≡ ret (Ok (pushed s None))
    no_block_does inward text e =
        followed (means m ocalls cx ordinal address f (Divide n) s) s (does (Alloc n ∷ (if inward then CopyIn n else Zero n) ∷ once text (TextEnd n)))
        (ap (λ o. with_param o s (division_tested f s)) g
        ∙ ap (λ b. refuse_if (not b && not (is_divisible (length_in f s.frame p) (unit_of p.class))) INVALID_PARAMETER s) e)
        ∙ followed (means m ocalls cx ordinal address f (Alloc n) s) (pushed s None) (does ((if inward then CopyIn n else Zero n) ∷ once text (TextEnd n)))
        (ap (λ o. with_param o s (allocated f s)) g
        ∙ ap (λ b. if b then ret (Ok (pushed s None)) else ret (if nat_lt s.room (rounded_size (length_in f s.frame p)) then Err OUT_OF_MEMORY else Ok (with_room_taken s (length_in f s.frame p)))) e)
        ∙ followed (means m ocalls cx ordinal address f (if inward then CopyIn n else Zero n) (pushed s None)) (pushed s None) (does (once text (TextEnd n))) (null_first inward)
        ∙ null_end text

    module _ (shape : Shape) (unit_same : unit_of p.class ≡ shape.unit) (divides : is_divisible (length_in f s.frame p) shape.unit ≡ true) (some : 0 < length_in f s.frame p) where
      sized : (bytes : List ℕ) → length bytes ≡ length_in f s.frame p → filled bytes ≡ pushed s (Some bytes)
      sized bytes e = ap (λ c. record s { blocks = s.blocks ++ Some bytes ∷ []; room = s.room - rounded_size c }) (sym e)

      ended_length : (bytes : List ℕ) → length bytes ≡ length_in f s.frame p → length (terminated_text shape.unit bytes) ≡ length_in f s.frame p
      ended_length bytes e =
          let (positive, fits) = unit_fits shape.unit (length_in f s.frame p) divides some in
          let w : shape.unit ≤ length bytes = omega (arith, e, fits) in
          length-text shape.unit bytes w ∙ e

      text_or_not : (early : Bool) (bytes ended : List ℕ) → length ended ≡ length_in f s.frame p
          → (if early then Err UNEXPECTED else Ok (with_block (filled bytes) (place_of n f.params) ended)) ≡ ok_pushed s (if early then Err UNEXPECTED else Ok ended)
      text_or_not true bytes ended e = refl
      text_or_not false bytes ended e = ap (λ t. Ok t) (fill bytes ended ∙ sized ended e)

      -- once its bytes stand in the block
      end_does : (text : Bool) → shape.text ≡ text → (bytes : List ℕ) → length bytes ≡ length_in f s.frame p
          → does (once text (TextEnd n)) (filled bytes) ≡ ret (ok_pushed s (checked_bytes shape bytes))
      end_does true e bytes l =
          ok-ret (means m ocalls cx ordinal address f (TextEnd n) (filled bytes))
          ∙ ap (λ o. with_param o (filled bytes) (text_ended (place_of n f.params) (filled bytes))) g
          ∙ ap (λ o. unless_null o (filled bytes) (λ these.
          ret (if has_early_end (unit_of p.class) (terminated_text (unit_of p.class) these) then Err UNEXPECTED else Ok (with_block (filled bytes) (place_of n f.params) (terminated_text (unit_of p.class) these)))))
          (block_last (filled bytes) (place_of n f.params) s.blocks (Some bytes) k_is refl)
          ∙ ap (λ u. ret (if has_early_end u (terminated_text u bytes) then Err UNEXPECTED else Ok (with_block (filled bytes) (place_of n f.params) (terminated_text u bytes)))) unit_same
          ∙ ap (λ y. ret y) (text_or_not (has_early_end shape.unit (terminated_text shape.unit bytes)) bytes (terminated_text shape.unit bytes) (ended_length bytes l))
          ∙ ap (λ b. ret (ok_pushed s (if not b then Ok bytes else (if has_early_end shape.unit (terminated_text shape.unit bytes) then Err UNEXPECTED else Ok (terminated_text shape.unit bytes))))) (sym e)
      end_does false e bytes l =
          ap (λ t. ret (Ok t)) (sized bytes l)
          ∙ ap (λ b. ret (ok_pushed s (if not b then Ok bytes else (if has_early_end shape.unit (terminated_text shape.unit bytes) then Err UNEXPECTED else Ok (terminated_text shape.unit bytes))))) (sym e)

      filled_does : (text : Bool) → shape.text ≡ text → (bytes : List ℕ) → length bytes ≡ length_in f s.frame p
          → does (once text (TextEnd n)) (with_block (filled []) (place_of n f.params) bytes) ≡ ret (ok_pushed s (checked_bytes shape bytes))
      filled_does text e bytes l = ap (λ t. does (once text (TextEnd n)) t) (fill [] bytes) ∙ end_does text e bytes l

      -- its bytes, and its end
      content_does : (inward text : Bool) → is_inward shape.way ≡ inward → shape.text ≡ text
          → does ((if inward then CopyIn n else Zero n) ∷ once text (TextEnd n)) (filled [])
          ≡ map_value (ok_pushed s) (map_value (checked_bytes shape) (first_bytes shape (address_in s.frame p) (length_in f s.frame p)))
      content_does true text w e =
          let loading : Interaction (List ℕ) = loads Enclave (address_in s.frame p) (length_in f s.frame p) in
          ap (λ t. and_then_ok t (does (once text (TextEnd n))))
          (ap (λ o. with_param o (filled []) (copied_in f (place_of n f.params) (filled []))) g
          ∙ ap (λ o. unless_null o (filled []) (λ bytes. map_value (λ loaded. Ok (with_block (filled []) (place_of n f.params) loaded)) loading))
          (block_last (filled []) (place_of n f.params) s.blocks (Some []) k_is refl))
          ∙ and_then-assoc loading (λ loaded. ret (Ok (with_block (filled []) (place_of n f.params) loaded))) (go_on_if_ok (does (once text (TextEnd n))))
          ∙ same_after_loads (address_in s.frame p) (length_in f s.frame p) (λ loaded. does (once text (TextEnd n)) (with_block (filled []) (place_of n f.params) loaded))
          (λ loaded. ret (ok_pushed s (checked_bytes shape loaded))) (λ bytes l. filled_does text e bytes l)
          ∙ sym (and_then-assoc loading (λ bytes. ret (checked_bytes shape bytes)) (λ r. ret (ok_pushed s r)))
          ∙ ap (λ b. map_value (ok_pushed s) (map_value (checked_bytes shape) (if b then loading else ret (replicate (length_in f s.frame p) 0)))) (sym w)
      content_does false text w e =
          let loading : Interaction (List ℕ) = loads Enclave (address_in s.frame p) (length_in f s.frame p) in
          let zeros : List ℕ = replicate (length_in f s.frame p) 0 in
          ap (λ t. and_then_ok t (does (once text (TextEnd n))))
          (ap (λ o. with_param o (filled []) (zeroed f (place_of n f.params) (filled []))) g
          ∙ ap (λ o. unless_null o (filled []) (λ bytes. ret (Ok (with_block (filled []) (place_of n f.params) zeros))))
          (block_last (filled []) (place_of n f.params) s.blocks (Some []) k_is refl))
          ∙ filled_does text e zeros (length-replicate (length_in f s.frame p) 0)
          ∙ ap (λ b. map_value (ok_pushed s) (map_value (checked_bytes shape) (if b then loading else ret zeros))) (sym w)

    rows_or_content : (shape : Shape) (b1 b2 : Bool) (content : Doing) → (b1 ≡ true → content ≡ map_value (ok_pushed s) (map_value (checked_bytes shape) (first_bytes shape (address_in s.frame p) (length_in f s.frame p))))
        → (if not b1 then ret (Err INVALID_PARAMETER) else (if b2 then ret (Err OUT_OF_MEMORY) else content))
        ≡ map_value (ok_pushed s) (copy_unless (if not b1 then Some INVALID_PARAMETER else (if b2 then Some OUT_OF_MEMORY else None)) shape (address_in s.frame p) (length_in f s.frame p))
    rows_or_content shape false b2 content e = refl
    rows_or_content shape true true content e = refl
    rows_or_content shape true false content e = e refl

    taken_or_not : (b : Bool) (next : State → Doing) (t : State)
        → and_then_ok (ret (if b then Err OUT_OF_MEMORY else Ok t)) next ≡ (if b then ret (Err OUT_OF_MEMORY) else next t)
    taken_or_not true next t = refl
    taken_or_not false next t = refl

    -- a parameter with a block
    block_does : (shape : Shape) (inward text : Bool) → unit_of p.class ≡ shape.unit → is_inward shape.way ≡ inward → shape.text ≡ text → (copied_length f s.frame p == 0) ≡ false
        → does (entry_from inward text n) s ≡ map_value (ok_pushed s) (copy_in shape (address_in s.frame p) (length_in f s.frame p) s.room)
    unfolding copy_in
    block_does shape inward text u w e c =
        let content : List Instr = (if inward then CopyIn n else Zero n) ∷ once text (TextEnd n) in
        tested (means m ocalls cx ordinal address f (Divide n) s) (not (is_divisible (length_in f s.frame p) shape.unit)) INVALID_PARAMETER s (does (Alloc n ∷ content))
        (ap (λ o. with_param o s (division_tested f s)) g
        ∙ ap (λ b. refuse_if (not b && not (is_divisible (length_in f s.frame p) (unit_of p.class))) INVALID_PARAMETER s) c
        ∙ ap (λ v. refuse_if (not (is_divisible (length_in f s.frame p) v)) INVALID_PARAMETER s) u)
        ∙ ap (λ t. if not (is_divisible (length_in f s.frame p) shape.unit) then ret (Err INVALID_PARAMETER) else t)
        (ap (λ t. and_then_ok t (does content))
        (ap (λ o. with_param o s (allocated f s)) g
        ∙ ap (λ b. if b then ret (Ok (pushed s None)) else ret (if nat_lt s.room (rounded_size (length_in f s.frame p)) then Err OUT_OF_MEMORY else Ok (with_room_taken s (length_in f s.frame p)))) c)
        ∙ taken_or_not (nat_lt s.room (rounded_size (length_in f s.frame p))) (does content) (filled []))
        ∙ rows_or_content shape (is_divisible (length_in f s.frame p) shape.unit) (nat_lt s.room (rounded_size (length_in f s.frame p))) (does content (filled []))
        (λ d. content_does shape u d (some_length (address_in s.frame p == 0) (length_in f s.frame p) c) inward text w e)

  -- blocks before blocks
  joined : (s : State) (x : Option (List ℕ)) (r : Result Copies Status) → ok_with (pushed s x) r ≡ ok_with s (with_first x r)
  joined s x (Err status) = refl
  joined s None (Ok copies) = ap (λ l. Ok (record s { blocks = l; room = copies.room })) (append_assoc s.blocks (None ∷ []) copies.blocks)
  joined s (Some bytes) (Ok copies) = ap (λ l. Ok (record s { blocks = l; room = copies.room })) (append_assoc s.blocks (Some bytes ∷ []) copies.blocks)

  rest_joined : (s : State) (x : Option (List ℕ)) (t : Interaction (Result Copies Status)) → map_value (ok_with (pushed s x)) t ≡ map_value (ok_with s) (map_value (with_first x) t)
  rest_joined s x t =
      same_next t (λ r. ret (ok_with (pushed s x) r)) (λ r. ret (ok_with s (with_first x r))) (λ r. ap (λ y. ret y) (joined s x r))
      ∙ sym (and_then-assoc t (λ r. ret (with_first x r)) (λ r. ret (ok_with s r)))

  pushed_length : (s : State) (x : Option (List ℕ)) → length (pushed s x).blocks ≡ suc (length s.blocks)
  pushed_length s None = length_last s.blocks None
  pushed_length s (Some bytes) = length_last s.blocks (Some bytes)

  module _ (n : ℕ) (p : Param) (ps : List Param) (e : drop n f.params ≡ p ∷ ps)
      (more : (s : State) → place_of (suc n) f.params ≡ length s.blocks → does (each_from (suc n) entry_of ps) s ≡ map_value (ok_with s) (copies_in f s.frame s.room (filter (λ q. is_marshalled q.class) ps)))
      (s : State) (k_is : place_of n f.params ≡ length s.blocks) where
    abbrev later : List Param
    later = filter (λ q. is_marshalled q.class) ps

    after_block : is_marshalled p.class ≡ true → (x : Option (List ℕ)) → does (each_from (suc n) entry_of ps) (pushed s x) ≡ map_value (ok_with s) (map_value (with_first x) (copies_in f (pushed s x).frame (pushed s x).room later))
    after_block b x =
        more (pushed s x) (place_next f.params n p ps e ∙ ap (λ c. if c then suc (place_of n f.params) else place_of n f.params) b ∙ ap (λ c. suc c) k_is ∙ sym (pushed_length s x))
        ∙ rest_joined s x (copies_in f (pushed s x).frame (pushed s x).room later)

    abbrev whole_of : Bool → Interaction (Result Copies Status)
    whole_of null =
        if null then map_value (with_first None) (copies_in f s.frame s.room later)
        else and_then_ok (copy_in (shape_of p.class) (address_in s.frame p) (length_in f s.frame p) s.room) (λ bytes.
        map_value (with_first (Some bytes)) (copies_in f s.frame (s.room - rounded_size (length bytes)) later))

    by_length : is_marshalled p.class ≡ true → (null : Bool) → (copied_length f s.frame p == 0) ≡ null
        → and_then_ok (does (entry_from (is_in p.class) (is_text p.class) n) s) (does (each_from (suc n) entry_of ps)) ≡ map_value (ok_with s) (whole_of null)
    by_length b true c =
        followed (does (entry_from (is_in p.class) (is_text p.class) n) s) (pushed s None) (does (each_from (suc n) entry_of ps))
        (no_block_does n p s (get_drop f.params n p ps e) k_is (is_in p.class) (is_text p.class) c)
        ∙ after_block b None
    by_length b false c =
        let shape : Shape = shape_of p.class in
        let copying : Interaction (Result (List ℕ) Status) = copy_in shape (address_in s.frame p) (length_in f s.frame p) s.room in
        let rest : List ℕ → Interaction (Result Copies Status) = λ bytes. map_value (with_first (Some bytes)) (copies_in f s.frame (s.room - rounded_size (length bytes)) later) in
        ap (λ t. and_then_ok t (does (each_from (suc n) entry_of ps)))
        (block_does n p s (get_drop f.params n p ps e) k_is shape (is_in p.class) (is_text p.class) (unit_is p.class) (way_is p.class f s.frame p c) (text_is p.class) c)
        ∙ and_then-assoc copying (λ r. ret (ok_pushed s r)) (go_on_if_ok (does (each_from (suc n) entry_of ps)))
        ∙ same_next copying (λ r. go_on_if_ok (does (each_from (suc n) entry_of ps)) (ok_pushed s r)) (go_on_if_ok (λ bytes. map_value (ok_with s) (rest bytes))) each_result
        ∙ sym (map_ok copying rest (ok_with s) (λ status. refl))
      where
        each_result : (r : Result (List ℕ) Status) → go_on_if_ok (does (each_from (suc n) entry_of ps)) (ok_pushed s r)
            ≡ go_on_if_ok (λ bytes. map_value (ok_with s) (map_value (with_first (Some bytes)) (copies_in f s.frame (s.room - rounded_size (length bytes)) later))) r
        each_result (Ok bytes) = after_block b (Some bytes)
        each_result (Err status) = refl

    by_class : (b : Bool) → is_marshalled p.class ≡ b
        → does ((if b then entry_from (is_in p.class) (is_text p.class) n else []) ++ each_from (suc n) entry_of ps) s ≡ map_value (ok_with s) (copies_in f s.frame s.room (if b then p ∷ later else later))
    by_class true b =
        append_does m ocalls cx ordinal address f (entry_from (is_in p.class) (is_text p.class) n) (each_from (suc n) entry_of ps) s
        ∙ by_length b (copied_length f s.frame p == 0) refl
    by_class false b = more s (place_next f.params n p ps e ∙ ap (λ c. if c then suc (place_of n f.params) else place_of n f.params) b ∙ k_is)

  -- the marshalled parameters from a number on
  pub copies_do : (ps : List Param) (n : ℕ) → drop n f.params ≡ ps → (s : State) → place_of n f.params ≡ length s.blocks
      → does (each_from n entry_of ps) s ≡ map_value (ok_with s) (copies_in f s.frame s.room (filter (λ q. is_marshalled q.class) ps))
  copies_do [] n e s k = ap (λ l. ret (Ok (record s { blocks = l }))) (sym (append-nil s.blocks))
  copies_do (p ∷ ps) n e s k = by_class n p ps e (λ t j. copies_do ps (suc n) (drop_next f.params n p ps e) t j) s k (is_marshalled p.class) refl
