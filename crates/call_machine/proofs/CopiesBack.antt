-- The blocks that are put back, as a loop puts them one after another.
use Rattle.std.proofs.Common.{ℕ, zero, suc, ◌+◌, ◌%◌, ◌/◌, ◌≡◌, ◌<◌, ◌≤◌, Bool, true, false, cond, if◌then◌else◌, List, [], ◌∷◌, ◌++◌, length, take, drop, get_or, filter, zip, Option, Some, None, Result, Ok, Err, IfErr, OnOk, refl, ap, sym, ◌∙◌, subst, IsTrue, arith, length-append}
use Rattle.std.proofs.lemmas.List.{take_more, length-take-le}
use Rattle.std.proofs.lemmas.List.Elements.{filter-append}
use Rattle.sgx_base.specs.Bytes.{low_bytes, is_divisible}
use Rattle.sgx_base.specs.Ranges.{is_mapped}
use Rattle.edl_interface.specs.declared.Function.{Function}
use Rattle.edl_interface.specs.declared.Param.{Param}
use Rattle.sgx_base.specs.Rows.{first_row, unless_refused}
use Rattle.edl_interface.specs.Parameters.{is_marshalled, marshalled, is_out, address_in, return_size}
use Rattle.word_port.specs.declared.RunFull.{RunFull}
use Rattle.word_port.specs.declared.RunFull.TheVariants.{Steps}
use Rattle.word_port.specs.declared.Side.TheVariants.{Enclave}
use Rattle.word_port.specs.Port.{PortState}
use Rattle.word_port.specs.Interaction.{Interaction, ret, and_then}
use Rattle.word_port.specs.Accesses.{stores}
use Rattle.word_port.specs.Runs.{Leads, Makes, StopsFull}
use Rattle.word_port.proofs.Laws.{leads_nothing, leads_on, leads_then, makes_then, makes_ret, full_on, full_first, full_second}
use Rattle.enclave_memory.specs.declared.Block.{Block}
use Rattle.enclave_memory.specs.Memory.{Memory, IsBlock, IsLive}
use Rattle.call_copy.specs.declared.Shape.{Shape}
use Rattle.call_copy.specs.Copies.{copy_out}
use Rattle.call_machine.specs.Ecall.{copies_out, put_answer, shape_of}
use Rattle.call_machine.specs.Refusal.{field_rows}
use Rattle.call_machine.proofs.CopiesIn.{marshalled_in, kept_left, item_parts, placed_item, leads_host}
use Rattle.call_machine.specs.Entry.{IsPlaced, HasBlock, HasBlocks, IsCopyOf, AreCopiesOf, IsBack, copy_back}

-- the first is put back, and then the others
pub copies_out-cons : (frame : List ℕ) (p : Param) (copy : Option (List ℕ)) (rest : List (Param × Option (List ℕ)))
    → copies_out frame ((p, copy) ∷ rest) ≡ and_then (copy_back frame p copy) (λ done. copies_out frame rest)
copies_out-cons frame p None rest = refl
copies_out-cons frame p (Some bytes) rest =
    let back : Interaction (Unit {0}) = copy_out (shape_of p.class) (address_in frame p) bytes in
    elim (is_out p.class) as (λ b. (if b then and_then back (λ done. copies_out frame rest) else copies_out frame rest)
    ≡ and_then (if b then back else ret tt) (λ (done : Unit {0}). copies_out frame rest)) [ true ↦ refl | false ↦ refl ]

-- what a block that goes back has
pub record MayGoBack (host : ℕ) (frame : List ℕ) (arena : Memory) (p : Param) (block : Block) : Type 0 where
  pub mapped : IsTrue (is_mapped host (address_in frame p) block.length)
  pub live : IsLive arena block
  pub some : 0 < block.length
  pub whole : is_divisible block.length (shape_of p.class).unit ≡ true

pub may_go_back : (host : ℕ) (frame : List ℕ) (arena : Memory) (p : Param) (block : Block)
    → ((bytes : Option (List ℕ)) × HasBlock arena (Some block) bytes × IsBack host frame p bytes) → MayGoBack host frame arena p block
may_go_back host frame arena p block (None, has, back) = absurd has
may_go_back host frame arena p block (Some bytes, has, back) =
    let count : length bytes ≡ block.length = sym has.1.length_is in
    record {
      mapped = subst (λ n. IsTrue (is_mapped host (address_in frame p) n)) count back.mapped;
      live = (has.0, bytes, has.1);
      some = subst (λ n. 0 < n) count back.some;
      whole = subst (λ n. is_divisible n (shape_of p.class).unit ≡ true) count back.whole;
    }

-- a null block is not put back, nor one that is not copied out
pub null_back : (frame : List ℕ) (arena : Memory) (p : Param) (port : PortState) (bytes : Option (List ℕ)) → HasBlock arena None bytes → Makes (copy_back frame p bytes) port port tt
null_back frame arena p port None has = makes_ret tt port
null_back frame arena p port (Some bytes) has = absurd has

pub other_back : (frame : List ℕ) (p : Param) (port : PortState) (bytes : Option (List ℕ)) → is_out p.class ≡ false → Makes (copy_back frame p bytes) port port tt
other_back frame p port None other = makes_ret tt port
other_back frame p port (Some bytes) other =
    subst (λ b. Makes (if b then copy_out (shape_of p.class) (address_in frame p) bytes else ret tt) port port tt) (sym other) (makes_ret tt port)

-- a block that is copied out
pub out_is : (frame : List ℕ) (p : Param) (shape : Shape) (address : ℕ) (bytes : List ℕ) → is_out p.class ≡ true → shape ≡ shape_of p.class → address ≡ address_in frame p
    → copy_out shape address bytes ≡ copy_back frame p (Some bytes)
out_is frame p shape address bytes out shape_is address_is =
    ap (λ s. copy_out s address bytes) shape_is ∙ ap (λ a. copy_out (shape_of p.class) a bytes) address_is
    ∙ ap (λ b. if b then copy_out (shape_of p.class) (address_in frame p) bytes else ret tt) (sym out)

pub back_stops : {T : Type 0} (r : Result T RunFull) (frame : List ℕ) (arena : Memory) (p : Param) (block : Block) (shape : Shape) (address : ℕ) (old new : PortState)
    → is_out p.class ≡ true → shape ≡ shape_of p.class → address ≡ address_in frame p
    → ((number : ℕ) (bytes : List ℕ) → IsBlock arena block number bytes → IfErr r (λ full. (full ≡ Steps) × StopsFull (copy_out shape address bytes) old new))
    → (bytes : Option (List ℕ)) → HasBlock arena (Some block) bytes → IfErr r (λ full. (full ≡ Steps) × StopsFull (copy_back frame p bytes) old new)
back_stops r frame arena p block shape address old new out shape_is address_is stops None has = absurd has
back_stops r frame arena p block shape address old new out shape_is address_is stops (Some bytes) has =
    subst (λ t. IfErr r (λ full. (full ≡ Steps) × StopsFull t old new)) (out_is frame p shape address bytes out shape_is address_is) (stops has.0 bytes has.1)

-- the copy at a place and its block, where the parameters before it are so many
pub record IsNext (host : ℕ) (frame : List ℕ) (arena : Memory) (blocks : List (Option Block)) (bytes : List (Option (List ℕ))) (place : ℕ) (p : Param) : Type 0 where
  pub copy : Option (List ℕ)
  pub rest_are : drop place bytes ≡ copy ∷ drop (suc place) bytes
  pub within : place < length blocks
  pub has : (other : Option Block) → HasBlock arena (get_or blocks place other) copy
  pub back : IsBack host frame p copy

fits_back : (host : ℕ) (f : Function) (frame : List ℕ) (p : Param) (copy : Option (List ℕ)) (rest : List Param) (copies : List (Option (List ℕ)))
    → AreCopiesOf f frame (p ∷ rest) (copy ∷ copies) → IsPlaced host f frame p → IsBack host frame p copy
fits_back host f frame p None rest copies are is = tt
fits_back host f frame p (Some bytes) rest copies are is =
    let one : IsCopyOf f frame p bytes = are.0 in
    record { mapped = subst (λ n. IsTrue (is_mapped host (address_in frame p) n)) (sym one.length_is) (is.mapped one.not_null); some = one.some; whole = one.whole }

others_are : (f : Function) (frame : List ℕ) (p : Param) (copy : Option (List ℕ)) (rest : List Param) (copies : List (Option (List ℕ)))
    → AreCopiesOf f frame (p ∷ rest) (copy ∷ copies) → AreCopiesOf f frame rest copies
others_are f frame p None rest copies are = are
others_are f frame p (Some bytes) rest copies are = are.1

pub next_copy : (host : ℕ) (f : Function) (frame : List ℕ) (arena : Memory) (before rest : List Param) (p : Param) (blocks : List (Option Block)) (bytes : List (Option (List ℕ)))
    → IsPlaced host f frame p → HasBlocks arena blocks bytes → AreCopiesOf f frame (before ++ p ∷ rest) bytes → IsNext host frame arena blocks bytes (length before) p
next_copy host f frame arena [] rest p [] [] is have are = absurd are
next_copy host f frame arena [] rest p [] (copy ∷ bytes) is have are = absurd have
next_copy host f frame arena [] rest p (block ∷ blocks) [] is have are = absurd have
next_copy host f frame arena [] rest p (block ∷ blocks) (copy ∷ bytes) is have are = record {
  copy = copy;
  rest_are = refl;
  within = omega arith;
  has = λ other. have.0;
  back = fits_back host f frame p copy rest bytes are is;
}
next_copy host f frame arena (q ∷ before) rest p [] [] is have are = absurd are
next_copy host f frame arena (q ∷ before) rest p [] (copy ∷ bytes) is have are = absurd have
next_copy host f frame arena (q ∷ before) rest p (block ∷ blocks) [] is have are = absurd have
next_copy host f frame arena (q ∷ before) rest p (block ∷ blocks) (copy ∷ bytes) is have are =
    let n : IsNext host frame arena blocks bytes (length before) p = next_copy host f frame arena before rest p blocks bytes is have.1 (others_are f frame q copy (before ++ p ∷ rest) bytes are) in
    let below : length before < length blocks = n.within in
    record { copy = n.copy; rest_are = n.rest_are; within = omega (arith, below); has = n.has; back = n.back }

-- some are put back, and those of these parameters are left
pub record IsPutting (f : Function) (frame : List ℕ) (arena : Memory) (blocks : List (Option Block)) (old now : PortState) (place : ℕ) (rest : List Param) : Type 0 where
  pub host : now.host ≡ old.host
  pub leads : (bytes : List (Option (List ℕ))) → HasBlocks arena blocks bytes → AreCopiesOf f frame (marshalled f) bytes
      → Leads (copies_out frame (zip (marshalled f) bytes)) old now (copies_out frame (zip rest (drop place bytes)))

pub putting_none : (f : Function) (frame : List ℕ) (arena : Memory) (blocks : List (Option Block)) (port : PortState) → IsPutting f frame arena blocks port port 0 (marshalled f)
putting_none f frame arena blocks port = record { host = refl; leads = λ bytes have are. leads_nothing (copies_out frame (zip (marshalled f) bytes)) port }

module _ (f : Function) (frame : List ℕ) (arena : Memory) (blocks : List (Option Block)) (old now : PortState) (place : ℕ) (before rest : List Param) (p : Param)
    (parts : marshalled f ≡ before ++ p ∷ rest) (place_is : place ≡ length before) (placed : IsPlaced now.host f frame p)
    (so_far : IsPutting f frame arena blocks old now place (p ∷ rest)) where
  -- the next copy and its block
  pub next_is : (bytes : List (Option (List ℕ))) → HasBlocks arena blocks bytes → AreCopiesOf f frame (marshalled f) bytes → IsNext now.host frame arena blocks bytes place p
  next_is bytes have are =
      subst (λ n. IsNext now.host frame arena blocks bytes n p) (sym place_is)
      (next_copy now.host f frame arena before rest p blocks bytes placed have (subst (λ l. AreCopiesOf f frame l bytes) parts are))

  module _ (bytes : List (Option (List ℕ))) (have : HasBlocks arena blocks bytes) (are : AreCopiesOf f frame (marshalled f) bytes) where
    abbrev the_next : IsNext now.host frame arena blocks bytes place p
    the_next = next_is bytes have are

    abbrev others : Unit {0} → Interaction (Unit {0})
    others done = copies_out frame (zip rest (drop (suc place) bytes))

    leads_here : Leads (copies_out frame (zip (marshalled f) bytes)) old now (and_then (copy_back frame p the_next.copy) others)
    leads_here =
        subst (λ t. Leads (copies_out frame (zip (marshalled f) bytes)) old now t)
        (ap (λ l. copies_out frame (zip (p ∷ rest) l)) the_next.rest_are ∙ copies_out-cons frame p the_next.copy (zip rest (drop (suc place) bytes)))
        (so_far.leads bytes have are)

    pub put_one : (new : PortState) → Makes (copy_back frame p the_next.copy) now new tt → Leads (copies_out frame (zip (marshalled f) bytes)) old new (copies_out frame (zip rest (drop (suc place) bytes)))
    put_one new made =
        leads_on (copies_out frame (zip (marshalled f) bytes)) (and_then (copy_back frame p the_next.copy) others) (others tt) old now new leads_here
        (leads_then (copy_back frame p the_next.copy) others (others tt) now new new tt made (leads_nothing (others tt) new))

    pub put_full : (new : PortState) → StopsFull (copy_back frame p the_next.copy) now new → StopsFull (copies_out frame (zip (marshalled f) bytes)) old new
    put_full new stopped =
        full_on (copies_out frame (zip (marshalled f) bytes)) (and_then (copy_back frame p the_next.copy) others) old now new leads_here
        (full_first (copy_back frame p the_next.copy) others now new stopped)

  -- one more is put back
  pub putting_more : (new : PortState) (next : ℕ) → next ≡ suc place → new.host ≡ now.host
      → ((copy : Option (List ℕ)) → ((other : Option Block) → HasBlock arena (get_or blocks place other) copy) → Makes (copy_back frame p copy) now new tt) → IsPutting f frame arena blocks old new next rest
  putting_more new next is host made = record {
    host = host ∙ so_far.host;
    leads = λ bytes have are.
        let n : IsNext now.host frame arena blocks bytes place p = next_is bytes have are in
        subst (λ k. Leads (copies_out frame (zip (marshalled f) bytes)) old new (copies_out frame (zip rest (drop k bytes)))) (sym is) (put_one bytes have are new (made n.copy n.has));
  }

  -- the log is full in one
  pub putting_full : (new : PortState) → ((copy : Option (List ℕ)) → ((other : Option Block) → HasBlock arena (get_or blocks place other) copy) → StopsFull (copy_back frame p copy) now new)
      → (bytes : List (Option (List ℕ))) → HasBlocks arena blocks bytes → AreCopiesOf f frame (marshalled f) bytes → StopsFull (copies_out frame (zip (marshalled f) bytes)) old new
  putting_full new stopped bytes have are = let n : IsNext now.host frame arena blocks bytes place p = next_is bytes have are in put_full bytes have are new (stopped n.copy n.has)

-- all are put back
pub putting_all : (f : Function) (frame : List ℕ) (arena : Memory) (blocks : List (Option Block)) (old now : PortState) (place : ℕ) (rest : List Param) → rest ≡ []
    → IsPutting f frame arena blocks old now place rest
    → (bytes : List (Option (List ℕ))) → HasBlocks arena blocks bytes → AreCopiesOf f frame (marshalled f) bytes → Makes (copies_out frame (zip (marshalled f) bytes)) old now tt
putting_all f frame arena blocks old now place rest none p bytes have are =
    subst (λ l. Leads (copies_out frame (zip (marshalled f) bytes)) old now (copies_out frame (zip l (drop place bytes)))) none (p.leads bytes have are)

-- one more that is kept
pub kept_more : {A : Type 0} (kept : A → Bool) (xs : List A) (i : ℕ) (x : A) → i < length xs → x ≡ get_or xs i x → kept x ≡ true → length (filter kept (take (i + 1) xs)) ≡ suc (length (filter kept (take i xs)))
kept_more {A} kept xs i x h e k =
    let all : filter kept (take (i + 1) xs) ≡ filter kept (take i xs) ++ x ∷ [] =
    ap (λ l. filter kept l) (take_more xs i x h) ∙ filter-append kept (take i xs) (get_or xs i x ∷ []) ∙ ap (λ y. filter kept (take i xs) ++ filter kept (y ∷ [])) (sym e)
    ∙ ap (λ b. filter kept (take i xs) ++ cond b (x ∷ []) []) k in
    let count : length (filter kept (take i xs) ++ x ∷ []) ≡ length (filter kept (take i xs)) + 1 = length-append (filter kept (take i xs)) (x ∷ []) in
    ap (λ l. length l) all ∙ omega (arith, count)

pub other_more : {A : Type 0} (kept : A → Bool) (xs : List A) (i : ℕ) (x : A) → i < length xs → x ≡ get_or xs i x → kept x ≡ false → length (filter kept (take (i + 1) xs)) ≡ length (filter kept (take i xs))
other_more {A} kept xs i x h e k =
    let all : filter kept (take (i + 1) xs) ≡ filter kept (take i xs) ++ [] =
    ap (λ l. filter kept l) (take_more xs i x h) ∙ filter-append kept (take i xs) (get_or xs i x ∷ []) ∙ ap (λ y. filter kept (take i xs) ++ filter kept (y ∷ [])) (sym e)
    ∙ ap (λ b. filter kept (take i xs) ++ cond b (x ∷ []) []) k in
    let count : length (filter kept (take i xs) ++ []) ≡ length (filter kept (take i xs)) + 0 = length-append (filter kept (take i xs)) [] in
    ap (λ l. length l) all ∙ omega (arith, count)

-- the return, and then the parameters
module _ (f : Function) (address value : ℕ) (frame : List ℕ) (bytes : List (Option (List ℕ))) where
  abbrev the_return : Interaction (Unit {0})
  the_return = stores Enclave address (low_bytes (return_size f) value)

  abbrev the_params : Unit {0} → Interaction (Unit {0})
  the_params stored = copies_out frame (zip (marshalled f) bytes)

  pub answer_put : (old mid new : PortState) → Makes the_return old mid tt → Makes (the_params tt) mid new tt
      → Makes (put_answer f address frame (record { value = value; blocks = bytes; records = [] })) old new tt
  answer_put old mid new a b = makes_then the_return the_params old mid new tt tt a b

  pub answer_full_first : (old new : PortState) → StopsFull the_return old new → StopsFull (put_answer f address frame (record { value = value; blocks = bytes; records = [] })) old new
  answer_full_first old new a = full_first the_return the_params old new a

  pub answer_full_later : (old mid new : PortState) → Makes the_return old mid tt → StopsFull (the_params tt) mid new
      → StopsFull (put_answer f address frame (record { value = value; blocks = bytes; records = [] })) old new
  answer_full_later old mid new a b = full_second the_return the_params old mid new tt a b

-- a prefix of a number's bytes is as many of its low bytes
pub low_bytes_of : (k n value : ℕ) → k ≤ n → take k (low_bytes n value) ≡ low_bytes k value
low_bytes_of zero n value h = refl
low_bytes_of (suc k) zero value h = absurd (omega (arith, h))
low_bytes_of (suc k) (suc n) value h = let below : k ≤ n = omega (arith, h) in ap (λ l. value % 256 ∷ l) (low_bytes_of k n (value / 256) below)

-- the first of a number's eight bytes, as many as a return has
pub return_bytes : (bytes : List ℕ) (n size value : ℕ) → bytes ≡ low_bytes 8 value → n ≡ size → size ≤ 8 → take n bytes ≡ low_bytes size value
return_bytes bytes n size value bytes_are size_is h = ap (λ k. take k bytes) size_is ∙ ap (λ l. take size l) bytes_are ∙ low_bytes_of size 8 value h

-- fewer bytes of a mapped range
pub fewer_mapped : (host a n k : ℕ) → k ≤ n → IsTrue (is_mapped host a n) → IsTrue (is_mapped host a k)
fewer_mapped host a n k h m = grind arith

-- those that are kept are no more than all
pub kept_few : {A : Type 0} (kept : A → Bool) (xs : List A) → length (filter kept xs) ≤ length xs
kept_few kept [] = omega arith
kept_few kept (x ∷ xs) =
    let less : length (filter kept xs) ≤ length xs = kept_few kept xs in
    elim (kept x) as (λ b. length (cond b (x ∷ filter kept xs) (filter kept xs)) ≤ suc (length xs)) [ true ↦ omega (arith, less) | false ↦ omega (arith, less) ]

module _ (f : Function) (items : List Param) (i place : ℕ) (same : items ≡ f.params) (within : i < length items) (place_is : place ≡ length (marshalled_in (take i items))) where
  -- a place is no larger than its parameter's
  pub place_few : length f.params ≤ 64 → place < 64
  place_few few =
      let count : length items ≡ length f.params = ap (λ (l : List Param). length l) same in
      let taken : length (take i items) ≡ i = length-take-le i items (omega (arith, within)) in
      let kept : length (marshalled_in (take i items)) ≤ length (take i items) = kept_few (λ (q : Param). is_marshalled q.class) (take i items) in
      omega (arith, count, taken, kept, few, within, place_is)

  module _ (frame : List ℕ) (arena : Memory) (blocks : List (Option Block)) (old now : PortState) (p : Param) (is : p ≡ get_or items i p) (kept : is_marshalled p.class ≡ true)
      (allowed : unless_refused (first_row (field_rows old.host f frame)) ≡ Ok tt) (so_far : IsPutting f frame arena blocks old now place (marshalled_in (drop i items))) where
    abbrev item_rest : List Param
    item_rest = marshalled_in (drop (i + 1) items)

    item_here : IsPutting f frame arena blocks old now place (p ∷ item_rest)
    item_here = subst (λ l. IsPutting f frame arena blocks old now place l) (kept_left (λ (q : Param). is_marshalled q.class) items i p within is kept) so_far

    item_placed : IsPlaced now.host f frame p
    item_placed = subst (λ h. IsPlaced h f frame p) (sym so_far.host) (placed_item old.host f frame items i p same within is kept allowed)

    pub item_next : (bytes : List (Option (List ℕ))) → HasBlocks arena blocks bytes → AreCopiesOf f frame (marshalled f) bytes → IsNext now.host frame arena blocks bytes place p
    item_next = next_is f frame arena blocks old now place (marshalled_in (take i items)) item_rest p (item_parts f items i p same within is kept) place_is item_placed item_here

    pub item_more : (new : PortState) (next : ℕ) → next ≡ suc place → ((bytes : List (Option (List ℕ))) × HasBlocks arena blocks bytes × AreCopiesOf f frame (marshalled f) bytes)
        → ((copy : Option (List ℕ)) → ((other : Option Block) → HasBlock arena (get_or blocks place other) copy) → Makes (copy_back frame p copy) now new tt) → IsPutting f frame arena blocks old new next item_rest
    item_more new next is_next (bytes, have, are) made =
        let n : IsNext now.host frame arena blocks bytes place p = item_next bytes have are in
        putting_more f frame arena blocks old now place (marshalled_in (take i items)) item_rest p (item_parts f items i p same within is kept) place_is item_placed item_here
        new next is_next (leads_host (copy_back frame p n.copy) (ret tt) now new (made n.copy n.has)) made

    pub item_full : (new : PortState) → ((copy : Option (List ℕ)) → ((other : Option Block) → HasBlock arena (get_or blocks place other) copy) → StopsFull (copy_back frame p copy) now new)
        → (bytes : List (Option (List ℕ))) → HasBlocks arena blocks bytes → AreCopiesOf f frame (marshalled f) bytes → StopsFull (copies_out frame (zip (marshalled f) bytes)) old new
    item_full = putting_full f frame arena blocks old now place (marshalled_in (take i items)) item_rest p (item_parts f items i p same within is kept) place_is item_placed item_here

-- what holds of a success or of an error, turned into another
pub on_ok : {T E : Type 0} (r : Result T E) (P Q : Type 0) → (P → Q) → OnOk r P → OnOk r Q
on_ok (Ok x) P Q f p = f p
on_ok (Err e) P Q f p = tt
