-- The copies of parameters in, as a loop makes them one after another.
use Rattle.std.proofs.Common.{ℕ, suc, ◌+◌, ◌-◌, ◌^◌, ◌≡◌, ◌<◌, Bool, true, false, cond, not, ◌||◌, ◌&&◌, ◌==◌, nat_lt, List, [], ◌∷◌, ◌++◌, length, take, drop, get_or, filter, Option, Some, None, Result, Ok, Err, refl, ap, sym, ◌∙◌, subst, IsTrue, append_assoc, add-zero, arith}
use Rattle.std.specs.List.{list_any}
use Rattle.std.proofs.Math.Seq.{split_at, drop-cons}
use Rattle.std.proofs.lemmas.Bool.{ltb-true}
use Rattle.std.proofs.lemmas.List.{append-nil}
use Rattle.std.proofs.lemmas.List.Elements.{filter-append}
use Rattle.std.proofs.lemmas.List.Folds.{list_any-append}
use Rattle.sgx_base.specs.Bytes.{rounded_size}
use Rattle.sgx_base.specs.Ranges.{is_host_range}
use Rattle.sgx_base.specs.Rows.{first_row, unless_refused}
use Rattle.sgx_base.specs.declared.Status.{Status}
use Rattle.edl_interface.specs.declared.Function.{Function}
use Rattle.edl_interface.specs.declared.Param.{Param}
use Rattle.edl_interface.specs.Lengths.{length_in}
use Rattle.edl_interface.specs.Parameters.{is_marshalled, marshalled, address_in}
use Rattle.word_port.specs.Port.{PortState}
use Rattle.word_port.specs.Interaction.{Interaction, ret, and_then, map_value}
use Rattle.word_port.specs.Runs.{Leads, Makes, StopsFull}
use Rattle.word_port.proofs.Laws.{and_then-assoc, and_then-ret, leads_nothing, leads_on, leads_then, full_on, full_first}
use Rattle.enclave_memory.specs.declared.Block.{Block}
use Rattle.enclave_memory.specs.Memory.{Memory, taken_by, room_of}
use Rattle.enclave_memory.proofs.Blocks.{taken_by-cons, taken_by-append}
use Rattle.body_vm.specs.Places.{blocks_in, IsHeld}
use Rattle.call_machine.specs.Refusal.{field_rows}
use Rattle.call_machine.specs.Result.{and_then_ok, go_on_if_ok}
use Rattle.call_machine.specs.Ecall.{Copies, copies_in, with_first}
use Rattle.call_machine.specs.Entry.{IsPlaced, copy_of, IsPushed, IsCopied, HasGrown, AreBehind, AreCopied}
use Rattle.call_machine.proofs.HeldBlocks.{number_on, held_more, blocks_more, behind_more}
use Rattle.call_machine.proofs.CopyResults.{room_after, copies_after, copies_in-cons}
use std.Path.{fun_ext}

-- the marshalled parameters among these
abbrev pub marshalled_in : List Param → List Param
marshalled_in params = filter (λ p. is_marshalled p.class) params

module _ {A : Type 0} (kept : A → Bool) (xs : List A) (i : ℕ) (x : A) (within : i < length xs) (is : x ≡ get_or xs i x) where
  left_is : drop i xs ≡ x ∷ drop (i + 1) xs
  left_is = let next : suc i ≡ i + 1 = omega arith in drop-cons xs i x within ∙ ap (λ y. y ∷ drop (suc i) xs) (sym is) ∙ ap (λ n. x ∷ drop n xs) next

  -- one that is kept is the first of those that are left
  pub kept_left : kept x ≡ true → filter kept (drop i xs) ≡ x ∷ filter kept (drop (i + 1) xs)
  kept_left k = ap (λ l. filter kept l) left_is ∙ ap (λ b. cond b (x ∷ filter kept (drop (i + 1) xs)) (filter kept (drop (i + 1) xs))) k

  -- another is not among those that are left
  pub other_left : kept x ≡ false → filter kept (drop i xs) ≡ filter kept (drop (i + 1) xs)
  other_left k = ap (λ l. filter kept l) left_is ∙ ap (λ b. cond b (x ∷ filter kept (drop (i + 1) xs)) (filter kept (drop (i + 1) xs))) k

  -- one that is kept, with those before it and behind it
  pub kept_parts : kept x ≡ true → filter kept xs ≡ filter kept (take i xs) ++ x ∷ filter kept (drop (i + 1) xs)
  kept_parts k =
      let next : suc i ≡ i + 1 = omega arith in
      let parts : xs ≡ take i xs ++ x ∷ drop (i + 1) xs = split_at xs i x within ∙ ap (λ y. take i xs ++ y ∷ drop (suc i) xs) (sym is) ∙ ap (λ n. take i xs ++ x ∷ drop n xs) next in
      ap (λ l. filter kept l) parts ∙ filter-append kept (take i xs) (x ∷ drop (i + 1) xs)
      ∙ ap (λ b. filter kept (take i xs) ++ cond b (x ∷ filter kept (drop (i + 1) xs)) (filter kept (drop (i + 1) xs))) k

rows_allow : (x y : Bool) (s t : Status) → unless_refused (first_row (record { holds = x; status = s } ∷ record { holds = y; status = t } ∷ [])) ≡ Ok tt → (x ≡ false) × (y ≡ false)
rows_allow true y s t e = cc
rows_allow false true s t e = cc
rows_allow false false s t e = (refl, refl)

or_parts : (a b c : Bool) → (a || (b || c)) ≡ false → b ≡ false
or_parts true b c e = cc
or_parts false true c e = cc
or_parts false false c e = refl

any_at : {A : Type 0} (test : A → Bool) (before rest : List A) (x : A) → list_any test (before ++ x ∷ rest) ≡ false → test x ≡ false
any_at test before rest x e = or_parts (list_any test before) (test x) (list_any test rest) (sym (list_any-append test before (x ∷ rest)) ∙ e)

is_short : (b : Bool) → not b ≡ false → b ≡ true
is_short true e = refl
is_short false e = cc

is_mapped_there : (null outside mapped : Bool) → (not null && not (outside && mapped)) ≡ false → null ≡ false → IsTrue mapped
is_mapped_there true outside mapped e n = cc
is_mapped_there false true true e n = refl
is_mapped_there false true false e n = cc
is_mapped_there false false mapped e n = cc

-- the fields of a frame that allow the entry place each parameter
pub placed : (host : ℕ) (f : Function) (frame : List ℕ) (before rest : List Param) (p : Param) → marshalled f ≡ before ++ p ∷ rest
    → unless_refused (first_row (field_rows host f frame)) ≡ Ok tt → IsPlaced host f frame p
placed host f frame before rest p parts e =
    let long : Param → Bool = λ q. not (nat_lt (length_in f frame q) (2 ^ 64)) in
    let misplaced : Param → Bool = λ q. not (address_in frame q == 0) && not (is_host_range host (address_in frame q) (length_in f frame q)) in
    let both : (list_any long (marshalled f) ≡ false) × (list_any misplaced (marshalled f) ≡ false) = rows_allow _ _ _ _ e in
    record {
      length_fits = ltb-true _ _ (is_short _ (any_at long before rest p (subst (λ l. list_any long l ≡ false) parts both.0)));
      mapped = is_mapped_there _ _ _ (any_at misplaced before rest p (subst (λ l. list_any misplaced l ≡ false) parts both.1));
    }

-- a marshalled parameter among all of them
pub item_parts : (f : Function) (items : List Param) (i : ℕ) (p : Param) → items ≡ f.params → i < length items → p ≡ get_or items i p → is_marshalled p.class ≡ true
    → marshalled f ≡ marshalled_in (take i items) ++ p ∷ marshalled_in (drop (i + 1) items)
item_parts f items i p same within is kept = ap (λ l. marshalled_in l) (sym same) ∙ kept_parts (λ (q : Param). is_marshalled q.class) items i p within is kept

pub placed_item : (host : ℕ) (f : Function) (frame : List ℕ) (items : List Param) (i : ℕ) (p : Param) → items ≡ f.params → i < length items → p ≡ get_or items i p → is_marshalled p.class ≡ true
    → unless_refused (first_row (field_rows host f frame)) ≡ Ok tt → IsPlaced host f frame p
placed_item host f frame items i p same within is kept e =
    placed host f frame (marshalled_in (take i items)) (marshalled_in (drop (i + 1) items)) p (item_parts f items i p same within is kept) e

-- steps leave the size of host memory
pub leads_host : {A : Type 0} (t rest : Interaction A) (old new : PortState) → Leads t old new rest → new.host ≡ old.host
leads_host t rest old new p = ap (λ (q : PortState). q.host) p.grown

-- the copies with these before them
abbrev pub with_before : List (Option (List ℕ)) → Result Copies Status → Result Copies Status
with_before done (Err status) = Err status
with_before done (Ok copies) = Ok (record copies { blocks = done ++ copies.blocks })

-- what is left of the copies in, once these are made
abbrev pub copies_left : Function → List ℕ → List (Option (List ℕ)) → ℕ → List Param → Interaction (Result Copies Status)
copies_left f frame done room rest = map_value (with_before done) (copies_in f frame room rest)

with_none : (copied : Result Copies Status) → with_before [] copied ≡ copied
with_none (Ok copies) = refl
with_none (Err status) = refl

all_left : (f : Function) (frame : List ℕ) (room : ℕ) (params : List Param) → copies_left f frame [] room params ≡ copies_in f frame room params
all_left f frame room params = ap (λ g. and_then (copies_in f frame room params) g) (fun_ext (λ copied. ap (λ r. ret r) (with_none copied))) ∙ and_then-ret (copies_in f frame room params)

with_next : (done : List (Option (List ℕ))) (block : Option (List ℕ)) (copied : Result Copies Status) → with_before done (with_first block copied) ≡ with_before (done ++ block ∷ []) copied
with_next done block (Ok copies) = ap (λ l. Ok (record copies { blocks = l })) (sym (append_assoc done (block ∷ []) copies.blocks))
with_next done block (Err status) = refl

-- what follows the next copy
abbrev next_left : Function → List ℕ → List (Option (List ℕ)) → ℕ → List Param → Option (List ℕ) → Interaction (Result Copies Status)
next_left f frame done room rest block = copies_left f frame (done ++ block ∷ []) (room_after room block) rest

go_on_left : (f : Function) (frame : List ℕ) (done : List (Option (List ℕ))) (room : ℕ) (rest : List Param) (copied : Result (Option (List ℕ)) Status)
    → and_then (go_on_if_ok (copies_after f frame room rest) copied) (λ r. ret (with_before done r)) ≡ go_on_if_ok (next_left f frame done room rest) copied
go_on_left f frame done room rest (Err status) = refl
go_on_left f frame done room rest (Ok block) =
    and_then-assoc (copies_in f frame (room_after room block) rest) (λ r. ret (with_first block r)) (λ r. ret (with_before done r))
    ∙ ap (λ g. and_then (copies_in f frame (room_after room block) rest) g) (fun_ext (λ copied. ap (λ r. ret r) (with_next done block copied)))

left-cons : (f : Function) (frame : List ℕ) (done : List (Option (List ℕ))) (room : ℕ) (p : Param) (rest : List Param)
    → copies_left f frame done room (p ∷ rest) ≡ and_then_ok (copy_of f frame room p) (next_left f frame done room rest)
left-cons f frame done room p rest =
    ap (λ t. map_value (with_before done) t) (copies_in-cons f frame room p rest)
    ∙ and_then-assoc (copy_of f frame room p) (go_on_if_ok (copies_after f frame room rest)) (λ r. ret (with_before done r))
    ∙ ap (λ g. and_then (copy_of f frame room p) g) (fun_ext (go_on_left f frame done room rest))

room_pushed : (before after : Memory) (block : Option Block) (bytes : Option (List ℕ)) → IsPushed before after block bytes → room_of after ≡ room_after (room_of before) bytes
room_pushed before after None None p = ap (λ m. room_of m) p
room_pushed before after (Some block) (Some bytes) p =
    let taken : taken_by (before.blocks ++ bytes ∷ []) ≡ taken_by before.blocks + taken_by (bytes ∷ []) = taken_by-append before.blocks (bytes ∷ []) in
    let one : taken_by (bytes ∷ []) ≡ rounded_size (length bytes) = taken_by-cons bytes [] ∙ add-zero (rounded_size (length bytes)) in
    let left : before.size - taken_by (before.blocks ++ bytes ∷ []) ≡ (before.size - taken_by before.blocks) - rounded_size (length bytes) = omega (arith, taken, one) in
    ap (λ m. room_of m) p.pushed ∙ left
room_pushed before after None (Some bytes) p = absurd p
room_pushed before after (Some block) None p = absurd p

pub not_grown : (m : Memory) → HasGrown m m
not_grown m = record { pushed = []; grown = ap (λ (l : List (List ℕ)). record m { blocks = l }) (sym (append-nil m.blocks)) }

grown_more : (before between after : Memory) (block : Option Block) (bytes : Option (List ℕ)) → HasGrown before between → IsPushed between after block bytes → HasGrown before after
grown_more before between after None None g p = subst (λ m. HasGrown before m) (sym p) g
grown_more before between after (Some block) (Some bytes) g p = record {
  pushed = g.pushed ++ bytes ∷ [];
  grown = p.pushed ∙ ap (λ (m : Memory). record m { blocks = m.blocks ++ bytes ∷ [] }) g.grown
      ∙ ap (λ (l : List (List ℕ)). record before { blocks = l }) (append_assoc before.blocks g.pushed (bytes ∷ []));
}
grown_more before between after None (Some bytes) g p = absurd p
grown_more before between after (Some block) None g p = absurd p

-- some copies are made, and those of these parameters are left
pub record IsCopying (f : Function) (frame : List ℕ) (before now : Memory) (old port : PortState) (blocks : List (Option Block)) (rest : List Param) : Type 0 where
  pub numbers : List (Option ℕ)
  pub held : IsHeld now blocks numbers
  pub behind : AreBehind (length before.blocks) numbers
  pub grown : HasGrown before now
  pub leads : Leads (copies_in f frame (room_of before) (marshalled f)) old port (copies_left f frame (blocks_in now numbers) (room_of now) rest)

-- none is made
pub copying_none : (f : Function) (frame : List ℕ) (m : Memory) (port : PortState) → IsCopying f frame m m port port [] (marshalled f)
copying_none f frame m port = record {
  numbers = [];
  held = record { numbered = tt; apart = tt };
  behind = λ n lt. tt;
  grown = not_grown m;
  leads = subst (λ t. Leads (copies_in f frame (room_of m) (marshalled f)) port port t) (sym (all_left f frame (room_of m) (marshalled f)))
      (leads_nothing (copies_in f frame (room_of m) (marshalled f)) port);
}

module _ (f : Function) (frame : List ℕ) (before now : Memory) (old port : PortState) (blocks : List (Option Block)) (p : Param) (rest : List Param)
    (so_far : IsCopying f frame before now old port blocks (p ∷ rest)) where
  abbrev the_copies : Interaction (Result Copies Status)
  the_copies = copies_in f frame (room_of before) (marshalled f)

  abbrev the_copy : Interaction (Result (Option (List ℕ)) Status)
  the_copy = copy_of f frame (room_of now) p

  abbrev copied : List (Option (List ℕ))
  copied = blocks_in now so_far.numbers

  abbrev the_rest : Result (Option (List ℕ)) Status → Interaction (Result Copies Status)
  the_rest = go_on_if_ok (next_left f frame copied (room_of now) rest)

  leads_here : Leads the_copies old port (and_then the_copy the_rest)
  leads_here = subst (λ t. Leads the_copies old port t) (left-cons f frame copied (room_of now) p rest) so_far.leads

  -- one more is made
  pub copying_more : (after : Memory) (new : PortState) (block : Option Block) → IsCopied f frame p now after port new block
      → IsCopying f frame before after old new (blocks ++ block ∷ []) rest
  copying_more after new block c = record {
    numbers = so_far.numbers ++ number_on now block ∷ [];
    held = held_more before now after blocks so_far.numbers block c.bytes so_far.held c.pushed;
    behind = behind_more before now after blocks so_far.numbers block c.bytes so_far.held c.pushed so_far.grown so_far.behind;
    grown = grown_more before now after block c.bytes so_far.grown c.pushed;
    leads =
        subst (λ l. Leads the_copies old new (copies_left f frame l (room_of after) rest)) (sym (blocks_more before now after blocks so_far.numbers block c.bytes so_far.held c.pushed))
        (subst (λ n. Leads the_copies old new (copies_left f frame (copied ++ c.bytes ∷ []) n rest)) (sym (room_pushed now after block c.bytes c.pushed))
        (leads_on the_copies (and_then the_copy the_rest) (next_left f frame copied (room_of now) rest c.bytes) old port new leads_here
        (leads_then the_copy the_rest (next_left f frame copied (room_of now) rest c.bytes) port new new (Ok c.bytes) c.made (leads_nothing (next_left f frame copied (room_of now) rest c.bytes) new))));
  }

  -- one is refused
  pub copying_refused : (new : PortState) (status : Status) → Makes the_copy port new (Err status) → Makes the_copies old new (Err status)
  copying_refused new status made =
      leads_on the_copies (and_then the_copy the_rest) (ret (Err status)) old port new leads_here
      (leads_then the_copy the_rest (ret (Err status)) port new new (Err status) made (leads_nothing (ret (Err status)) new))

  -- the log is full in one
  pub copying_full : (new : PortState) → StopsFull the_copy port new → StopsFull the_copies old new
  copying_full new stopped = full_on the_copies (and_then the_copy the_rest) old port new leads_here (full_first the_copy the_rest port new stopped)

-- all are made
pub copying_all : (f : Function) (frame : List ℕ) (before now : Memory) (old port : PortState) (blocks : List (Option Block)) (rest : List Param)
    → rest ≡ [] → IsCopying f frame before now old port blocks rest → AreCopied f frame before now old port blocks
copying_all f frame before now old port blocks rest none c = record {
  numbers = c.numbers;
  held = c.held;
  behind = c.behind;
  made = subst (λ t. Leads (copies_in f frame (room_of before) (marshalled f)) old port t)
      (ap (λ l. copies_left f frame (blocks_in now c.numbers) (room_of now) l) none
      ∙ ap {B = Interaction (Result Copies Status)} (λ (l : List (Option (List ℕ))). ret (Ok (record { blocks = l; room = room_of now }))) (append-nil (blocks_in now c.numbers))) c.leads;
}
