-- The buffers that come back, one after another, and the blocks that they come back into.
use Rattle.std.proofs.Common.{ℕ, zero, suc, ◌+◌, ◌<◌, ◌≤◌, ◌≡◌, ◌==◌, ◌&&◌, not, Bool, true, false, if◌then◌else◌, List, [], ◌∷◌, ◌++◌, length, take, drop, map, filter, Option, Some, None, option_map, slice_get, slice_set, get_or, refl, ap, sym, ◌∙◌, subst, arith, append_assoc, append-nil}
use Rattle.std.specs.Prelude.{unwrap_or}
use Rattle.std.proofs.lemmas.Option.{slice_get-map, slice_get-get_or}
use Rattle.sgx_base.specs.Bytes.{rounded_size}
use Rattle.edl_interface.specs.declared.Class.{Class}
use Rattle.edl_interface.specs.declared.Class.TheVariants.{Plain as by_value, UserCheck, Buffer as buffer_class, Text, Fixed, Foreign}
use Rattle.edl_interface.specs.declared.Param.{Param}
use Rattle.edl_interface.specs.Parameters.{is_marshalled, is_out, unit_of}
use Rattle.enclave_memory.specs.declared.Arg.{Arg}
use Rattle.enclave_memory.specs.declared.Arg.TheVariants.{Value, Bytes}
use Rattle.enclave_memory.specs.Arguments.{Passed, by_number, by_place, IsPassed, ArePassed, places_in, blocks_of}
use Rattle.enclave_memory.specs.Memory.{Memory, taken_by}
use Rattle.enclave_memory.proofs.Blocks.{taken_by-cons}
use Rattle.word_port.specs.declared.Side.TheVariants.{Enclave}
use Rattle.word_port.specs.Port.{PortState}
use Rattle.word_port.specs.Interaction.{Interaction, ret, and_then, map_value}
use Rattle.word_port.specs.Accesses.{loads}
use Rattle.word_port.specs.Runs.{Leads, Makes, StopsFull}
use Rattle.word_port.proofs.Laws.{and_then-assoc, and_then-ret, leads_on, leads_first, leads_nothing, full_on, full_first}
use Rattle.ocall_frames.specs.Arguments.{has_place}
use Rattle.ocall_frames.specs.Contents.{IsContent, AreContents, buffers_with}
use Rattle.ocall_frames.specs.Frames.{Buffer, buffer_loads, block_after, blocks_after, IsArenaAfter}
use Rattle.ocall_frames.specs.Replies.{buffer_load, IsPartOfArgument, IsBack, KeepsBlocks}
use Rattle.ocall_frames.proofs.ContentLaws.{IsNextContent}
use Rattle.ocall_frames.proofs.PutLaws.{content_next, arg_next}
use Rattle.ocall_frames.proofs.StructureLaws.{drop_at}
use std.Path.{fun_ext}

abbrev pub marshalled_in : List Param → List Param
marshalled_in params = filter (λ p. is_marshalled p.class) params

pub keeps_none : (m : Memory) → KeepsBlocks m m
keeps_none m = record { size = refl; blocks = λ b place block is. (block, is, refl) }

taken_set : (xs : List (List ℕ)) (place k : ℕ) (old new : List ℕ) → slice_get xs k ≡ Some old → length new ≡ length old → taken_by (take place (slice_set xs k new)) ≡ taken_by (take place xs)
taken_set [] place k old new e l = cc
taken_set (x ∷ xs) zero k old new e l = refl
taken_set (x ∷ xs) (suc place) zero old new e l =
    let same : x ≡ old = cc in
    let sizes : length new ≡ length x = l ∙ ap (λ (y : List ℕ). length y) (sym same) in
    taken_by-cons new (take place xs) ∙ ap (λ n. rounded_size n + taken_by (take place xs)) sizes ∙ sym (taken_by-cons x (take place xs))
taken_set (x ∷ xs) (suc place) (suc k) old new e l =
    taken_by-cons x (take place (slice_set xs k new)) ∙ ap (λ n. rounded_size (length x) + n) (taken_set xs place k old new e l) ∙ sym (taken_by-cons x (take place xs))

get_set : (xs : List (List ℕ)) (place k : ℕ) (cur old new : List ℕ) → slice_get xs place ≡ Some cur → slice_get xs k ≡ Some old → length new ≡ length old
    → (now : List ℕ) × (slice_get (slice_set xs k new) place ≡ Some now) × (length now ≡ length cur)
get_set [] place k cur old new e f l = cc
get_set (x ∷ xs) zero zero cur old new e f l = let same : cur ≡ old = cc in (new, refl, l ∙ ap (λ (y : List ℕ). length y) (sym same))
get_set (x ∷ xs) zero (suc k) cur old new e f l = (cur, e, refl)
get_set (x ∷ xs) (suc place) zero cur old new e f l = (cur, e, refl)
get_set (x ∷ xs) (suc place) (suc k) cur old new e f l = get_set xs place k cur old new e f l

-- a block that gets as many bytes keeps them all
keeps_set : (before now after : Memory) (k : ℕ) (old new : List ℕ) → KeepsBlocks before now → slice_get now.blocks k ≡ Some old → length new ≡ length old
    → after ≡ record now { blocks = slice_set now.blocks k new } → KeepsBlocks before after
keeps_set before now after k old new keeps e l is = subst (λ m. KeepsBlocks before m) (sym is) record {
  size = keeps.size;
  blocks = λ b place block here.
      let (cur, there, same) = keeps.blocks b place block here in
      let (set, set_is, set_length) = get_set now.blocks place k cur old new there.bytes_are e l in (
        set,
        record {
          starts = there.starts ∙ sym (taken_set now.blocks place k old new e l);
          bytes_are = set_is;
          length_is = there.length_is ∙ sym set_length;
        },
        set_length ∙ same,
      );
}

map_set : (xs : List (List ℕ)) (k : ℕ) (x : List ℕ) → map (λ b. Some b) (slice_set xs k x) ≡ slice_set (map (λ b. Some b) xs) k (Some x)
map_set [] k x = refl
map_set (y ∷ xs) zero x = refl
map_set (y ∷ xs) (suc k) x = ap (λ l. Some y ∷ l) (map_set xs k x)

pub back_keeps : (before now after : Memory) (class : Class) (arg : Arg) (q : Passed) (these : Option (List ℕ)) → KeepsBlocks before now → IsPassed before arg q → IsBack class arg these now after
    → KeepsBlocks before after
back_keeps before now after class (Value n) q these keeps h back = subst (λ m. KeepsBlocks before m) (sym back) keeps
back_keeps before now after class (Bytes None) q these keeps h back = subst (λ m. KeepsBlocks before m) (sym back) keeps
back_keeps before now after class (Bytes (Some b)) (by_number n) these keeps h back = absurd h
back_keeps before now after class (Bytes (Some b)) (by_place None) these keeps h back = absurd h
back_keeps before now after class (Bytes (Some b)) (by_place (Some k)) these keeps h back =
    let (cur, there, same) = keeps.blocks b k h.0 h.1 in
    let r = back k cur there in
    keeps_set before now after k cur (block_after class these cur) keeps there.bytes_are r.0 r.1

-- what comes back of a parameter: only a marshalled one has a place in the reply
abbrev kept : Bool → Option (List ℕ) → List (Option (List ℕ))
kept true these = these ∷ []
kept false these = []

is_kept : (m : Bool) (these : Option (List ℕ)) (rest : List (Option (List ℕ))) → (if m then these ∷ rest else rest) ≡ kept m these ++ rest
is_kept true these rest = refl
is_kept false these rest = refl

-- what comes back of one argument changes its block as defined
back_blocks : (before now after : Memory) (p : Param) (arg : Arg) (q : Passed) (these : Option (List ℕ)) (params : List Param) (passed : List Passed) (rest : List (Option (List ℕ))) (m : Bool)
    → is_marshalled p.class ≡ m → has_place arg ≡ m → KeepsBlocks before now → IsPassed before arg q → IsBack p.class arg these now after
    → blocks_after (if m then p ∷ params else params) (places_in (q ∷ passed)) (kept m these ++ rest) (blocks_of now) ≡ blocks_after params (places_in passed) rest (blocks_of after)
back_blocks before now after p (Value n) (by_number k) these params passed rest true e kind keeps h back = cc
back_blocks before now after p (Value n) (by_number k) these params passed rest false e kind keeps h back = ap (λ (m : Memory). blocks_after params (places_in passed) rest (blocks_of m)) (sym back)
back_blocks before now after p (Value n) (by_place place) these params passed rest m e kind keeps h back = absurd h
back_blocks before now after p (Bytes b) q these params passed rest false e kind keeps h back = cc
back_blocks before now after p (Bytes None) (by_number k) these params passed rest true e kind keeps h back = absurd h
back_blocks before now after p (Bytes None) (by_place None) these params passed rest true e kind keeps h back = ap (λ (m : Memory). blocks_after params (places_in passed) rest (blocks_of m)) (sym back)
back_blocks before now after p (Bytes None) (by_place (Some k)) these params passed rest true e kind keeps h back = absurd h
back_blocks before now after p (Bytes (Some b)) (by_number k) these params passed rest true e kind keeps h back = absurd h
back_blocks before now after p (Bytes (Some b)) (by_place None) these params passed rest true e kind keeps h back = absurd h
back_blocks before now after p (Bytes (Some b)) (by_place (Some k)) these params passed rest true e kind keeps h back =
    let (cur, there, same) = keeps.blocks b k h.0 h.1 in
    let r = back k cur there in
    let found : slice_get (blocks_of now) k ≡ Some (Some cur) = slice_get-map (λ x. Some x) now.blocks k ∙ ap (λ o. option_map (λ x. Some x) o) there.bytes_are in
    ap (λ o. blocks_after params (places_in passed) rest (slice_set (blocks_of now) k (option_map (block_after p.class these) (unwrap_or o None)))) found
    ∙ ap (λ l. blocks_after params (places_in passed) rest l) (sym (map_set now.blocks k (block_after p.class these cur)))
    ∙ ap (λ (m : Memory). blocks_after params (places_in passed) rest (blocks_of m)) (sym r.1)

-- what is not marshalled is not copied back
no_out : (class : Class) → is_marshalled class ≡ false → is_out class ≡ false
no_out (by_value plain) e = refl
no_out UserCheck e = refl
no_out (buffer_class way size count unit) e = cc
no_out (Text way unit) e = cc
no_out (Fixed way length unit) e = cc
no_out (Foreign None) e = refl
no_out (Foreign (Some way)) e = cc

both_hold : (a b : Bool) → (a && not b) ≡ true → b ≡ false
both_hold true true e = cc
both_hold true false e = refl
both_hold false b e = cc

-- the loads of a buffer at its address, or none
first_load : (p : Param) (content : List ℕ) (next : ℕ) (more : List Buffer) (c : Bool) → (is_out p.class && not (length content == 0)) ≡ c
    → (if c then and_then (loads Enclave (if length content == 0 then 0 else next) (length content)) (λ these. map_value (λ rest. Some these ∷ rest) (buffer_loads more))
    else map_value (λ rest. None ∷ rest) (buffer_loads more))
    ≡ and_then (if c then map_value (λ these. Some these) (loads Enclave next (length content)) else ret None) (λ these. map_value (λ rest. these ∷ rest) (buffer_loads more))
first_load p content next more true e =
    ap (λ b. and_then (loads Enclave (if b then 0 else next) (length content)) (λ these. map_value (λ rest. Some these ∷ rest) (buffer_loads more))) (both_hold (is_out p.class) (length content == 0) e)
    ∙ sym (and_then-assoc (loads Enclave next (length content)) (λ these. ret (Some these)) (λ these. map_value (λ rest. these ∷ rest) (buffer_loads more)))
first_load p content next more false e = refl

no_load : (class : Class) (next count : ℕ) → is_out class ≡ false → buffer_load class next count ≡ ret None
no_load class next count e = ap (λ b. if b && not (count == 0) then map_value (λ these. Some these) (loads Enclave next count) else ret None) e

loads_split : (p : Param) (content : List ℕ) (next : ℕ) (more : List Buffer) (m : Bool) → is_marshalled p.class ≡ m
    → buffer_loads (if m then record { param = p; address = if length content == 0 then 0 else next; content = content } ∷ more else more)
    ≡ and_then (buffer_load p.class next (length content)) (λ these. map_value (λ rest. kept m these ++ rest) (buffer_loads more))
loads_split p content next more true e = first_load p content next more (is_out p.class && not (length content == 0)) refl
loads_split p content next more false e =
    sym (and_then-ret (buffer_loads more))
    ∙ ap (λ t. and_then t (λ these. map_value (λ rest. kept false these ++ rest) (buffer_loads more))) (sym (no_load p.class next (length content) (no_out p.class e)))

module _ (p : Param) (ps : List Param) (content : List ℕ) (rest : List (List ℕ)) (next : ℕ) where
  abbrev others : Interaction (List (Option (List ℕ)))
  others = buffer_loads (buffers_with (next + length content) ps rest)

  abbrev left_to_load : List (Option (List ℕ)) → Interaction (List (Option (List ℕ)))
  left_to_load so_far = map_value (λ rest. so_far ++ rest) (buffer_loads (buffers_with next (p ∷ ps) (content ∷ rest)))

  abbrev goes_on : List (Option (List ℕ)) → Option (List ℕ) → Interaction (List (Option (List ℕ)))
  goes_on so_far these = map_value (λ rest. (so_far ++ kept (is_marshalled p.class) these) ++ rest) others

  left_is : (so_far : List (Option (List ℕ))) → left_to_load so_far ≡ and_then (buffer_load p.class next (length content)) (goes_on so_far)
  left_is so_far =
      let m : Bool = is_marshalled p.class in
      let same : (these : Option (List ℕ)) → map_value (λ rest. so_far ++ rest) (map_value (λ rest. kept m these ++ rest) others) ≡ goes_on so_far these = λ these.
      and_then-assoc others (λ rest. ret (kept m these ++ rest)) (λ rest. ret (so_far ++ rest))
      ∙ ap (λ f. and_then others f) (fun_ext (λ rest. ap (λ l. ret l) (sym (append_assoc so_far (kept m these) rest)))) in
      ap (λ t. map_value (λ rest. so_far ++ rest) t) (loads_split p content next (buffers_with (next + length content) ps rest) m refl)
      ∙ and_then-assoc (buffer_load p.class next (length content)) (λ these. map_value (λ rest. kept m these ++ rest) others) (λ rest. ret (so_far ++ rest))
      ∙ ap (λ f. and_then (buffer_load p.class next (length content)) f) (fun_ext same)

  load_on : (t : Interaction (List (Option (List ℕ)))) (so_far : List (Option (List ℕ))) (these : Option (List ℕ)) (old mid new : PortState) → Leads t old mid (left_to_load so_far)
      → Makes (buffer_load p.class next (length content)) mid new these → Leads t old new (goes_on so_far these)
  load_on t so_far these old mid new leads made =
      leads_on t (left_to_load so_far) (goes_on so_far these) old mid new leads
      (subst (λ u. Leads u mid new (goes_on so_far these)) (sym (left_is so_far)) (leads_first (buffer_load p.class next (length content)) (ret these) (goes_on so_far) mid new made))

  load_stops : (t : Interaction (List (Option (List ℕ)))) (so_far : List (Option (List ℕ))) (old mid new : PortState) → Leads t old mid (left_to_load so_far)
      → StopsFull (buffer_load p.class next (length content)) mid new → StopsFull t old new
  load_stops t so_far old mid new leads stops =
      full_on t (left_to_load so_far) old mid new leads
      (subst (λ u. StopsFull u mid new) (sym (left_is so_far)) (full_first (buffer_load p.class next (length content)) (goes_on so_far) mid new stops))

-- some buffers came back, and those from this one on are left
pub record IsReading (before now : Memory) (ps : List Param) (passed : List Passed) (contents : List (List ℕ)) (from next i : ℕ) (old port : PortState) : Type 0 where
  pub so_far : List (Option (List ℕ))
  pub leads : Leads (buffer_loads (buffers_with from ps contents)) old port (map_value (λ rest. so_far ++ rest) (buffer_loads (buffers_with next (drop i ps) (drop i contents))))
  pub blocks : (rest : List (Option (List ℕ))) → blocks_after (marshalled_in ps) (places_in passed) (so_far ++ rest) (blocks_of before) ≡ blocks_after (marshalled_in (drop i ps)) (places_in (drop i passed)) rest (blocks_of now)

pub reading_none : (m : Memory) (ps : List Param) (passed : List Passed) (contents : List (List ℕ)) (from : ℕ) (port : PortState) → IsReading m m ps passed contents from from 0 port port
reading_none m ps passed contents from port = record {
  so_far = [];
  leads = subst (λ t. Leads (buffer_loads (buffers_with from ps contents)) port port t) (sym (and_then-ret (buffer_loads (buffers_with from ps contents))))
      (leads_nothing (buffer_loads (buffers_with from ps contents)) port);
  blocks = λ rest. refl;
}

module _ (before now after : Memory) (ps : List Param) (passed : List Passed) (contents : List (List ℕ)) (from next i : ℕ) (old mid new : PortState)
    (p : Param) (arg : Arg) (q : Passed) (content : List ℕ) (these : Option (List ℕ)) (so_far : IsReading before now ps passed contents from next i old mid)
    (params_are : drop i ps ≡ p ∷ drop (i + 1) ps) (passed_are : drop i passed ≡ q ∷ drop (i + 1) passed) (contents_are : drop i contents ≡ content ∷ drop (i + 1) contents) where
  abbrev leads_here : Leads (buffer_loads (buffers_with from ps contents)) old mid (left_to_load p (drop (i + 1) ps) content (drop (i + 1) contents) next so_far.so_far)
  leads_here =
      subst (λ l. Leads (buffer_loads (buffers_with from ps contents)) old mid (map_value (λ rest. so_far.so_far ++ rest) (buffer_loads (buffers_with next l (content ∷ drop (i + 1) contents))))) params_are
      (subst (λ l. Leads (buffer_loads (buffers_with from ps contents)) old mid (map_value (λ rest. so_far.so_far ++ rest) (buffer_loads (buffers_with next (drop i ps) l)))) contents_are so_far.leads)

  -- one more came back
  pub reading_more : has_place arg ≡ is_marshalled p.class → KeepsBlocks before now → IsPassed before arg q → Makes (buffer_load p.class next (length content)) mid new these → IsBack p.class arg these now after
      → IsReading before after ps passed contents from (next + length content) (i + 1) old new
  reading_more kind keeps h made back = record {
    so_far = so_far.so_far ++ kept (is_marshalled p.class) these;
    leads = load_on p (drop (i + 1) ps) content (drop (i + 1) contents) next (buffer_loads (buffers_with from ps contents)) so_far.so_far these old mid new leads_here made;
    blocks = λ rest.
        ap (λ l. blocks_after (marshalled_in ps) (places_in passed) l (blocks_of before)) (append_assoc so_far.so_far (kept (is_marshalled p.class) these) rest)
        ∙ so_far.blocks (kept (is_marshalled p.class) these ++ rest)
        ∙ ap (λ l. blocks_after (marshalled_in l) (places_in (drop i passed)) (kept (is_marshalled p.class) these ++ rest) (blocks_of now)) params_are
        ∙ ap (λ l. blocks_after (marshalled_in (p ∷ drop (i + 1) ps)) (places_in l) (kept (is_marshalled p.class) these ++ rest) (blocks_of now)) passed_are
        ∙ back_blocks before now after p arg q these (marshalled_in (drop (i + 1) ps)) (drop (i + 1) passed) rest (is_marshalled p.class) refl kind keeps h back;
  }

  -- the log is full while one comes back
  pub reading_full : StopsFull (buffer_load p.class next (length content)) mid new → StopsFull (buffer_loads (buffers_with from ps contents)) old new
  reading_full stops = load_stops p (drop (i + 1) ps) content (drop (i + 1) contents) next (buffer_loads (buffers_with from ps contents)) so_far.so_far old mid new leads_here stops

-- all came back
pub reading_all : (before now : Memory) (ps : List Param) (passed : List Passed) (contents : List (List ℕ)) (from next i : ℕ) (old port : PortState) → IsReading before now ps passed contents from next i old port
    → KeepsBlocks before now → drop i ps ≡ []
    → (loaded : List (Option (List ℕ))) × Makes (buffer_loads (buffers_with from ps contents)) old port loaded × IsArenaAfter (marshalled_in ps) passed loaded before now
reading_all before now ps passed contents from next i old port r keeps none =
    let ends : map_value (λ rest. r.so_far ++ rest) (buffer_loads (buffers_with next (drop i ps) (drop i contents))) ≡ ret r.so_far =
    ap (λ l. map_value (λ rest. r.so_far ++ rest) (buffer_loads (buffers_with next l (drop i contents)))) none
    ∙ ap (λ l. ret l) (append-nil r.so_far) in
    let blocks : blocks_of now ≡ blocks_after (marshalled_in ps) (places_in passed) r.so_far (blocks_of before) =
    sym (ap (λ l. blocks_after (marshalled_in ps) (places_in passed) l (blocks_of before)) (sym (append-nil r.so_far)) ∙ r.blocks []
    ∙ ap (λ l. blocks_after (marshalled_in l) (places_in (drop i passed)) [] (blocks_of now)) none) in (
      r.so_far,
      subst (λ t. Leads (buffer_loads (buffers_with from ps contents)) old port t) ends r.leads,
      record { size_is = keeps.size; blocks_are = blocks },
    )

-- the next argument with its block's name
record IsNextPassed (before : Memory) (arg : Arg) (passed : List Passed) (i : ℕ) : Type 0 where
  name : Passed
  is : IsPassed before arg name
  left : drop i passed ≡ name ∷ drop (i + 1) passed

next_passed : (before : Memory) (args : List Arg) (passed : List Passed) (i : ℕ) (arg : Arg) → ArePassed before args passed → slice_get args i ≡ Some arg → IsNextPassed before arg passed i
next_passed before [] passed i arg h e = cc
next_passed before (a ∷ args) [] i arg h e = absurd h
next_passed before (a ∷ args) (q ∷ passed) zero arg h e =
    let same : a ≡ arg = cc in
    record { name = q; is = subst (λ x. IsPassed before x q) same h.0; left = refl }
next_passed before (a ∷ args) (q ∷ passed) (suc i) arg h e =
    let n : IsNextPassed before arg passed i = next_passed before args passed i arg h.1 e in
    let on : suc (i + 1) ≡ suc i + 1 = omega arith in
    record { name = n.name; is = n.is; left = n.left ∙ ap (λ k. n.name ∷ drop k (q ∷ passed)) on }

-- the part of a block that a content was is one still
pub part_is : (before now : Memory) (class : Class) (arg : Arg) (content : List ℕ) (count : ℕ) → KeepsBlocks before now → IsContent before class arg content → count ≡ length content
    → IsPartOfArgument now class arg count
part_is before now class (Value n) content count keeps is e = e ∙ ap (λ (l : List ℕ). length l) is
part_is before now class (Bytes None) content count keeps is e = e ∙ ap (λ (l : List ℕ). length l) is
part_is before now class (Bytes (Some b)) content count keeps is e =
    let (cur, there, same) = keeps.blocks b is.place is.block is.is_block in
    let fits : count ≤ b.length = omega (arith, e, is.within, is.is_block.length_is) in
    ((is.place, cur, there), fits, λ text. subst (λ n. unit_of class ≤ n) (sym e) (is.unit text))

module _ (before now : Memory) (ps : List Param) (args : List Arg) (passed : List Passed) (contents : List (List ℕ)) (lengths : List ℕ) (from i next : ℕ) (p : Param) (old mid new : PortState)
    (live : ArePassed before args passed) (are : AreContents before ps args contents) (lengths_are : lengths ≡ map length contents) (counts : length lengths ≡ length args) (below : i < length args)
    (at : slice_get ps i ≡ Some p) (so_far : IsReading before now ps passed contents from next i old mid) where
  content : IsNextContent contents lengths i
  content = content_next before ps args contents lengths i next p are lengths_are counts below at

  name : IsNextPassed before (get_or args i (Value 0)) passed i
  name = next_passed before args passed i (get_or args i (Value 0)) live (slice_get-get_or args i (Value 0) below)

  -- one more came back
  pub load_step : (after : Memory) (these : Option (List ℕ)) → KeepsBlocks before now → Makes (buffer_load p.class next (get_or lengths i 0)) mid new these → IsBack p.class (get_or args i (Value 0)) these now after
      → IsReading before after ps passed contents from (next + get_or lengths i 0) (i + 1) old new
  load_step after these keeps made back =
      let kind : has_place (get_or args i (Value 0)) ≡ is_marshalled p.class = (arg_next before ps args contents lengths i next p are lengths_are counts below at).kind in
      subst (λ n. IsReading before after ps passed contents from (next + n) (i + 1) old new) (sym content.count)
      (reading_more before now after ps passed contents from next i old mid new p (get_or args i (Value 0)) name.name content.content these so_far (drop_at ps i p at) name.left content.left kind keeps name.is
      (subst (λ n. Makes (buffer_load p.class next n) mid new these) content.count made) back)

  -- the log is full while one comes back
  pub load_full : StopsFull (buffer_load p.class next (get_or lengths i 0)) mid new → StopsFull (buffer_loads (buffers_with from ps contents)) old new
  load_full stops =
      reading_full before now now ps passed contents from next i old mid new p (get_or args i (Value 0)) name.name content.content None so_far (drop_at ps i p at) name.left content.left
      (subst (λ n. StopsFull (buffer_load p.class next n) mid new) content.count stops)

pub step_keeps : (before now after : Memory) (args : List Arg) (passed : List Passed) (i : ℕ) (class : Class) (these : Option (List ℕ)) → ArePassed before args passed → i < length args → KeepsBlocks before now
    → IsBack class (get_or args i (Value 0)) these now after → KeepsBlocks before after
step_keeps before now after args passed i class these live below keeps back =
    let n : IsNextPassed before (get_or args i (Value 0)) passed i = next_passed before args passed i (get_or args i (Value 0)) live (slice_get-get_or args i (Value 0) below) in
    back_keeps before now after class (get_or args i (Value 0)) n.name these keeps n.is back
