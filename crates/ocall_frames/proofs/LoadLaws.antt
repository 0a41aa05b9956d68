-- The first bytes of a block, as they are loaded one after another.
use Rattle.std.proofs.Common.{ℕ, zero, suc, ◌+◌, ◌-◌, ◌<◌, ◌≤◌, ◌≡◌, ◌==◌, ◌&&◌, not, ◌⊎◌, inl, inr, Bool, true, false, if◌then◌else◌, Option, None, List, [], ◌∷◌, ◌++◌, length, take, drop, replicate, Some, slice_set, refl, ap, sym, ◌∙◌, subst, arith, append_assoc, length-append, length-drop, length-take}
use Rattle.std.proofs.lemmas.List.{take-append-le, length-replicate, length-set, set-set, set_split, take-append-drop}
use Rattle.std.proofs.lemmas.Bool.{eqb-true}
use Rattle.std.proofs.Math.Seq.{drop-append_seam}
use Rattle.sgx_base.specs.Bytes.{with_bytes_at}
use Rattle.sgx_base.specs.Texts.{terminated_text}
use Rattle.enclave_memory.specs.declared.Block.{Block}
use Rattle.enclave_memory.specs.Memory.{Memory, IsBlock, IsLive}
use Rattle.enclave_memory.proofs.Blocks.{same_bytes, written_block}
use Rattle.call_copy.proofs.Fetches.{set_again}
use Rattle.word_port.specs.declared.Side.TheVariants.{Enclave}
use Rattle.word_port.specs.Port.{PortState, IsFull}
use Rattle.word_port.specs.Requests.{load_of}
use Rattle.word_port.specs.Interaction.{Interaction, ret, and_then, map_value}
use Rattle.word_port.specs.Accesses.{word_at, loads}
use Rattle.word_port.specs.Runs.{Leads, Makes, StopsFull}
use Rattle.word_port.proofs.Laws.{makes_ret, makes_then, full_first}
use Rattle.edl_interface.specs.declared.Class.{Class}
use Rattle.edl_interface.specs.Parameters.{is_out, is_text, unit_of}
use Rattle.ocall_frames.specs.Replies.{buffer_load, IsBackIn}
use Rattle.word_port.proofs.AccessLaws.{IsAnswerOf, loads_begin, loads_more, loads_full, loads_end}

-- bytes at the start of others
start_form : (first out : List ℕ) → with_bytes_at first 0 out ≡ out ++ drop (length out) first
start_form first out = let e : 0 + length out ≡ length out = omega arith in ap (λ n. out ++ drop n first) e

pub start_length : (first out : List ℕ) → length out ≤ length first → length (with_bytes_at first 0 out) ≡ length first
start_length first out h =
    let a : length (out ++ drop (length out) first) ≡ length out + length (drop (length out) first) = length-append out (drop (length out) first) in
    let b : length (drop (length out) first) ≡ length first - length out = length-drop (length out) first in
    let c : length (out ++ drop (length out) first) ≡ length first = omega (arith, a, b, h) in
    ap (λ (l : List ℕ). length l) (start_form first out) ∙ c

one_byte : (out : List ℕ) (i b : ℕ) → i < length out → with_bytes_at out i (b ∷ []) ≡ slice_set out i b
one_byte out i b h =
    let s : i + 1 ≡ suc i = omega arith in
    append_assoc (take i out) (b ∷ []) (drop (i + 1) out) ∙ ap (λ k. take i out ++ b ∷ drop k out) s ∙ sym (set_split out i b h)

set_front : (xs ys : List ℕ) (i b : ℕ) → i < length xs → slice_set (xs ++ ys) i b ≡ slice_set xs i b ++ ys
set_front [] ys i b h = absurd (omega (arith, h))
set_front (x ∷ xs) ys zero b h = refl
set_front (x ∷ xs) ys (suc i) b h = let w : i < length xs = omega (arith, h) in ap (λ l. x ∷ l) (set_front xs ys i b w)

-- one more byte of those at the start
start_more : (first out : List ℕ) (i b : ℕ) → i < length out → with_bytes_at (with_bytes_at first 0 out) i (b ∷ []) ≡ with_bytes_at first 0 (slice_set out i b)
start_more first out i b h =
    let n : length (slice_set out i b) ≡ length out = length-set out i b in
    let whole : length (out ++ drop (length out) first) ≡ length out + length (drop (length out) first) = length-append out (drop (length out) first) in
    let w : i < length (out ++ drop (length out) first) = omega (arith, h, whole) in
    ap (λ l. with_bytes_at l i (b ∷ [])) (start_form first out)
    ∙ one_byte (out ++ drop (length out) first) i b w
    ∙ set_front out (drop (length out) first) i b h
    ∙ ap (λ k. slice_set out i b ++ drop k first) (sym n)
    ∙ sym (start_form first (slice_set out i b))

-- the first bytes of a list, at its start
start_same : (first : List ℕ) (count : ℕ) → count ≤ length first → with_bytes_at first 0 (take count first) ≡ first
start_same first count h =
    let k : length (take count first) ≡ count = (let cut = length-take count first in omega (arith, cut, h)) in
    start_form first (take count first) ∙ ap (λ n. take count first ++ drop n first) k ∙ take-append-drop count first

-- so many bytes are loaded, of those that come into a block's first ones
pub record IsLoading (at : ℕ) (block : Block) (count i : ℕ) (old now : PortState) (before after : Memory) : Type 0 where
  pub live : IsLive before block
  pub fits : count ≤ block.length
  pub out : List ℕ
  pub size : length out ≡ count
  pub set : (place : ℕ) (first : List ℕ) → IsBlock before block place first → after ≡ record before { blocks = slice_set before.blocks place (with_bytes_at first 0 out) }
  pub leads : Leads (loads Enclave at count) old now (and_then (loads Enclave (at + i) (count - i)) (λ bytes. ret (take i out ++ bytes)))

pub loading_none : (at : ℕ) (block : Block) (count : ℕ) (now : PortState) (m : Memory) → IsLive m block → count ≤ block.length → IsLoading at block count 0 now now m m
loading_none at block count now m live fits =
    let (number, bytes, b) = live in
    let w : count ≤ length bytes = omega (arith, fits, b.length_is) in
    let k : length (take count bytes) ≡ count = (let cut = length-take count bytes in omega (arith, cut, w)) in
    record {
      live = live;
      fits = fits;
      out = take count bytes;
      size = k;
      set = λ place first p.
          let e : with_bytes_at first 0 (take count bytes) ≡ first = ap (λ l. with_bytes_at first 0 (take count l)) (same_bytes m block number place bytes first b p)
          ∙ start_same first count (subst (λ (l : List ℕ). count ≤ length l) (same_bytes m block number place bytes first b p) w) in
          ap (λ (l : List (List ℕ)). record m { blocks = l }) (sym (ap (λ x. slice_set m.blocks place x) e ∙ set_again m.blocks place first p.bytes_are));
      leads = loads_begin Enclave at count (take count bytes) now;
    }

loading_block : (at : ℕ) (block : Block) (count i : ℕ) (old now : PortState) (before after : Memory) (p : IsLoading at block count i old now before after)
    (place : ℕ) (first : List ℕ) → IsBlock before block place first → IsBlock after block place (with_bytes_at first 0 p.out)
loading_block at block count i old now before after p place first b =
    let w : length p.out ≤ length first = omega (arith, p.size, p.fits, b.length_is) in
    written_block before after block place first (with_bytes_at first 0 p.out) b (start_length first p.out w) (p.set place first b)

pub loading_live : (at : ℕ) (block : Block) (count i : ℕ) (old now : PortState) (before after : Memory) → IsLoading at block count i old now before after → IsLive after block
loading_live at block count i old now before after p =
    let (place, first, b) = p.live in
    (place, with_bytes_at first 0 p.out, loading_block at block count i old now before after p place first b)

-- one more byte is loaded, and written into the block
pub loading_more : (at : ℕ) (block : Block) (count i b : ℕ) (old mid new : PortState) (before between after : Memory)
    → IsLoading at block count i old mid before between → i < count → IsAnswerOf (load_of Enclave (word_at (at + i))) b mid new
    → ((place : ℕ) (bytes : List ℕ) → IsBlock between block place bytes → after ≡ record between { blocks = slice_set between.blocks place (with_bytes_at bytes i (b ∷ [])) })
    → IsLoading at block count (i + 1) old new before after
loading_more at block count i b old mid new before between after p h q w =
    let below : i < length p.out = omega (arith, h, p.size) in
    record {
      live = p.live;
      fits = p.fits;
      out = slice_set p.out i b;
      size = length-set p.out i b ∙ p.size;
      set = λ place first is.
          w place (with_bytes_at first 0 p.out) (loading_block at block count i old mid before between p place first is)
          ∙ ap (λ (l : List ℕ). record between { blocks = slice_set between.blocks place l }) (start_more first p.out i b below)
          ∙ ap (λ (m : Memory). record m { blocks = slice_set m.blocks place (with_bytes_at first 0 (slice_set p.out i b)) }) (p.set place first is)
          ∙ ap (λ (l : List (List ℕ)). record before { blocks = l }) (set-set before.blocks place (with_bytes_at first 0 p.out) (with_bytes_at first 0 (slice_set p.out i b)));
      leads = loads_more Enclave at count i b p.out old mid new p.leads h p.size q;
    }

-- all bytes are loaded
pub loading_all : (at : ℕ) (block : Block) (count i : ℕ) (old now : PortState) (before after : Memory) → IsLoading at block count i old now before after → i ≡ count
    → (bytes : List ℕ) × Makes (loads Enclave at count) old now bytes × (length bytes ≡ count)
    × ((place : ℕ) (first : List ℕ) → IsBlock before block place first → after ≡ record before { blocks = slice_set before.blocks place (with_bytes_at first 0 bytes) })
loading_all at block count i old now before after p e = (p.out, loads_end Enclave at count i p.out old now p.leads e p.size, p.size, p.set)

-- the log is full, and some bytes are to come
pub loading_full : (at : ℕ) (block : Block) (count i : ℕ) (old now new : PortState) (before after : Memory)
    → IsLoading at block count i old now before after → i < count → IsFull new → new ≡ now → StopsFull (loads Enclave at count) old new
loading_full at block count i old now new before after p h full e =
    loads_full Enclave at count i (λ bytes. ret (take i p.out ++ bytes)) old new
    (subst (λ w. Leads (loads Enclave at count) old w (and_then (loads Enclave (at + i) (count - i)) (λ bytes. ret (take i p.out ++ bytes)))) (sym e) p.leads) h full

-- the last unit of what came back is set to 0
pub ended_start : (first these : List ℕ) (count unit : ℕ) → length these ≡ count → unit ≤ count
    → with_bytes_at (with_bytes_at first 0 these) (count - unit) (replicate unit 0) ≡ with_bytes_at first 0 (terminated_text unit these)
ended_start first these count unit n h =
    let rest : List ℕ = drop (length these) first in
    let zeros : List ℕ = replicate unit 0 in
    let zero_count : length zeros ≡ unit = length-replicate unit 0 in
    let low : count - unit ≤ length these = omega (arith, n) in
    let end : (count - unit) + length zeros ≡ length these = omega (arith, n, h, zero_count) in
    let kept : take (count - unit) (these ++ rest) ≡ take (length these - unit) these = take-append-le (count - unit) these rest low ∙ ap (λ k. take (k - unit) these) (sym n) in
    let cut = length-take (length these - unit) these in
    let joined : length (take (length these - unit) these ++ zeros) ≡ length (take (length these - unit) these) + length zeros = length-append (take (length these - unit) these) zeros in
    let size : length (terminated_text unit these) ≡ length these = omega (arith, cut, joined, zero_count, n, h) in
    ap (λ l. with_bytes_at l (count - unit) zeros) (start_form first these)
    ∙ ap (λ l. l ++ zeros ++ drop ((count - unit) + length zeros) (these ++ rest)) kept
    ∙ ap (λ k. take (length these - unit) these ++ zeros ++ drop k (these ++ rest)) end
    ∙ ap (λ l. take (length these - unit) these ++ zeros ++ l) (drop-append_seam these rest)
    ∙ ap (λ k. terminated_text unit these ++ drop k first) (sym size)
    ∙ sym (start_form first (terminated_text unit these))

pub ended_length : (these : List ℕ) (unit : ℕ) → unit ≤ length these → length (terminated_text unit these) ≡ length these
ended_length these unit h =
    let zeros : List ℕ = replicate unit 0 in
    let zero_count : length zeros ≡ unit = length-replicate unit 0 in
    let cut = length-take (length these - unit) these in
    let joined : length (take (length these - unit) these ++ zeros) ≡ length (take (length these - unit) these) + length zeros = length-append (take (length these - unit) these) zeros in
    omega (arith, cut, joined, zero_count, h)

-- the block holds what was loaded
pub first_loaded : (b : Block) (before after : Memory) (bytes : List ℕ) (place : ℕ) (first : List ℕ) → length bytes ≤ b.length → IsBlock before b place first
    → after ≡ record before { blocks = slice_set before.blocks place (with_bytes_at first 0 bytes) } → IsBlock after b place (with_bytes_at first 0 bytes)
first_loaded b before after bytes place first fits is set =
    let w : length bytes ≤ length first = omega (arith, fits, is.length_is) in
    written_block before after b place first (with_bytes_at first 0 bytes) is (start_length first bytes w) set

pub loaded_live : (b : Block) (before after : Memory) (bytes : List ℕ) → length bytes ≤ b.length → IsLive before b
    → ((place : ℕ) (first : List ℕ) → IsBlock before b place first → after ≡ record before { blocks = slice_set before.blocks place (with_bytes_at first 0 bytes) }) → IsLive after b
loaded_live b before after bytes fits live set =
    let (place, first, is) = live in
    (place, with_bytes_at first 0 bytes, first_loaded b before after bytes place first fits is (set place first is))

-- no byte is loaded of a buffer that has none or is not copied back
empty_load : (out : Bool) (at count : ℕ) → (count ≡ 0) ⊎ (out ≡ false) → (if out && not (count == 0) then map_value (λ (these : List ℕ). Some these) (loads Enclave at count) else ret None) ≡ ret None
empty_load false at count e = refl
empty_load true at zero e = refl
empty_load true at (suc count) (inl e) = cc
empty_load true at (suc count) (inr e) = cc

pub none_back : (class : Class) (b : Block) (at count : ℕ) (now : PortState) (m : Memory) → (count ≡ 0) ⊎ (is_out class ≡ false)
    → (these : Option (List ℕ)) × Makes (buffer_load class at count) now now these × IsBackIn class b these m m
none_back class b at count now m e = (
  None,
  subst (λ t. Makes t now now None) (sym (empty_load (is_out class) at count e)) (makes_ret None now),
  λ place block is. (refl, ap (λ (l : List (List ℕ)). record m { blocks = l }) (sym (set_again m.blocks place block is.bytes_are))),
)

-- the loads of a buffer that is copied back
whole_load : (class : Class) (at count : ℕ) → is_out class ≡ true → 0 < count → map_value (λ these. Some these) (loads Enclave at count) ≡ buffer_load class at count
whole_load class at count out some =
    let all : Interaction (Option (List ℕ)) = map_value (λ these. Some these) (loads Enclave at count) in
    let no : (count == 0) ≡ false = not_zero (count == 0) refl in
    ap (λ b. if b && not false then all else ret None) (sym out) ∙ ap (λ b. if is_out class && not b then all else ret None) (sym no)
  where
    not_zero : (b : Bool) → (count == 0) ≡ b → (count == 0) ≡ false
    not_zero true e = let none : count ≡ 0 = eqb-true count 0 e in absurd (omega (arith, none, some))
    not_zero false e = e

pub block_stops : (class : Class) (at count : ℕ) (old new : PortState) → is_out class ≡ true → 0 < count → StopsFull (loads Enclave at count) old new → StopsFull (buffer_load class at count) old new
block_stops class at count old new out some p =
    subst (λ t. StopsFull t old new) (whole_load class at count out some) (full_first (loads Enclave at count) (λ these. ret (Some these)) old new p)

pub block_makes : (class : Class) (at count : ℕ) (old new : PortState) (bytes : List ℕ) → is_out class ≡ true → 0 < count → Makes (loads Enclave at count) old new bytes
    → Makes (buffer_load class at count) old new (Some bytes)
block_makes class at count old new bytes out some p =
    subst (λ t. Makes t old new (Some bytes)) (whole_load class at count out some) (makes_then (loads Enclave at count) (λ these. ret (Some these)) old new new bytes (Some bytes) p (makes_ret (Some bytes) new))

-- the bytes of what is no string came back
pub plain_back : (class : Class) (b : Block) (before after : Memory) (bytes : List ℕ) → is_text class ≡ false → length bytes ≤ b.length
    → ((place : ℕ) (first : List ℕ) → IsBlock before b place first → after ≡ record before { blocks = slice_set before.blocks place (with_bytes_at first 0 bytes) })
    → IsBackIn class b (Some bytes) before after
plain_back class b before after bytes plain fits set = λ place block is.
    let w : length bytes ≤ length block = omega (arith, fits, is.length_is) in
    let same : bytes ≡ (if is_text class then terminated_text (unit_of class) bytes else bytes) = ap (λ t. if t then terminated_text (unit_of class) bytes else bytes) (sym plain) in
    subst (λ l. (length (with_bytes_at block 0 l) ≡ length block) × (after ≡ record before { blocks = slice_set before.blocks place (with_bytes_at block 0 l) })) same
    (start_length block bytes w, set place block is)

-- a string came back, and its last unit was set to 0
pub text_back : (class : Class) (b : Block) (before between after : Memory) (bytes : List ℕ) (count unit : ℕ) → is_text class ≡ true → unit ≡ unit_of class → unit ≤ count → length bytes ≡ count → count ≤ b.length
    → ((place : ℕ) (first : List ℕ) → IsBlock before b place first → between ≡ record before { blocks = slice_set before.blocks place (with_bytes_at first 0 bytes) })
    → ((place : ℕ) (first : List ℕ) → IsBlock between b place first → after ≡ record between { blocks = slice_set between.blocks place (with_bytes_at first (count - unit) (replicate unit 0)) })
    → IsBackIn class b (Some bytes) before after
text_back class b before between after bytes count unit text unit_is within size fits set ends = λ place block is.
    let low : length bytes ≤ b.length = omega (arith, size, fits) in
    let unit_within : unit ≤ length bytes = omega (arith, size, within) in
    let count_is : length (terminated_text unit bytes) ≡ length bytes = ended_length bytes unit unit_within in
    let w : length (terminated_text unit bytes) ≤ length block = omega (arith, count_is, size, fits, is.length_is) in
    let same : terminated_text unit bytes ≡ (if is_text class then terminated_text (unit_of class) bytes else bytes) =
    ap (λ u. terminated_text u bytes) unit_is ∙ ap (λ t. if t then terminated_text (unit_of class) bytes else bytes) (sym text) in
    subst (λ l. (length (with_bytes_at block 0 l) ≡ length block) × (after ≡ record before { blocks = slice_set before.blocks place (with_bytes_at block 0 l) })) same (
      start_length block (terminated_text unit bytes) w,
      ends place (with_bytes_at block 0 bytes) (first_loaded b before between bytes place block low is (set place block is))
          ∙ ap (λ (l : List ℕ). record between { blocks = slice_set between.blocks place l }) (ended_start block bytes count unit size within)
          ∙ ap (λ (m : Memory). record m { blocks = slice_set m.blocks place (with_bytes_at block 0 (terminated_text unit bytes)) }) (set place block is)
          ∙ ap (λ (l : List (List ℕ)). record before { blocks = l }) (set-set before.blocks place (with_bytes_at block 0 bytes) (with_bytes_at block 0 (terminated_text unit bytes))),
    )
