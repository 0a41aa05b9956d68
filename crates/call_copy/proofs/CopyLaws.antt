-- Laws of the copy of one parameter.
use Rattle.std.proofs.Common.{ℕ, ◌≡◌, ◌<◌, ◌≤◌, Bool, true, false, not, nat_lt, if◌then◌else◌, List, [], ◌∷◌, length, replicate, Option, Some, None, Result, Ok, Err, ap, sym, ◌∙◌, subst, arith, slice_set, IfOk, IfErr}
use Rattle.std.proofs.lemmas.List.{length-replicate}
use Rattle.sgx_base.specs.Bytes.{is_divisible, rounded_size}
use Rattle.sgx_base.specs.Passing.{is_inward}
use Rattle.sgx_base.specs.Rows.{first_row}
use Rattle.sgx_base.specs.declared.Status.{Status}
use Rattle.sgx_base.specs.declared.TheConstants.Status.{INVALID_PARAMETER, OUT_OF_MEMORY}
use Rattle.enclave_memory.specs.declared.Block.{Block}
use Rattle.enclave_memory.specs.Memory.{Memory, IsBlock, IsPush}
use Rattle.enclave_memory.proofs.Blocks.{same_bytes, pushed_block, push_written}
use Rattle.word_port.specs.declared.Side.TheVariants.{Enclave}
use Rattle.word_port.specs.declared.RunFull.TheVariants.{Steps}
use Rattle.word_port.specs.Accesses.{loads, stores}
use Rattle.word_port.specs.Port.{PortState}
use Rattle.word_port.specs.Interaction.{ret}
use Rattle.word_port.specs.Runs.{Makes, StopsFull}
use Rattle.word_port.proofs.Laws.{makes_ret, makes_then, full_first}
use Rattle.call_copy.specs.declared.Shape.{Shape}
use Rattle.call_copy.specs.declared.CopyStop.{CopyStop}
use Rattle.call_copy.specs.declared.CopyStop.TheVariants.{Refused, Full}
use Rattle.call_copy.specs.Copies.{block_rows, first_bytes, checked_bytes, copy_unless, copy_in, copy_out}
use Rattle.call_copy.specs.Stops.{MatchStop}
use Rattle.call_copy.proofs.Fetches.{set_again}

-- the rows, by their tests
abbrev decided : Bool → Bool → Option Status
decided divisible large = first_row (record { holds = not divisible; status = INVALID_PARAMETER } ∷ record { holds = large; status = OUT_OF_MEMORY } ∷ [])

pub row_none : (shape : Shape) (n room : ℕ) → is_divisible n shape.unit ≡ true → rounded_size n ≤ room → first_row (block_rows shape n room) ≡ None
row_none shape n room d f =
    let e : nat_lt room (rounded_size n) ≡ false = grind arith in
    ap (λ b. decided b (nat_lt room (rounded_size n))) d ∙ ap (λ b. decided true b) e

pub row_divisible : (shape : Shape) (n room : ℕ) → is_divisible n shape.unit ≡ false → first_row (block_rows shape n room) ≡ Some INVALID_PARAMETER
row_divisible shape n room d = ap (λ b. decided b (nat_lt room (rounded_size n))) d

pub row_room : (shape : Shape) (n room : ℕ) → is_divisible n shape.unit ≡ true → room < rounded_size n → first_row (block_rows shape n room) ≡ Some OUT_OF_MEMORY
row_room shape n room d f =
    let e : nat_lt room (rounded_size n) ≡ true = grind arith in
    ap (λ b. decided b (nat_lt room (rounded_size n))) d ∙ ap (λ b. decided true b) e

pub copied_refused : (shape : Shape) (at n room : ℕ) (status : Status) (old new : PortState) → first_row (block_rows shape n room) ≡ Some status → new ≡ old
    → Makes (copy_in shape at n room) old new (Err status)
unfolding copy_in
copied_refused shape at n room status old new e same =
    subst (λ r. Makes (copy_unless r shape at n) old new (Err status)) (sym e) (subst (λ p. Makes (copy_unless (Some status) shape at n) old p (Err status)) (sym same) (makes_ret (Err status) old))

pub copied_full : (shape : Shape) (at n room : ℕ) (old new : PortState) → first_row (block_rows shape n room) ≡ None → StopsFull (first_bytes shape at n) old new
    → StopsFull (copy_in shape at n room) old new
unfolding copy_in
copied_full shape at n room old new e p =
    subst (λ r. StopsFull (copy_unless r shape at n) old new) (sym e) (full_first (first_bytes shape at n) (λ bytes. ret (checked_bytes shape bytes)) old new p)

pub copied_all : (shape : Shape) (at n room : ℕ) (bytes : List ℕ) (old new : PortState) → first_row (block_rows shape n room) ≡ None → Makes (first_bytes shape at n) old new bytes
    → Makes (copy_in shape at n room) old new (checked_bytes shape bytes)
unfolding copy_in
copied_all shape at n room bytes old new e p =
    subst (λ r. Makes (copy_unless r shape at n) old new (checked_bytes shape bytes)) (sym e)
    (makes_then (first_bytes shape at n) (λ bytes. ret (checked_bytes shape bytes)) old new new bytes (checked_bytes shape bytes) p (makes_ret (checked_bytes shape bytes) new))

-- bytes that are no text are not checked
pub checked_plain : (shape : Shape) (bytes : List ℕ) → shape.text ≡ false → checked_bytes shape bytes ≡ Ok bytes
checked_plain shape bytes e = rw e

-- what is not copied in stays zero
pub left_zero : (shape : Shape) (at : ℕ) (block : Block) (k : ℕ) (m : Memory) (now : PortState) → is_inward shape.way ≡ false → IsBlock m block k (replicate block.length 0)
    → (bytes : List ℕ) × Makes (first_bytes shape at block.length) now now bytes × (block.length ≡ length bytes)
    × ((number : ℕ) (first : List ℕ) → IsBlock m block number first → m ≡ record m { blocks = slice_set m.blocks number bytes })
left_zero shape at block k m now e b = (
  replicate block.length 0,
  subst (λ way. Makes (if way then loads Enclave at block.length else ret (replicate block.length 0)) now now (replicate block.length 0)) (sym e) (makes_ret (replicate block.length 0) now),
  b.length_is,
  λ number first p. ap (λ (i : List (List ℕ)). record m { blocks = i }) (sym (ap (λ x. slice_set m.blocks number x) (same_bytes m block k number (replicate block.length 0) first b p) ∙ set_again m.blocks number first p.bytes_are)),
)

-- a pushed block of zeros, by its own length
pub pushed_zeros : (before after : Memory) (block : Block) (n : ℕ) → IsPush before after block (replicate n 0) → (number : ℕ) × IsBlock after block number (replicate block.length 0)
pushed_zeros before after block n p =
    let l : n ≡ block.length = sym (length-replicate n 0) ∙ sym p.length_is in
    (length before.blocks, subst (λ k. IsBlock after block (length before.blocks) (replicate k 0)) l (pushed_block before after block (replicate n 0) p))

pub filled_block : (shape : Shape) (at n : ℕ) (block : Block) (before between after : Memory) (old new : PortState) → IsPush before between block (replicate n 0)
    → ((bytes : List ℕ) × Makes (first_bytes shape at block.length) old new bytes × (block.length ≡ length bytes)
    × ((number : ℕ) (first : List ℕ) → IsBlock between block number first → after ≡ record between { blocks = slice_set between.blocks number bytes }))
    → (block.length ≡ n) × ((bytes : List ℕ) × Makes (first_bytes shape at n) old new bytes × IsPush before after block bytes)
filled_block shape at n block before between after old new p q =
    let l : block.length ≡ n = p.length_is ∙ length-replicate n 0 in
    (l, (q.0, subst (λ k. Makes (first_bytes shape at k) old new q.0) l q.1, push_written before between after block (replicate n 0) q.0 p q.2 q.3))

pub plain_copied : (r : Result Block CopyStop) (shape : Shape) (at n room : ℕ) (old new : PortState) (before after : Memory) → shape.text ≡ false
    → IfOk r (λ block. (first_row (block_rows shape n room) ≡ None) × (block.length ≡ n) × ((bytes : List ℕ) × Makes (first_bytes shape at n) old new bytes × IsPush before after block bytes))
    → IfOk r (λ block. (bytes : List ℕ) × Makes (copy_in shape at n room) old new (Ok bytes) × IsPush before after block bytes)
plain_copied (Ok block) shape at n room old new before after e p =
    (p.2.0, subst (λ x. Makes (copy_in shape at n room) old new x) (checked_plain shape p.2.0 e) (copied_all shape at n room p.2.0 old new p.0 p.2.1), p.2.2)
plain_copied (Err stop) shape at n room old new before after e p = tt

pub plain_stopped : (r : Result Block CopyStop) (shape : Shape) (at n room : ℕ) (old new : PortState) (before after : Memory)
    → IfErr r (λ stop. MatchStop stop
    (λ status. (first_row (block_rows shape n room) ≡ Some status) × (new ≡ old) × (after ≡ before))
    (λ full. (first_row (block_rows shape n room) ≡ None) × (full ≡ Steps) × StopsFull (first_bytes shape at n) old new))
    → IfErr r (λ stop. MatchStop stop
    (λ status. Makes (copy_in shape at n room) old new (Err status) × (after ≡ before))
    (λ full. (full ≡ Steps) × StopsFull (copy_in shape at n room) old new))
plain_stopped (Ok block) shape at n room old new before after p = tt
plain_stopped (Err (Refused status)) shape at n room old new before after p = (copied_refused shape at n room status old new p.0 p.1, p.2)
plain_stopped (Err (Full full)) shape at n room old new before after p = (p.1, copied_full shape at n room old new p.0 p.2)

-- bytes that are no text are put back whole
pub plain_back : (shape : Shape) (at : ℕ) (bytes back : List ℕ) → shape.text ≡ false → back ≡ bytes → stores Enclave at back ≡ copy_out shape at bytes
unfolding copy_out
plain_back shape at bytes back e same = rw (e, same)
