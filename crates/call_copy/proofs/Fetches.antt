-- Loads into a block, byte by byte.
use Rattle.std.proofs.Common.{ℕ, zero, suc, ◌+◌, ◌-◌, ◌<◌, ◌≡◌, List, [], ◌∷◌, ◌++◌, length, take, drop, Some, slice_get, slice_set, refl, ap, sym, ◌∙◌, subst, arith, append_assoc}
use Rattle.std.proofs.lemmas.List.{set-set, set_split, length-set}
use Rattle.sgx_base.specs.Bytes.{with_bytes_at}
use Rattle.enclave_memory.specs.declared.Block.{Block}
use Rattle.enclave_memory.specs.Memory.{Memory, IsBlock, IsLive, IsWrite}
use Rattle.enclave_memory.proofs.Blocks.{same_bytes, write_is, written_block}
use Rattle.word_port.specs.declared.Side.{Side}
use Rattle.word_port.specs.Port.{PortState, IsFull}
use Rattle.word_port.specs.Requests.{load_of}
use Rattle.word_port.specs.Interaction.{ret, and_then}
use Rattle.word_port.specs.Accesses.{word_at, loads}
use Rattle.word_port.specs.Runs.{Leads, Makes, StopsFull}
use Rattle.word_port.proofs.AccessLaws.{IsAnswerOf, loads_begin, loads_more, loads_full, loads_end}

-- so many bytes are loaded into the block
pub record IsFetched (side : Side) (at : ℕ) (block : Block) (i : ℕ) (old now : PortState) (before after : Memory) : Type 0 where
  pub live : IsLive before block
  pub out : List ℕ
  pub count : length out ≡ block.length
  pub set : (number : ℕ) (first : List ℕ) → IsBlock before block number first → after ≡ record before { blocks = slice_set before.blocks number out }
  pub leads : Leads (loads side at block.length) old now (and_then (loads side (at + i) (block.length - i)) (λ bytes. ret (take i out ++ bytes)))

-- a block that is set to its own bytes
pub set_again : (xs : List (List ℕ)) (k : ℕ) (x : List ℕ) → slice_get xs k ≡ Some x → slice_set xs k x ≡ xs
set_again [] k x e = refl
set_again (y ∷ xs) zero x e = let q : y ≡ x = cc in ap (λ z. z ∷ xs) (sym q)
set_again (y ∷ xs) (suc k) x e = ap (λ l. y ∷ l) (set_again xs k x e)

pub fetched_none : (side : Side) (at : ℕ) (block : Block) (now : PortState) (m : Memory) → IsLive m block → IsFetched side at block 0 now now m m
fetched_none side at block now m live =
    let (number, bytes, b) = live in
    record {
      live = live;
      out = bytes;
      count = sym b.length_is;
      set = λ k first p. ap (λ (l : List (List ℕ)). record m { blocks = l }) (sym (ap (λ x. slice_set m.blocks k x) (same_bytes m block number k bytes first b p) ∙ set_again m.blocks k first p.bytes_are));
      leads = loads_begin side at block.length bytes now;
    }

-- the block while its bytes are loaded
fetched_block : (side : Side) (at : ℕ) (block : Block) (i : ℕ) (old now : PortState) (before after : Memory) (p : IsFetched side at block i old now before after)
    (number : ℕ) (first : List ℕ) → IsBlock before block number first → IsBlock after block number p.out
fetched_block side at block i old now before after p number first b = written_block before after block number first p.out b (p.count ∙ b.length_is) (p.set number first b)

fetched_write : (side : Side) (at : ℕ) (block : Block) (i : ℕ) (old now : PortState) (before after : Memory) (p : IsFetched side at block i old now before after) → IsWrite before after block p.out
fetched_write side at block i old now before after p =
    let (number, first, b) = p.live in
    write_is before after block number first p.out b (p.count ∙ b.length_is) (p.set number first b)

pub fetched_live : (side : Side) (at : ℕ) (block : Block) (i : ℕ) (old now : PortState) (before after : Memory) → IsFetched side at block i old now before after → IsLive after block
fetched_live side at block i old now before after p =
    let (number, first, b) = p.live in
    (number, p.out, fetched_block side at block i old now before after p number first b)

one_byte : (out : List ℕ) (i b : ℕ) → i < length out → with_bytes_at out i (b ∷ []) ≡ slice_set out i b
one_byte out i b h =
    let s : i + 1 ≡ suc i = omega arith in
    append_assoc (take i out) (b ∷ []) (drop (i + 1) out) ∙ ap (λ k. take i out ++ b ∷ drop k out) s ∙ sym (set_split out i b h)

-- one more byte is loaded, and written into the block
pub fetched_more : (side : Side) (at : ℕ) (block : Block) (i b : ℕ) (old mid new : PortState) (before between after : Memory)
    → IsFetched side at block i old mid before between → i < block.length → IsAnswerOf (load_of side (word_at (at + i))) b mid new
    → ((number : ℕ) (bytes : List ℕ) → IsBlock between block number bytes → after ≡ record between { blocks = slice_set between.blocks number (with_bytes_at bytes i (b ∷ [])) })
    → IsFetched side at block (i + 1) old new before after
fetched_more side at block i b old mid new before between after p h q w =
    let below : i < length p.out = omega (arith, h, p.count) in
    record {
      live = p.live;
      out = slice_set p.out i b;
      count = length-set p.out i b ∙ p.count;
      set = λ number first is.
          w number p.out (fetched_block side at block i old mid before between p number first is)
          ∙ ap (λ (l : List ℕ). record between { blocks = slice_set between.blocks number l }) (one_byte p.out i b below)
          ∙ ap (λ (m : Memory). record m { blocks = slice_set m.blocks number (slice_set p.out i b) }) (p.set number first is)
          ∙ ap (λ (l : List (List ℕ)). record before { blocks = l }) (set-set before.blocks number p.out (slice_set p.out i b));
      leads = loads_more side at block.length i b p.out old mid new p.leads h p.count q;
    }

-- all bytes are loaded
pub fetched_all : (side : Side) (at : ℕ) (block : Block) (i : ℕ) (old now : PortState) (before after : Memory)
    → IsFetched side at block i old now before after → i ≡ block.length
    → (bytes : List ℕ) × Makes (loads side at block.length) old now bytes × IsWrite before after block bytes
    × ((number : ℕ) (first : List ℕ) → IsBlock before block number first → after ≡ record before { blocks = slice_set before.blocks number bytes })
fetched_all side at block i old now before after p e =
    (p.out, loads_end side at block.length i p.out old now p.leads e p.count, fetched_write side at block i old now before after p, p.set)

-- the log is full, and some bytes are to come
pub fetched_full : (side : Side) (at : ℕ) (block : Block) (i : ℕ) (old now new : PortState) (before after : Memory)
    → IsFetched side at block i old now before after → i < block.length → IsFull new → new ≡ now → StopsFull (loads side at block.length) old new
fetched_full side at block i old now new before after p h full e =
    loads_full side at block.length i (λ bytes. ret (take i p.out ++ bytes)) old new
    (subst (λ w. Leads (loads side at block.length) old w (and_then (loads side (at + i) (block.length - i)) (λ bytes. ret (take i p.out ++ bytes)))) (sym e) p.leads) h full

-- whatever was loaded, no other block has changed
pub fetched_kept : (side : Side) (at : ℕ) (block : Block) (i : ℕ) (old now : PortState) (before after : Memory) → IsFetched side at block i old now before after
    → (number : ℕ) (first : List ℕ) → IsBlock before block number first → (bytes : List ℕ) × (length bytes ≡ length first) × (after ≡ record before { blocks = slice_set before.blocks number bytes })
fetched_kept side at block i old now before after p number first b = (p.out, p.count ∙ b.length_is, p.set number first b)
