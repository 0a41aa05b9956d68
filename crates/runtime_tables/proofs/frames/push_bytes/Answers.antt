use Rattle.std.proofs.Common.{ℕ, ◌+◌, ◌≤◌, ◌≡◌, List, ◌++◌, length, drop, replicate, Some, slice_set, ap, sym, ◌∙◌, arith}
use Rattle.std.proofs.lemmas.List.{append-nil, drop_all, length-replicate}
use Rattle.sgx_base.specs.Bytes.{with_bytes_at}
use Rattle.enclave_memory.specs.declared.Block.{Block}
use Rattle.enclave_memory.specs.Memory.{Memory, IsBlock, IsPush}
use Rattle.enclave_memory.proofs.Blocks.{pushed_block, push_written}
use Rattle.runtime_tables.proofs.frames.push_bytes.Goals as goal

-- as many bytes over others are these bytes
all_written : (first bytes : List ℕ) → length first ≡ length bytes → with_bytes_at first 0 bytes ≡ bytes
all_written first bytes same =
    let w : length first ≤ 0 + length bytes = omega (arith, same) in
    ap (λ rest. bytes ++ rest) (drop_all (0 + length bytes) first w) ∙ append-nil bytes

-- a block that was pushed and then written was pushed with these bytes
written_push : (before between after : Memory) (block : Block) (bytes : List ℕ)
    → IsPush before between block (replicate (length bytes) 0)
    → ((number : ℕ) (first : List ℕ) → IsBlock between block number first
    → after ≡ record between { blocks = slice_set between.blocks number (with_bytes_at first 0 bytes) })
    → IsPush before after block bytes
written_push before between after block bytes push written =
    let count : length {A = ℕ} (replicate (length bytes) 0) ≡ length bytes = length-replicate (length bytes) 0 in
    let fits : block.length ≡ length bytes = push.length_is ∙ count in
    push_written before between after block (replicate (length bytes) 0) bytes push fits (λ number first is.
    written number first is
    ∙ ap (λ new. record between { blocks = slice_set between.blocks number new })
    (all_written first bytes (sym is.length_is ∙ fits)))

pub write-requires-clause-live : goal.write-requires-clause-live
write-requires-clause-live c =
    (length c.args.arena.now.blocks, _, pushed_block c.args.arena.now c.push_block.new.self c.in_ok-block.block _ c.in_ok-block.ensures.pushed)

pub returns : goal.returns
returns c =
    written_push c.args.arena.now c.push_block.new.self c.write.new.self c.in_ok-block.block c.args.bytes.now
    c.in_ok-block.ensures.pushed c.write.ensures.number
