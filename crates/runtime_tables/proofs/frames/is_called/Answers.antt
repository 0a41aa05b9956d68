use Rattle.std.proofs.Common.{ℕ, ◌≤◌, ◌≡◌, false, subst, List, length, refl, arith}
use Rattle.std.proofs.lemmas.List.{get_or-replicate}
use Rattle.edl_interface.specs.declared.Function.{Function}
use Rattle.edl_interface.specs.declared.Param.{Param}
use Rattle.edl_interface.specs.Runnable.{IsRunnableFunction}
use Rattle.enclave_memory.specs.declared.Arg.{Arg}
use Rattle.enclave_memory.specs.declared.Block.{Block}
use Rattle.enclave_memory.specs.Arguments.{ArePassed, Passed}
use Rattle.enclave_memory.specs.Memory.{Memory, IsLive, IsPush}
use Rattle.enclave_memory.proofs.Blocks.{pushed_block, push_keeps}
use Rattle.ocall_frames.specs.Arguments.{AreOfKinds, MayCall}
use Rattle.ocall_frames.specs.Replies.{KeepsBlocks}
use Rattle.runtime_tables.proofs.frames.is_called.Goals as goal

module _ (before between after : Memory) (first second : Block) (bytes others : List ℕ)
    (one : IsPush before between first bytes) (two : IsPush between after second others) where
  live_first : IsLive after first
  live_first = (
    length before.blocks,
    bytes,
    push_keeps between after second first others bytes (length before.blocks) two
        (pushed_block before between first bytes one),
  )

  live_second : IsLive after second
  live_second = (length between.blocks, others, pushed_block between after second others two)

  may_call : (f : Function) (args : List Arg) {params : List Param} {items : List Arg} → IsRunnableFunction false f
      → f.frame_size ≤ 1024 → AreOfKinds params items → params ≡ f.params → items ≡ args
      → ((arena : Memory) → IsLive arena first → IsLive arena second → (passed : List Passed) × ArePassed arena args passed)
      → MayCall f args after
  may_call f args {params} {items} runs small kinds here there live = record {
    runs = runs;
    small = small;
    kinds = subst (λ ps. AreOfKinds ps args) here (subst (λ items. AreOfKinds params items) there kinds);
    live = live after live_first live_second;
  }

keeps_live : (before now : Memory) (block : Block) → KeepsBlocks before now → IsLive before block → IsLive now block
keeps_live before now block keeps (place, bytes, is) =
    let (current, there, same) = keeps.blocks block place bytes is in
    (place, current, there)

pub check_args-requires : goal.check_args-requires
check_args-requires c =
    may_call _ _ _ _ _ _ _ c.in-Some.ensures c.in-Some-push_bytes.ensures _ _
    (c.if-not-is_runnable.ensures.runs refl) (c.if-not-is_runnable.ensures.small refl)
    (c.if-not-are_of_kinds.ensures refl) c.as_slice.ensures c.as_slice-else-not-is_runnable.ensures.value
    c.args_of-args.ensures

pub new-requires-2-clause-bytes : goal.new-requires-2-clause-bytes
new-requires-2-clause-bytes c = λ k h.
    let z = get_or-replicate {A = ℕ} 256 k 0xee 0 h in
    omega (arith, z)

pub write_frame-requires-clause-call : goal.write_frame-requires-clause-call
write_frame-requires-clause-call c =
    may_call _ _ _ _ _ _ _ c.in-Some.ensures c.in-Some-push_bytes.ensures _ _
    (c.if-not-is_runnable.ensures.runs refl) (c.if-not-is_runnable.ensures.small refl)
    (c.if-not-are_of_kinds.ensures refl) c.as_slice.ensures c.as_slice-else-not-is_runnable.ensures.value
    c.args_of-args.ensures

pub read_reply-requires-clause-call : goal.read_reply-requires-clause-call
read_reply-requires-clause-call c =
    may_call _ _ _ _ _ _ _ c.in-Some.ensures c.in-Some-push_bytes.ensures _ _
    (c.if-not-is_runnable.ensures.runs refl) (c.if-not-is_runnable.ensures.small refl)
    (c.if-not-are_of_kinds.ensures refl) c.as_slice.ensures c.as_slice-else-not-is_runnable.ensures.value
    c.args_of-args.ensures

pub bytes-requires : goal.bytes-requires
bytes-requires c =
    keeps_live c.push_bytes-2.new.arena c.read_reply.new.arena c.in-Some.first c.in-Ok-read_reply.ensures.kept
    (live_first _ _ _ _ _ _ _ c.in-Some.ensures c.in-Some-push_bytes.ensures)

pub bytes-requires-then-eq-3 : goal.bytes-requires-then-eq-3
bytes-requires-then-eq-3 c =
    keeps_live c.push_bytes-2.new.arena c.read_reply.new.arena c.in-Some-push_bytes.second
    c.in-Ok-read_reply.ensures.kept
    (live_second _ _ _ _ _ _ _ c.in-Some.ensures c.in-Some-push_bytes.ensures)
