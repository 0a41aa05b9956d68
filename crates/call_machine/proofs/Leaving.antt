-- An entry that leaves the call stack, with its blocks.
use Rattle.std.proofs.Common.{ℕ, ◌+◌, ◌*◌, ◌≡◌, ◌≤◌, List, [], ◌∷◌, ◌++◌, length, take, drop, ap, sym, ◌∙◌, subst, arith, length-append}
use Rattle.std.proofs.Math.Seq.{take-append_seam}
use Rattle.enclave_memory.specs.Memory.{Memory, taken_by}
use Rattle.bridge_program.specs.Entry.{Entered}
use Rattle.call_machine.specs.declared.admission.Marks.{Marks}
use Rattle.call_machine.specs.Admitted.{LiesOn}
use Rattle.call_machine.specs.Entry.{HasGrown}
use Rattle.call_machine.specs.Tcs.{TcsState}

-- the mark before the blocks, and their pop
grown_mark : (before after : Memory) → HasGrown before after → taken_by before.blocks ≡ taken_by (take (length before.blocks) after.blocks)
grown_mark before after g =
    ap (λ b. taken_by b) (sym (take-append_seam before.blocks g.pushed)) ∙ ap (λ (m : Memory). taken_by (take (length before.blocks) m.blocks)) (sym g.grown)

grown_popped : (before between after : Memory) → HasGrown before between
    → ((k : ℕ) → k ≤ length between.blocks → taken_by before.blocks ≡ taken_by (take k between.blocks) → after ≡ record between { blocks = take k between.blocks }) → after ≡ before
grown_popped before between after g w =
    let l : length between.blocks ≡ length (before.blocks ++ g.pushed) = ap (λ (m : Memory). length m.blocks) g.grown in
    let n : length (before.blocks ++ g.pushed) ≡ length before.blocks + length g.pushed = length-append before.blocks g.pushed in
    let k : length before.blocks ≤ length between.blocks = omega (arith, l, n) in
    w (length before.blocks) k (grown_mark before between g)
    ∙ ap (λ (m : Memory). record m { blocks = take (length before.blocks) m.blocks }) g.grown
    ∙ ap (λ (i : List (List ℕ)). record before { blocks = i }) (take-append_seam before.blocks g.pushed)

-- what a pop to a mark does
abbrev IsPopped : Memory → Memory → ℕ → Type 0
IsPopped between after mark = (k : ℕ) → k ≤ length between.blocks → mark ≡ taken_by (take k between.blocks) → after ≡ record between { blocks = take k between.blocks }

module _ (before now : TcsState) (ordinal : ℕ) (marks : Marks) (lies : LiesOn before now ordinal marks) where
  pub arena_marked : (k : ℕ) × (marks.arena ≡ taken_by (take k now.arena.blocks))
  arena_marked = (length before.arena.blocks, lies.arena_mark ∙ grown_mark before.arena now.arena lies.arena)

  pub frames_marked : (k : ℕ) × (marks.frames ≡ taken_by (take k now.frames.blocks))
  frames_marked = (length before.frames.blocks, lies.frames_mark ∙ grown_mark before.frames now.frames lies.frames)

  pub arena_popped : (after : Memory) → IsPopped now.arena after marks.arena → after ≡ before.arena
  arena_popped after w = grown_popped before.arena now.arena after lies.arena (λ k within mark. w k within (lies.arena_mark ∙ mark))

  pub frames_popped : (after : Memory) → IsPopped now.frames after marks.frames → after ≡ before.frames
  frames_popped after w = grown_popped before.frames now.frames after lies.frames (λ k within mark. w k within (lies.frames_mark ∙ mark))

  stack_left : (stack : List Entered) → stack ≡ drop 1 now.stack → stack ≡ before.stack
  stack_left stack e = e ∙ ap (λ (t : TcsState). drop 1 t.stack) lies.grown

  module _ (stack : List Entered) (frames arena : Memory) (stack_is : stack ≡ drop 1 now.stack) (frames_are : IsPopped now.frames frames marks.frames)
      (arena_is : IsPopped now.arena arena marks.arena) where
    -- all is as before, but for the waiting looks
    pub left : record now { stack = stack; frames = frames; arena = arena } ≡ record before { waits = now.waits }
    left =
        ap (λ (t : TcsState). record t { stack = stack; frames = frames; arena = arena; waits = now.waits }) lies.grown
        ∙ ap (λ (s : List Entered). record before { stack = s; frames = frames; arena = arena; waits = now.waits }) (stack_left stack stack_is)
        ∙ ap (λ (f : Memory). record before { frames = f; arena = arena; waits = now.waits }) (frames_popped frames frames_are)
        ∙ ap (λ (a : Memory). record before { arena = a; waits = now.waits }) (arena_popped arena arena_is)

    -- and the frames take no more than the entries may
    pub still_small : now.frames.size ≡ 16384 → (frames.size ≡ 16384) × (taken_by frames.blocks ≤ 1024 * length stack)
    still_small size = (
      ap (λ (f : Memory). f.size) (frames_popped frames frames_are) ∙ sym (ap (λ (f : Memory). f.size) lies.frames.grown) ∙ size,
      subst (λ (f : Memory). taken_by f.blocks ≤ 1024 * length stack) (sym (frames_popped frames frames_are))
          (subst (λ (s : List Entered). taken_by before.frames.blocks ≤ 1024 * length s) (sym (stack_left stack stack_is)) lies.least),
    )
