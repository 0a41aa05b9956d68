use Rattle.std.proofs.Common.{ℕ, ◌+◌, ◌≡◌, List, ap, sym, ◌∙◌, subst, Ok, sum}
use Rattle.enclave_memory.specs.Arguments.{Argument, arguments_in}
use Rattle.ocall_frames.specs.Contents.{AreArguments}
use Rattle.ocall_frames.proofs.ArgumentLaws.{passed_are, checked_refused, checked_allowed}
use Rattle.ocall_frames.proofs.arguments.check_args.Goals as goal

pub returns-in-None : goal.returns-in-None
returns-in-None c = λ passed are.
    let arguments : List Argument = arguments_in c.args.arena.now passed in
    let these : AreArguments c.args.arena.now c.as_slice.result.now arguments =
    subst (λ l. AreArguments c.args.arena.now l arguments) (sym c.as_slice.ensures.value) (passed_are c.args.arena.now c.args.args.now.items passed are) in
    sym (checked_refused c.args.function.now arguments (sym (c.in-None.ensures.lengths arguments these)))

pub returns-in-Some : goal.returns-in-Some
returns-in-Some c = λ passed are.
    let arguments : List Argument = arguments_in c.args.arena.now passed in
    let own : AreArguments c.args.arena.now c.args.args.now.items arguments = passed_are c.args.arena.now c.args.args.now.items passed are in
    let these : AreArguments c.args.arena.now c.as_slice.result.now arguments = subst (λ l. AreArguments c.args.arena.now l arguments) (sym c.as_slice.ensures.value) own in
    let whole : c.total.result ≡ sum c.in-Some.lengths.items = c.total.ensures.sum ∙ ap (λ (l : List ℕ). sum l) c.as_slice-in-Some.ensures.value in
    ap (λ n. Ok (c.args.function.now.frame_size + n)) whole
    ∙ sym (checked_allowed c.args.function.now arguments c.args.arena.now c.args.args.now.items c.in-Some.lengths.items own c.requires.kinds (sym (c.in-Some.ensures.lengths arguments these)))
