use Rattle.std.proofs.Common.{ℕ, ◌-◌, ◌∙◌, List, slice_set, ap}
use Rattle.std.proofs.lemmas.List.{take-replicate}
use Rattle.sgx_base.specs.Bytes.{with_bytes_at}
use Rattle.ocall_frames.proofs.reply.end_text.Goals as goal

pub returns : goal.returns
returns c = λ place first is.
    c.write.ensures.number place first is
    ∙ ap (λ (l : List ℕ). record c.args.arena.now { blocks = slice_set c.args.arena.now.blocks place (with_bytes_at first (c.args.count - c.args.unit) l) }) (take-replicate c.args.unit 4 0 c.requires.few)
