use Rattle.std.proofs.Common.{◌<◌, ◌∙◌, ap, length, arith, slice_set}
use Rattle.body_vm.proofs.WriteLaws.{with_byte}
use Rattle.body_vm.proofs.blocks.write_byte.Goals as goal

pub returns : goal.returns
returns c = λ number bytes b.
    let w : c.args.at < length bytes = omega (arith, c.requires.within, b.length_is) in
    c.write.ensures.number number bytes b ∙ ap (λ x. record c.args.arena.now { blocks = slice_set c.args.arena.now.blocks number x }) (with_byte bytes c.args.at c.args.byte w)
