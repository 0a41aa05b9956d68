use Rattle.body_vm.proofs.TempLaws.{begun}
use Rattle.body_vm.proofs.blocks.begin.Goals as goal

pub returns-clause-begun : goal.returns-clause-begun
returns-clause-begun c = λ numbers held.
    begun c.args.arena.now c.push_block-block.new.self c.args.blocks.now.items c.set_block.new.blocks.items numbers
    c.args.place c.args.length c.push_block-block.result held
    c.push_block-block.ensures.pushed c.push_block-block.ensures.fits c.set_block.ensures
