use Rattle.std.proofs.Common.{◌+◌, ◌++◌, ◌∷◌, [], ◌∙◌, ap, sym, map, take, arith}
use Rattle.enclave_memory.specs.declared.Arg.{Arg}
use Rattle.enclave_memory.specs.Arguments.{Passed}
use Rattle.body_vm.specs.declared.Pass.{Pass}
use Rattle.body_vm.specs.State.{passed_argument}
use Rattle.body_vm.specs.Moments.{moment, state_at, handed}
use Rattle.body_vm.proofs.ArgumentLaws.{passable_at, map_more, map_twice, take_whole}
use Rattle.body_vm.proofs.requests.arguments.Goals as goal

pub argument-requires : goal.argument-requires
argument-requires c = passable_at _ _ c.args.passes.now c.loop-pass.pass-index _ c.requires.range c.loop-pass-test.true

pub loop-pass-preserved : goal.loop-pass-preserved
loop-pass-preserved c = record {
  count = omega (arith, c.push.ensures.len, c.loop-pass.invariant.count);
  are = λ numbers arena.
      let g : Passed → Arg = handed c.args.blocks.now.items in
      let f : Pass → Passed = passed_argument (state_at c.args.values.now.items (moment c.args.regs.now c.args.blocks.now.items arena) numbers) in
      c.push.ensures.items
      ∙ ap (λ xs. xs ++ c.argument.result ∷ []) (c.loop-pass.invariant.are numbers arena ∙ map_twice f g (take c.loop-pass.pass-index c.args.passes.now))
      ∙ ap (λ x. map (λ p. g (f p)) (take c.loop-pass.pass-index c.args.passes.now) ++ x ∷ []) (c.argument.ensures numbers arena)
      ∙ map_more (λ p. g (f p)) c.args.passes.now c.loop-pass.pass-index _ c.loop-pass-test.true
      ∙ sym (map_twice f g (take (c.loop-pass.pass-index + 1) c.args.passes.now));
}

pub returns : goal.returns
returns c = λ numbers arena.
    c.loop-pass.invariant.are numbers arena
    ∙ ap (λ ps. map (handed c.args.blocks.now.items) (map (passed_argument (state_at c.args.values.now.items (moment c.args.regs.now c.args.blocks.now.items arena) numbers)) ps))
    (take_whole c.args.passes.now c.loop-pass.pass-index c.loop-pass-test.false)
