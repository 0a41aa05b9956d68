use Rattle.std.proofs.Common.{List, [], ◌∷◌, ◌++◌, subst, sym, arith}
use Rattle.enclave_memory.specs.declared.Arg.{Arg}
use Rattle.enclave_memory.specs.Arguments.{ArePassed, IsPassed, Passed}
use Rattle.enclave_memory.specs.Memory.{Memory}
use Rattle.runtime_tables.proofs.frames.args_of.Goals as goal

passed_then : (m : Memory) (args : List Arg) (a : Arg) (passed : List Passed) (p : Passed)
    → ArePassed m args passed → IsPassed m a p → ArePassed m (args ++ a ∷ []) (passed ++ p ∷ [])
passed_then m [] a [] p are is = (is, tt)
passed_then m [] a (q ∷ passed) p are is = absurd are
passed_then m (b ∷ args) a [] p are is = absurd are
passed_then m (b ∷ args) a (q ∷ passed) p are is = (are.0, passed_then m args a passed p are.1 is)

pub loop-argument-preserved : goal.loop-argument-preserved
loop-argument-preserved c = record {
  count = omega (arith, c.push.ensures.len, c.loop-argument.invariant.count);
  passed = λ arena first second.
      let (passed, are) = c.loop-argument.invariant.passed arena first second in
      let (p, is) = c.arg_of.ensures arena first second in (
        passed ++ p ∷ [],
        subst (λ items. ArePassed arena items (passed ++ p ∷ [])) (sym c.push.ensures.items)
            (passed_then arena c.loop-argument.args.items c.arg_of.result passed p are is),
      );
}
