use Rattle.std.proofs.Common.{ℕ, ◌≡◌, Some, refl, arith}
use Rattle.call_copy.specs.Copies.{copy_in, copy_out}
use Rattle.body_vm.specs.Execution.{execution}
use Rattle.call_machine.specs.Ecall.{ecall_by}
use Rattle.copy_laws.proofs.examples.Goals as goal

differ : (a b : ℕ) → Some a ≡ Some b → a ≡ b
differ a b e = cc

pub returns : goal.returns
unfolding ecall_by copy_in copy_out execution
returns c = record {
  run = (refl, (refl, (refl, (refl, (refl, (refl, (refl, (refl, (refl, (refl, (refl, (refl, (refl, (refl, (refl, (refl, (refl, (refl, (refl, (refl, refl))))))))))))))))))));
  legal = (refl, (refl, (refl, (refl, (refl, (refl, (refl, (refl, (refl, (refl, (refl, (refl, (refl, (refl, (refl, (refl, (refl, (refl, (refl, (refl, tt))))))))))))))))))));
  words_are = refl;
  length_was = refl;
  length_reads = refl;
  not_longer = λ outcome h. h.1.1.1.1.1.1.1.1.1.1.1.1.1.1.1.1.1.1.1.1;
  disturbed = (refl, (refl, (refl, (refl, (refl, (refl, (refl, (refl, (refl, (refl, (refl, (refl, (refl, (refl, (refl, (refl, (refl, (refl, (refl, (refl, refl))))))))))))))))))));
  disturbed_legal = (refl, (refl, (refl, (refl, (refl, (refl, (refl, (refl, (refl, (refl, (refl, (refl, (refl, (refl, (refl, (refl, (refl, (refl, (refl, (refl, tt))))))))))))))))))));
  not_by_copy = λ h. let n = differ 2 3 h.0 in omega (arith, n);
}
