use Rattle.std.proofs.Common.{refl}
use Rattle.call_copy.specs.Copies.{copy_in, copy_out}
use Rattle.body_vm.specs.Execution.{execution}
use Rattle.call_laws.proofs.examples.Goals as goal

pub returns : goal.returns
unfolding copy_in copy_out execution
returns c = record {
  sound = λ f e. (tt, (tt, (tt, tt)));
  quiet = λ f frame copies. tt;
  answered = (refl, (refl, (refl, (refl, (refl, (refl, (refl, (refl, (refl, (refl, (refl, (refl, (refl, (refl, (refl, (refl, (refl, (refl, (refl, (refl, (refl, (refl, (refl, (refl, refl))))))))))))))))))))))));
  legal = (refl, (refl, (refl, (refl, (refl, (refl, (refl, (refl, (refl, (refl, (refl, (refl, (refl, (refl, (refl, (refl, (refl, (refl, (refl, (refl, (refl, (refl, (refl, (refl, tt))))))))))))))))))))))));
  words_are = refl;
  unknown = refl;
  frame_misplaced = refl;
  in_enclave = (refl, (refl, (refl, (refl, (refl, (refl, (refl, (refl, (refl, (refl, (refl, (refl, (refl, (refl, (refl, (refl, refl))))))))))))))));
  past_the_end = (refl, (refl, (refl, (refl, (refl, (refl, (refl, (refl, (refl, (refl, (refl, (refl, (refl, (refl, (refl, (refl, refl))))))))))))))));
}
