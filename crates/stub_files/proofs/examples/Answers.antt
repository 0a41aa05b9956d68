use Rattle.std.proofs.Common.{refl}
use Rattle.stub_files.proofs.examples.Goals as goal

pub returns : goal.returns
returns c = record {
  plain_name = refl;
  in_a_folder = refl;
  without_end = refl;
  one_end = refl;
  end_alone = refl;
  all = refl;
  both_sides = refl;
  directories = refl;
  untrusted_side = refl;
}
