use Rattle.std.proofs.Common.{refl}
use Rattle.clap.proofs.OnLiterals.{clap_on_literals}
use Rattle.tool_words.proofs.examples.Goals as goal

pub returns : goal.returns
unfolding clap_on_literals
returns c = record {
  no_words = refl;
  no_file = refl;
  two_files = refl;
  mixed = refl;
  search_path = refl;
  attached = refl;
  hyphens = refl;
  help = refl;
  help_beside_a_file = refl;
  help_beside_a_faulty_word = refl;
  flag_twice = refl;
  option_twice = refl;
  flag_with_a_value = refl;
  option_without_a_value = refl;
  short = refl;
  abbreviated = refl;
}
