use Rattle.std.proofs.Common.{Ok}
use Rattle.call_laws.proofs.EntryLaws.{entered_run}
use Rattle.call_laws.proofs.UndisturbedLaws.{undisturbed_run, direct_call}
use Rattle.call_laws.proofs.LocalBodies.{local_call}
use Rattle.call_laws.proofs.no_races_law.Goals as goal

pub returns : goal.returns
returns c = record {
  copies = λ m ocalls cx ordinal address words events done h legal.
      undisturbed_run m ocalls cx ordinal address words events done (entered_run m ocalls cx ordinal address events (Ok done) h) legal;
  direct = λ m ocalls cx ordinal address words events done quiet h legal.
      direct_call m ocalls cx ordinal address words events quiet (undisturbed_run m ocalls cx ordinal address words events done (entered_run m ocalls cx ordinal address events (Ok done) h) legal);
  local = λ m ocalls cx ordinal address words events done alone h legal.
      local_call m ocalls cx ordinal address words events alone (undisturbed_run m ocalls cx ordinal address words events done (entered_run m ocalls cx ordinal address events (Ok done) h) legal);
}
