use Rattle.call_machine.specs.Ocall.{ocall_by}
use Rattle.copy_laws.proofs.ExactLaws.{middle_exact, refused_exact}
use Rattle.copy_laws.proofs.ExactWholes.{changes_its_answer, changes_alone}
use Rattle.copy_laws.proofs.exact_change_law.Goals as goal

pub returns : goal.returns
returns c = record {
  middle = λ m handlers cx ordinal address words events done middle run sound legal. middle_exact m handlers cx ordinal address sound words events done middle run legal;
  whole = changes_its_answer;
  direct = λ m handlers cx ordinal address way words events outcome sound quiet h legal e.
      changes_alone m (ocall_by m handlers) cx ordinal address words events quiet (changes_its_answer m handlers cx ordinal address way words events outcome sound h legal e);
  refused = refused_exact;
}
