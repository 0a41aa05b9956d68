use Rattle.switchless_laws.proofs.Theorem.{settled_now, served_is, slots_free, agree}
use Rattle.switchless_laws.proofs.slots_law.Goals as goal

pub returns : goal.returns
returns c = record {
  settled = λ pool words participants before after keep h slot at. settled_now pool words participants before after h.are_free h.shuffled h.legal keep slot at;
  moments = λ pool words participants before after keep h. served_is pool words participants before after h.are_free h.shuffled h.legal keep;
  free = λ pool words participants whole leave h. slots_free pool words participants whole h.are_free h.shuffled h.legal leave;
  agree = λ pool words participants whole leave h. agree pool words participants whole h.are_free h.shuffled h.legal leave;
}
