use Rattle.switchless_laws.proofs.Theorem.{served_is, slots_free, agree}
use Rattle.pool_laws.proofs.Pools.{all_leave, all_keep}
use Rattle.pool_laws.proofs.pools_law.Goals as goal

pub returns : goal.returns
returns c = record {
  moments = λ m pool words participants before after fit is are h.
      served_is pool words participants before after h.are_free h.shuffled h.legal
      (all_keep pool participants (all_leave m fit pool is participants are));
  free = λ m pool words participants whole fit is are h.
      slots_free pool words participants whole h.are_free h.shuffled h.legal (all_leave m fit pool is participants are);
  agree = λ m pool words participants whole fit is are h.
      agree pool words participants whole h.are_free h.shuffled h.legal (all_leave m fit pool is participants are);
}
