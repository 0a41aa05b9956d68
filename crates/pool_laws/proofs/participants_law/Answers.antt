use Rattle.std.proofs.Common.{ℕ, ◌≤◌, ◌/◌, ◌^◌, sym, subst, arith}
use Rattle.switchless.specs.Caller.{more_than_any}
use Rattle.switchless.proofs.WaitLaws.{more_than_any_is}
use Rattle.pool_laws.proofs.Pools.{thread_keeps, trusted_keeps, untrusted_keeps, racer_keeps}
use Rattle.pool_laws.proofs.participants_law.Goals as goal

few_waits : (limit : ℕ) → limit ≤ 2 ^ 32 → limit / 4 ≤ more_than_any
few_waits limit le = subst (λ n. limit / 4 ≤ n) (sym more_than_any_is) (omega (arith, le))

pub returns : goal.returns
returns c = record {
  host_thread = λ m pool participant acts fit is room fits. thread_keeps m fit pool is participant acts room fits;
  trusted = λ m pool participant limit fit is room. trusted_keeps m fit participant limit room pool is;
  untrusted = λ m pool limit fit is. untrusted_keeps m fit limit pool is;
  racer = λ m pool acts fit is. racer_keeps m fit pool is acts;
  looks = λ m limit le. few_waits limit le;
}
