use Rattle.std.proofs.Common.{◌+◌, ◌-◌, ◌==◌, if◌then◌else◌, ap}
use Rattle.sgx_base.specs.Ranges.{host_start}
use Rattle.switchless_laws.proofs.Words.{offered_tag, done_ordinal, done_place, done_status}
use Rattle.switchless_laws.proofs.done_word_law.Goals as goal

pub returns : goal.returns
returns c = record {
  ordinal = λ word status o. done_ordinal word status (offered_tag word o);
  frame = λ word status o. ap (λ place. if place == 0 then 0 else host_start + place - 1) (done_place word status (offered_tag word o));
  status = λ word status o. done_status word status o;
}
