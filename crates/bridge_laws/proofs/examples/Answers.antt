use Rattle.std.proofs.Common.{refl}
use Rattle.bridge_laws.proofs.examples.Goals as goal

pub returns : goal.returns
returns c = record {
  buffer_entry = refl;
  bare_entry = refl;
  every_entry = refl;
  buffer_proxy = refl;
  bare_proxy = refl;
  every_proxy = refl;
  number_last = refl;
  address_last = refl;
}
