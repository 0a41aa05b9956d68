-- Beyond the last code there is no text.
use Rattle.std.proofs.Common.{arith, ℕ, ◌≡◌, ◌<◌, zero, suc, [], refl}
use Rattle.std.proofs.lemmas.Option.{slice_get_past}
use Rattle.sgx_base.specs.Messages.{edl_message, edl_messages, script_message, script_messages}

pub edl_message_past : (n : ℕ) → 40 < n → [] ≡ edl_message n
edl_message_past zero h = refl
edl_message_past (suc n) h = rw (slice_get_past edl_messages n (omega arith))

pub script_message_past : (n : ℕ) → 20 < n → [] ≡ script_message n
script_message_past zero h = refl
script_message_past (suc n) h = rw (slice_get_past script_messages n (omega arith))
