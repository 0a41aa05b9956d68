use Rattle.bridge_laws.proofs.Bare.{bare_is_ocall}
use Rattle.bridge_laws.proofs.bare_proxy_law.Goals as goal

pub returns : goal.returns
returns c = λ m handlers cx ordinal arguments f runnable none. bare_is_ocall m handlers cx ordinal arguments f none (runnable.no_frame none)
