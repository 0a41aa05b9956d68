use Rattle.std.proofs.Common.{refl}
use Rattle.std.specs.Fmt.{digits}
use Rattle.log_trace.specs.Trace.{trace_text}
use Rattle.log_trace.proofs.text_laws.examples.Goals as goal

pub returns : goal.returns
unfolding digits trace_text
returns c = record { two = refl; mixed = refl; no_steps = refl; nobody = refl }
