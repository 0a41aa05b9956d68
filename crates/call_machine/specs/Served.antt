-- What an untrusted worker does for an OCALL.
use Rattle.std.specs.Prelude.{ℕ, not, ◌&&◌, if◌then◌else◌, List, [], ◌∷◌, Option, Some, None, unwrap_or, slice_get}
use Rattle.sgx_base.specs.Ranges.{is_mapped}
use Rattle.sgx_base.specs.declared.Status.{Status}
use Rattle.sgx_base.specs.declared.TheConstants.Status.{UNEXPECTED}
use Rattle.edl_interface.specs.declared.Function.{Function}
use Rattle.edl_interface.specs.Parameters.{has_frame, return_size}
use Rattle.word_port.specs.declared.Side.TheVariants.{Host}
use Rattle.word_port.specs.Events.{new_record}
use Rattle.word_port.specs.Interaction.{Interaction, ret, here, tick, and_then}
use Rattle.call_script.specs.declared.HostAct.{HostAct}
use Rattle.call_report.specs.declared.CallKind.TheVariants.{Ocall}
use Rattle.call_report.specs.declared.Way.TheVariants.{Served}
use Rattle.call_report.specs.declared.CallRecord.{CallRecord}
use Rattle.call_machine.specs.declared.Machine.{Machine}
use Rattle.call_machine.specs.Result.{Outcome}
use Rattle.call_machine.specs.Acts.{Actor, acts_of}

-- the acts of an OCALL's handler
abbrev pub handler_acts : Machine → ℕ → List HostAct
handler_acts m ordinal = unwrap_or (slice_get m.script.handlers ordinal) []

-- the host in the handler of a switchless OCALL, which makes no call
abbrev pub serving_actor : Machine → Function → ℕ → Actor
serving_actor m f frame = record {
  side = Host;
  host = m.script.settings.host;
  depth = 1;
  frame = frame;
  return_size = return_size f;
  calls = λ ordinal args. ret [];
  raw_calls = λ ordinal address. ret [];
}

-- the handler, where the function is marked and its structure is in host memory
abbrev pub handler_run : Machine → ℕ → ℕ → Option Function → Interaction Outcome
handler_run m ordinal frame None = ret (record { status = UNEXPECTED; records = [] })
handler_run m ordinal frame (Some f) =
    if f.switchless && not (has_frame f && not (is_mapped m.script.settings.host frame f.frame_size))
    then acts_of (serving_actor m f frame) (handler_acts m ordinal)
    else ret (record { status = UNEXPECTED; records = [] })

-- the record of an OCALL that a worker served
abbrev pub served_record : ℕ → ℕ → Status → ℕ → ℕ → CallRecord
served_record ordinal frame status first last = record {
  kind = Ocall;
  ordinal = ordinal;
  depth = 0;
  frame = frame;
  way = Served;
  status = status;
  first = first;
  turn = last;
  last = last;
}

-- serves the OCALL of an accepted word, with its record
unfoldable pub served_ocall : Machine → ℕ → ℕ → Interaction Outcome
served_ocall m ordinal frame =
    tick new_record (here (λ first. and_then (handler_run m ordinal frame (slice_get m.interface.ocalls ordinal)) (λ out.
    here (λ last. ret (record { status = out.status; records = served_record ordinal frame out.status first last ∷ out.records })))))
