use Rattle.std.proofs.Common.{rules, ℕ, ◌≡◌, ◌++◌, ◌==◌, true, false, codes, sym, ap, ◌∙◌}
use Rattle.std.proofs.lemmas.Bool.{not-true}
use Rattle.edl_interface.specs.Parameters.{is_marshalled, is_out}
use Rattle.call_report.specs.Report.{value_line, hex_text, buffer_length}
use Rattle.call_report.proofs.EcallLaws.{not_zero}
use Rattle.call_report.proofs.OcallLaws.{out_line_step}
use Rattle.call_report.proofs.ocalls.append_out_line.Goals as goal

pub returns-in_ok-append_bytes_line : goal.returns-in_ok-append_bytes_line
returns-in_ok-append_bytes_line c =
    let n : ℕ = buffer_length c.args.function.now c.args.structure.now c.args.param.now c.args.buffers.now in
    let m : is_marshalled c.args.param.now.class ≡ true = search rules in
    let i : is_out c.args.param.now.class ≡ true = search rules in
    let z : (n == 0) ≡ false = not_zero c.buffer_length-length.result n c.buffer_length-length.ensures (not-true _ (sym c.ne.ensures ∙ c.if-ne.true)) in
    let o = c.in_ok-append_bytes_line.ensures
    ∙ ap (λ name. c.args.out.now.items ++ value_line (codes "out") name (hex_text c.as_slice.result.now)) c.bytes-name.ensures
    ∙ ap (λ bytes. c.args.out.now.items ++ value_line (codes "out") c.args.param.now.name (hex_text bytes)) c.as_slice.ensures.value in
    out_line_step c.args.function.now c.args.structure.now c.args.buffers.now c.args.steps.now c.split.result.0.now c.split.result.1.now c.args.param.now
    c.in_ok-found.found.items c.args.out.now.items c.append_bytes_line.new.out.items
    m i z (c.split.ensures n c.buffer_length-length.ensures) c.in_ok-found.ensures o
