use Rattle.std.proofs.Common.{rules, ℕ, ◌≡◌, ◌++◌, ◌==◌, true, false, codes, sym, ap, ◌∙◌}
use Rattle.edl_interface.specs.Parameters.{is_marshalled, is_in}
use Rattle.edl_interface.specs.Lengths.{copied_length}
use Rattle.call_report.specs.Report.{value_line, hex_text}
use Rattle.call_report.proofs.EcallLaws.{in_line_step, not_zero}
use Rattle.call_report.proofs.ecalls.append_in_line.Goals as goal

pub returns-in_ok-append_bytes_line-2 : goal.returns-in_ok-append_bytes_line-2
returns-in_ok-append_bytes_line-2 c =
    let n : ℕ = copied_length c.args.function.now c.args.frame.now c.args.param.now in
    let m : is_marshalled c.args.param.now.class ≡ true = search rules in
    let z : (n == 0) ≡ false = not_zero c.copied_length-length.result n c.copied_length-length.ensures (sym c.eq.ensures ∙ c.if-eq.false) in
    let i : is_in c.args.param.now.class ≡ true = search rules in
    let o = c.in_ok-append_bytes_line-2.ensures
    ∙ ap (λ name. c.args.out.now.items ++ value_line (codes "in") name (hex_text c.as_slice.result.now)) c.bytes-name.ensures
    ∙ ap (λ bytes. c.args.out.now.items ++ value_line (codes "in") c.args.param.now.name (hex_text bytes)) c.as_slice.ensures.value in
    in_line_step c.args.function.now c.args.frame.now c.args.steps.now c.split.result.0.now c.split.result.1.now c.args.param.now
    c.in_ok-bytes.bytes.items c.args.out.now.items c.append_bytes_line-then-is_in.new.out.items
    m z i (c.split.ensures n c.copied_length-length.ensures) c.in_ok-bytes.ensures o
