use Rattle.std.proofs.Common.{rules, ℕ, ◌≡◌, ◌++◌, ◌≤◌, ◌==◌, true, false, codes, length, take, sym, ap, subst, ◌∙◌}
use Rattle.std.proofs.lemmas.Bool.{not-true}
use Rattle.edl_interface.specs.Parameters.{is_out}
use Rattle.edl_interface.specs.Lengths.{copied_length}
use Rattle.call_report.specs.Report.{value_line, hex_text, put_length}
use Rattle.call_report.proofs.EcallLaws.{out_line_step, not_zero}
use Rattle.call_report.proofs.ecalls.append_out_line.Goals as goal

pub returns-in_ok-append_bytes_line : goal.returns-in_ok-append_bytes_line
returns-in_ok-append_bytes_line c =
    let n : ℕ = copied_length c.args.function.now c.args.frame.now c.args.param.now in
    let i : is_out c.args.param.now.class ≡ true = search rules in
    let z : (n == 0) ≡ false = not_zero c.copied_length-length.result n c.copied_length-length.ensures (not-true _ (sym c.ne.ensures ∙ c.if-ne.true)) in
    let same = c.as_slice-bytes.ensures.value in
    let count = c.put_length-count.result in
    let few = subst (λ bytes. count ≤ length bytes) same c.put_length-count.ensures.within in
    let o = c.in_ok-append_bytes_line.ensures
    ∙ ap (λ name. c.args.out.now.items ++ value_line (codes "out") name (hex_text c.first.result.now)) c.bytes-name.ensures in
    out_line_step c.args.function.now c.args.frame.now c.args.steps.now c.split.result.0.now c.after.result.now c.args.param.now
    count c.in_ok-written.written.items c.first.result.now c.args.out.now.items c.append_bytes_line.new.out.items
    i z (c.split.ensures n c.copied_length-length.ensures).0 c.in_ok-written.ensures
    (c.put_length-count.ensures.length ∙ ap (put_length c.args.param.now.class) same) few
    (c.first.ensures ∙ ap (take count) same) c.after.ensures o
