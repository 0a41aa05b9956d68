use Rattle.std.proofs.Common.{List, ℕ, ◌++◌, ap, ◌∙◌}
use Rattle.sample_script.specs.Sample.{call_lines}
use Rattle.sample_script.proofs.Lengths.{sample_short}
use Rattle.sample_script.proofs.sample.Goals as goal

pub returns-clause-short : goal.returns-clause-short
returns-clause-short c =
    sample_short c.args.calls c.append_calls.new.text.items
    (c.in_ok-append_calls.ensures ∙ ap (λ (t : List ℕ). t ++ call_lines 0 1 c.args.calls) c.in_ok-text.ensures)
