use Rattle.std.proofs.Common.{refl}
use Rattle.callrun.specs.Samples.{texts_state}
use Rattle.callrun.proofs.SampleEndings.{sample_ends}
use Rattle.callrun.proofs.samples.run_sample.Goals as goal

pub returns : goal.returns
returns c =
    let old = c.in_ok-files.files in
    let new = c.run_texts.new.files in
    sample_ends c.args.calls (texts_state old.script.items old.write_faults old.misses) (texts_state new.script.items new.write_faults new.misses)
    c.in_ok-files.ensures refl c.run_texts.result c.run_texts.ensures
