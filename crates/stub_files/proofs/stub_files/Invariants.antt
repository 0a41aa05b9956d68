use Rattle.std.proofs.Common.{◌≡◌, map, filter, take}
use Rattle.stub_files.specs.StubFiles as spec
use Rattle.stub_files.proofs.stub_files.Given as goal

abbrev pub invariant-loop-which : goal.invariant-loop-which
invariant-loop-which l =
    l.files ≡ map (spec.stub_file l.choices l.file) (filter (spec.is_written l.choices) (take l.which-index l.which-items))
