use Rattle.std.proofs.Common.{◌==◌, List, ap, ◌∙◌, subst, rules}
use Rattle.std.specs.Prelude.{find}
use Rattle.edl_grammar.specs.declared.SourceFile.{SourceFile}
use Rattle.edl_imports.specs.declared.gathering.Finished.{Finished}
use Rattle.edl_imports.specs.Gathering.{IsImport}
use Rattle.edl_imports.proofs.Importing.{offered_stops, taken_stops}
use Rattle.edl_imports.proofs.gathering.take_from.Goals as goal

pub returns-in_err-offered-clause-err : goal.returns-in_err-offered-clause-err
returns-in_err-offered-clause-err c = λ source i is.
    let h = offered_stops c.args.progress.now c.args.at c.args.file c.args.growing.now.offer
    c.import_at-importing.result.number source c.import_at-importing.result.source.now i c.import_at-importing.result.import.now _ c.in_err-offered.field-0.0
    c.import_at-importing.ensures.number
    (subst (λ (fs : List SourceFile). IsImport fs c.args.at c.import_at-importing.result.source.now c.import_at-importing.result.import.now) c.as_slice-files.ensures c.import_at-importing.ensures.is)
    is (c.offer_of-finished.ensures ∙ ap (find (λ (f : Finished). f.file == c.args.file)) c.as_slice.ensures) c.in_err-offered.ensures.err in
    search rules

pub returns-clause-err : goal.returns-clause-err
returns-clause-err c = λ source i is.
    taken_stops c.args.progress.now c.args.at c.args.file c.args.growing.now.offer
    c.import_at-importing.result.number source c.import_at-importing.result.source.now i c.import_at-importing.result.import.now _
    c.as_slice-files.result.now c.in_ok-offered.offered.now c.take.result c.as_slice-files.ensures
    c.import_at-importing.ensures.number
    (subst (λ (fs : List SourceFile). IsImport fs c.args.at c.import_at-importing.result.source.now c.import_at-importing.result.import.now) c.as_slice-files.ensures c.import_at-importing.ensures.is)
    is (c.offer_of-finished.ensures ∙ ap (find (λ (f : Finished). f.file == c.args.file)) c.as_slice.ensures) c.in_ok-offered.ensures.ok c.take.ensures.err
