use Rattle.std.proofs.Common.{◌≡◌, ◌∙◌, ◌-◌, List, suc, ap, arith, rules}
use Rattle.std.specs.Prelude.{slice_get}
use Rattle.edl_grammar.specs.declared.SourceFile.{SourceFile}
use Rattle.edl_grammar.specs.declared.Import.{Import}
use Rattle.edl_imports.specs.declared.gathering.Finished.{Finished}
use Rattle.edl_imports.specs.Gathering.{IsImport}
use Rattle.edl_imports.proofs.Coming.{source_stops, reached_more, take_stops, reach_stops, reach_new}
use Rattle.edl_imports.proofs.Steps.{read_twice}
use Rattle.edl_imports.proofs.Importing.{there_pushed, front_then, front_more, IsBegun, import_there, import_here, import_still}
use Rattle.edl_imports.proofs.Turns.{file_unread, file_gathered, file_stops, unwanted, known_reached, new_stops, new_reached, turn_stops, turn_refused, turned, all_turned}
use Rattle.edl_imports.proofs.gathering.+gathering.Goals as goal

pub gather_file-returns-in_err-source-clause-err : goal.gather_file-returns-in_err-source-clause-err
gather_file-returns-in_err-source-clause-err g t c =
    let deep : c.args.depth ≡ suc (c.args.depth - 1) = omega arith in
    let h = file_unread c.args.paths.now c.args.depth c.args.progress.now c.args.new (c.args.depth - 1) c.len-number.result
    (g.F.Files.state c.args.files.now) (g.F.Files.state c.args.files.now) c.in_err-source.field-0.0 deep c.len-number.ensures c.in_err-source.ensures.err in
    search rules

pub gather_file-returns-clause-ok : goal.gather_file-returns-clause-ok
gather_file-returns-clause-ok g t c =
    let deep : c.args.depth ≡ suc (c.args.depth - 1) = omega arith in
    file_gathered c.args.paths.now c.args.depth c.args.progress.now c.args.new (c.args.depth - 1) c.len-number.result
    (g.F.Files.state c.args.files.now).contents c.in_ok-source.source (record { files = c.push.new.self; finished = c.args.progress.now.finished }) c.import_all.new.progress c.import_all.result
    deep c.len-number.ensures c.in_ok-source.ensures.ok (ap (λ (fs : List SourceFile). record { files = fs; finished = c.args.progress.now.finished }) c.in_ok-push.ensures.ok)
    (c.import_all.ensures.ok c.in_ok-source.source (there_pushed c.args.progress.now.files c.push.new.self c.in_ok-source.source c.len-number.result c.in_ok-push.ensures.ok c.len-number.ensures))

pub gather_file-returns-clause-err : goal.gather_file-returns-clause-err
gather_file-returns-clause-err g t c =
    let deep : c.args.depth ≡ suc (c.args.depth - 1) = omega arith in
    file_stops c.args.paths.now c.args.depth c.args.progress.now c.args.new (c.args.depth - 1) c.len-number.result
    (g.F.Files.state c.args.files.now) (g.F.Files.state c.import_all.new.files) c.in_ok-source.source (record { files = c.push.new.self; finished = c.args.progress.now.finished }) c.import_all.result
    deep c.len-number.ensures c.in_ok-source.ensures.ok (ap (λ (fs : List SourceFile). record { files = fs; finished = c.args.progress.now.finished }) c.in_ok-push.ensures.ok)
    (c.import_all.ensures.err c.in_ok-source.source (there_pushed c.args.progress.now.files c.push.new.self c.in_ok-source.source c.len-number.result c.in_ok-push.ensures.ok c.len-number.ensures))

pub import_all-reached-requires : goal.import_all-reached-requires
import_all-reached-requires g t c κs within =
    let begun : IsBegun c.args.progress.now.files c.args.number c.in_ok-count.count c.in_ok-count.growing.offer =
    λ source h. c.in_ok-count.ensures.begun source (ap (λ (fs : List SourceFile). slice_get fs c.args.number) c.as_slice.ensures ∙ h) in
    let here = import_there c.args.progress.now.files c.loop-index.progress.files c.args.number c.loop-index.index c.in_ok-count.count c.in_ok-count.growing.offer
    c.loop-index.invariant.front c.requires.there begun c.loop-index-test.true in
    let more = front_more c.args.progress.now.files c.loop-index.progress.files c.loop-index.invariant.front in
    (search rules, (within, (here, (omega arith, c.loop-index.invariant.few))))

pub import_all-returns-in_err-file-clause-err : goal.import_all-returns-in_err-file-clause-err
import_all-returns-in_err-file-clause-err g t c = λ source is.
    let begun = c.in_ok-count.ensures.begun source (ap (λ (fs : List SourceFile). slice_get fs c.args.number) c.as_slice.ensures ∙ is) in
    let here : (i : Import) × IsImport c.loop-index.progress.files (record { file = c.args.number; index = c.loop-index.index }) source i =
    import_here c.args.progress.now.files c.loop-index.progress.files c.args.number c.loop-index.index c.in_ok-count.count source c.loop-index.invariant.front is begun.0 c.loop-index-test.true in
    let h = turn_stops c.args.paths.now c.args.depth c.args.number source (g.F.Files.state c.args.files.now) (g.F.Files.state c.loop-index.files)
    c.args.progress.now c.loop-index.progress c.loop-index.growing.offer c.loop-index.index here.0 c.loop-index.invariant.kept here.1.«import» (c.loop-index.invariant.same source is)
    (g.F.Files.state c.reached.new.files) c.in_err-file.field-0.0 (c.in_err-file.ensures.err source here.0 here.1) in
    search rules

pub import_all-take_from-requires-clause-there : goal.import_all-take_from-requires-clause-there
import_all-take_from-requires-clause-there g t c =
    let begun : IsBegun c.args.progress.now.files c.args.number c.in_ok-count.count c.in_ok-count.growing.offer =
    λ source h. c.in_ok-count.ensures.begun source (ap (λ (fs : List SourceFile). slice_get fs c.args.number) c.as_slice.ensures ∙ h) in
    import_there c.args.progress.now.files c.reached.new.progress.files c.args.number c.loop-index.index c.in_ok-count.count c.in_ok-count.growing.offer
    (front_then c.args.progress.now.files c.loop-index.progress.files c.reached.new.progress.files c.loop-index.invariant.front c.in_ok-file.ensures.front)
    c.requires.there begun c.loop-index-test.true

pub import_all-returns-in_err-take_from-clause-err :
    goal.import_all-returns-in_err-take_from-clause-err
import_all-returns-in_err-take_from-clause-err g t c = λ source is.
    let begun = c.in_ok-count.ensures.begun source (ap (λ (fs : List SourceFile). slice_get fs c.args.number) c.as_slice.ensures ∙ is) in
    let here : (i : Import) × IsImport c.loop-index.progress.files (record { file = c.args.number; index = c.loop-index.index }) source i =
    import_here c.args.progress.now.files c.loop-index.progress.files c.args.number c.loop-index.index c.in_ok-count.count source c.loop-index.invariant.front is begun.0 c.loop-index-test.true in
    let still = import_still c.loop-index.progress.files c.reached.new.progress.files (record { file = c.args.number; index = c.loop-index.index }) source here.0 c.in_ok-file.ensures.front here.1 in
    let h = turn_refused c.args.paths.now c.args.depth c.args.number source (g.F.Files.state c.args.files.now) (g.F.Files.state c.loop-index.files)
    c.args.progress.now c.loop-index.progress c.loop-index.growing.offer c.loop-index.index here.0 c.loop-index.invariant.kept here.1.«import» (c.loop-index.invariant.same source is)
    c.reached.new.progress c.in_ok-file.file (c.in_ok-file.ensures.ok source here.0 here.1)
    (g.F.Files.state c.reached.new.files) c.in_err-take_from.field-0.0 (c.in_err-take_from.ensures.err source here.0 still) in
    search rules

pub import_all-loop-index-preserved : goal.import_all-loop-index-preserved
import_all-loop-index-preserved g t c = record {
  kept = read_twice (g.F.Files.state c.args.files.now) (g.F.Files.state c.loop-index.files) (g.F.Files.state c.reached.new.files) c.loop-index.invariant.kept c.in_ok-file.ensures.kept;
  front = front_then c.args.progress.now.files c.loop-index.progress.files c.reached.new.progress.files c.loop-index.invariant.front c.in_ok-file.ensures.front;
  few = c.in_ok-file.ensures.few;
  told = c.in_ok-take_from.ensures.told;
  come = λ contents root is all. c.in_ok-file.ensures.come contents root (c.loop-index.invariant.kept.contents ∙ is) (c.loop-index.invariant.come contents root is all);
  same = λ source is.
      let begun = c.in_ok-count.ensures.begun source (ap (λ (fs : List SourceFile). slice_get fs c.args.number) c.as_slice.ensures ∙ is) in
      let here : (i : Import) × IsImport c.loop-index.progress.files (record { file = c.args.number; index = c.loop-index.index }) source i =
      import_here c.args.progress.now.files c.loop-index.progress.files c.args.number c.loop-index.index c.in_ok-count.count source c.loop-index.invariant.front is begun.0 c.loop-index-test.true in
      let still = import_still c.loop-index.progress.files c.reached.new.progress.files (record { file = c.args.number; index = c.loop-index.index }) source here.0 c.in_ok-file.ensures.front here.1 in
      turned c.args.paths.now c.args.depth c.args.number source (g.F.Files.state c.args.files.now) (g.F.Files.state c.loop-index.files)
      c.args.progress.now c.loop-index.progress c.loop-index.growing.offer c.loop-index.index here.0 c.loop-index.invariant.kept here.1.«import» (c.loop-index.invariant.same source is)
      c.reached.new.progress c.in_ok-file.file (c.in_ok-file.ensures.ok source here.0 here.1) c.take_from.new.growing.offer (c.in_ok-take_from.ensures.ok source here.0 still);
}

pub import_all-returns-clause-ok : goal.import_all-returns-clause-ok
import_all-returns-clause-ok g t c = λ source is.
    let begun = c.in_ok-count.ensures.begun source (ap (λ (fs : List SourceFile). slice_get fs c.args.number) c.as_slice.ensures ∙ is) in
    all_turned c.args.paths.now c.args.depth c.args.number source (g.F.Files.state c.args.files.now) c.args.progress.now c.loop-index.progress c.loop-index.growing.offer c.loop-index.index
    (let l = begun.0 in omega arith) (c.loop-index.invariant.same source is)

pub reached-returns-in_err-file-clause-err : goal.reached-returns-in_err-file-clause-err
reached-returns-in_err-file-clause-err g t c = λ source i is.
    let h = unwanted c.args.paths.now c.args.depth c.args.at.file source c.args.progress.now i (g.F.Files.state c.args.files.now) (g.F.Files.state c.wanted_at.new.files)
    c.as_slice.result.now c.in_err-file.field-0.0 c.as_slice.ensures
    (c.in_err-file.ensures.err source i (record { file = ap (λ (fs : List SourceFile). slice_get fs c.args.at.file) c.as_slice.ensures ∙ is.file; «import» = is.«import» })) in
    search rules

pub reached-returns-in_err-offer-in-New-clause-err :
    goal.reached-returns-in_err-offer-in-New-clause-err
reached-returns-in_err-offer-in-New-clause-err g t c = λ source i is.
    let h = new_stops c.args.paths.now c.args.depth c.args.at.file source c.args.progress.now i (g.F.Files.state c.args.files.now) (g.F.Files.state c.wanted_at.new.files)
    c.as_slice.result.now c.in_ok-file.field-0 c.in-New.new c.as_slice.ensures c.in-New.is c.in_ok-file.ensures.kept
    (c.in_ok-file.ensures.ok source i (record { file = ap (λ (fs : List SourceFile). slice_get fs c.args.at.file) c.as_slice.ensures ∙ is.file; «import» = is.«import» }))
    (g.F.Files.state c.gather_file.new.files) c.in_err-offer-in-New.field-0.0 c.in_err-offer-in-New.ensures.err in
    search rules

pub reached-returns-in-Known-clause-ok : goal.reached-returns-in-Known-clause-ok
reached-returns-in-Known-clause-ok g t c = λ source i is.
    known_reached c.args.paths.now c.args.depth c.args.at.file source c.args.progress.now i (g.F.Files.state c.args.files.now).contents
    c.as_slice.result.now c.in_ok-file.field-0 c.in-Known.file c.as_slice.ensures c.in-Known.is
    (c.in_ok-file.ensures.ok source i (record { file = ap (λ (fs : List SourceFile). slice_get fs c.args.at.file) c.as_slice.ensures ∙ is.file; «import» = is.«import» }))

pub reached-returns-in_ok-push-in-New-clause-ok : goal.reached-returns-in_ok-push-in-New-clause-ok
reached-returns-in_ok-push-in-New-clause-ok g t c = λ source i is.
    new_reached c.args.paths.now c.args.depth c.args.at.file source c.args.progress.now i (g.F.Files.state c.args.files.now) (g.F.Files.state c.wanted_at.new.files)
    c.as_slice.result.now c.in_ok-file.field-0 c.in-New.new c.as_slice.ensures c.in-New.is c.in_ok-file.ensures.kept
    (c.in_ok-file.ensures.ok source i (record { file = ap (λ (fs : List SourceFile). slice_get fs c.args.at.file) c.as_slice.ensures ∙ is.file; «import» = is.«import» }))
    c.gather_file.new.progress (record { files = c.gather_file.new.progress.files; finished = c.push.new.self }) c.in_ok-offer-in-New.offer c.len-file.result
    c.in_ok-offer-in-New.ensures.ok c.len-file.ensures
    (ap (λ (fs : List Finished). record { files = c.gather_file.new.progress.files; finished = fs }) c.in_ok-push-in-New.ensures.ok)

pub gather_file-returns-in_err-source-clause-come : goal.gather_file-returns-in_err-source-clause-come
gather_file-returns-in_err-source-clause-come g t c = λ contents root is all come held.
    let h = source_stops contents c.args.paths.now root c.len-number.result c.args.new c.in_err-source.field-0.0 come c.in_err-source.ensures.err in
    search rules

pub gather_file-returns-clause-come : goal.gather_file-returns-clause-come
gather_file-returns-clause-come g t c = λ contents root is all come held.
    c.import_all.ensures.come contents root is
    (reached_more contents c.args.paths.now root c.args.progress.now.files c.push.new.self c.len-number.result c.args.new c.in_ok-source.source
    c.in_ok-push.ensures.ok c.in_ok-source.ensures.ok all come held)

pub import_all-returns-in_err-file-clause-come : goal.import_all-returns-in_err-file-clause-come
import_all-returns-in_err-file-clause-come g t c = λ contents root is all.
    let h = c.in_err-file.ensures.come contents root (c.loop-index.invariant.kept.contents ∙ is) (c.loop-index.invariant.come contents root is all) in
    search rules

pub import_all-returns-in_err-take_from-clause-come : goal.import_all-returns-in_err-take_from-clause-come
import_all-returns-in_err-take_from-clause-come g t c = λ contents root is all.
    let begun : IsBegun c.args.progress.now.files c.args.number c.in_ok-count.count c.in_ok-count.growing.offer =
    λ source h. c.in_ok-count.ensures.begun source (ap (λ (fs : List SourceFile). slice_get fs c.args.number) c.as_slice.ensures ∙ h) in
    let there = import_there c.args.progress.now.files c.reached.new.progress.files c.args.number c.loop-index.index c.in_ok-count.count c.in_ok-count.growing.offer
    (front_then c.args.progress.now.files c.loop-index.progress.files c.reached.new.progress.files c.loop-index.invariant.front c.in_ok-file.ensures.front)
    c.requires.there begun c.loop-index-test.true in
    let h = take_stops contents c.args.paths.now root c.reached.new.progress.files
    (c.in_ok-file.ensures.come contents root (c.loop-index.invariant.kept.contents ∙ is) (c.loop-index.invariant.come contents root is all))
    (record { file = c.args.number; index = c.loop-index.index }) there.source there.«import» there.is
    c.reached.new.progress c.loop-index.growing.offer c.in_ok-file.file c.in_err-take_from.field-0.0 (c.in_err-take_from.ensures.err there.source there.«import» there.is) in
    search rules

pub reached-returns-in_err-file-clause-come : goal.reached-returns-in_err-file-clause-come
reached-returns-in_err-file-clause-come g t c = λ contents root is all.
    let h = reach_stops c.args.paths.now root (g.F.Files.state c.args.files.now).contents contents is c.args.progress.now.files c.as_slice.result.now c.as_slice.ensures
    all c.args.at c.requires.there c.in_err-file.field-0.0 c.in_err-file.ensures.finds in
    search rules

pub reached-returns-in_err-offer-in-New-clause-come :
    goal.reached-returns-in_err-offer-in-New-clause-come
reached-returns-in_err-offer-in-New-clause-come g t c = λ contents root is all.
    let new = reach_new c.args.paths.now root (g.F.Files.state c.args.files.now).contents contents is c.args.progress.now.files c.as_slice.result.now c.as_slice.ensures
    all c.args.at c.requires.there c.in_ok-file.field-0 c.in-New.new c.in-New.is c.in_ok-file.ensures.finds in
    let h = c.in_err-offer-in-New.ensures.come contents root (c.in_ok-file.ensures.kept.contents ∙ is) all new.0 new.1 in
    search rules

pub reached-returns-in_ok-push-in-New-clause-come : goal.reached-returns-in_ok-push-in-New-clause-come
reached-returns-in_ok-push-in-New-clause-come g t c = λ contents root is all.
    let new = reach_new c.args.paths.now root (g.F.Files.state c.args.files.now).contents contents is c.args.progress.now.files c.as_slice.result.now c.as_slice.ensures
    all c.args.at c.requires.there c.in_ok-file.field-0 c.in-New.new c.in-New.is c.in_ok-file.ensures.finds in
    c.in_ok-offer-in-New.ensures.come contents root (c.in_ok-file.ensures.kept.contents ∙ is) all new.0 new.1
