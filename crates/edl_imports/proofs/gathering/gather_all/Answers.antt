use Rattle.std.proofs.Common.{◌≡◌, Ok, subst, rules}
use Rattle.std.specs.Prelude.{IfSome}
use Rattle.edl_imports.specs.declared.gathering.Progress.{Progress}
use Rattle.edl_imports.specs.Causes.{IsStop}
use Rattle.edl_imports.specs.Gathering.{gather_within, max_files, no_files}
use Rattle.edl_imports.proofs.Coming.{root_come, none_reached}
use Rattle.edl_imports.proofs.Turns.{no_root, root_stops, root_gathered}
use Rattle.edl_imports.proofs.gathering.gather_all.Goals as goal

pub returns-in_err-file-clause-err : goal.returns-in_err-file-clause-err
returns-in_err-file-clause-err g c =
    let h = no_root c.args.paths.now c.args.root.now (g.F.Files.state c.args.files.now) (g.F.Files.state c.root_file.new.files) c.in_err-file.field-0.0 (c.in_err-file.ensures.err c.args.paths.now) in
    search rules

pub returns-in_err-offer-clause-err : goal.returns-in_err-offer-clause-err
returns-in_err-offer-clause-err g c =
    let empty : ◌≡◌ {A = Progress} (record { files = c.new.result; finished = c.new-2.result }) no_files = cc in
    let h = root_stops c.args.paths.now c.args.root.now (g.F.Files.state c.args.files.now) (g.F.Files.state c.root_file.new.files) c.in_ok-file.file c.in_ok-file.ensures.kept c.in_ok-file.ensures.ok
    (g.F.Files.state c.gather_file.new.files) c.in_err-offer.field-0.0
    (subst (λ (p : Progress). IsStop c.args.paths.now (g.F.Files.state c.root_file.new.files) (g.F.Files.state c.gather_file.new.files) (λ store. gather_within store c.args.paths.now max_files p c.in_ok-file.file) c.in_err-offer.field-0.0)
    empty c.in_err-offer.ensures.err) in
    search rules

pub returns-clause-ok : goal.returns-clause-ok
returns-clause-ok g c =
    let empty : ◌≡◌ {A = Progress} (record { files = c.new.result; finished = c.new-2.result }) no_files = cc in
    root_gathered c.args.paths.now c.args.root.now (g.F.Files.state c.args.files.now) (g.F.Files.state c.root_file.new.files) c.in_ok-file.file c.in_ok-file.ensures.kept c.in_ok-file.ensures.ok
    c.gather_file.new.progress c.in_ok-offer.offer
    (subst (λ (p : Progress). IfSome (g.F.Files.state c.root_file.new.files).contents (λ store. gather_within store c.args.paths.now max_files p c.in_ok-file.file ≡ Ok (c.gather_file.new.progress, c.in_ok-offer.offer)))
    empty c.in_ok-offer.ensures.ok)

pub returns-in_err-offer-clause-named : goal.returns-in_err-offer-clause-named
returns-in_err-offer-clause-named g c =
    let new = root_come (g.F.Files.state c.args.files.now).contents c.args.paths.now c.args.root.now c.in_ok-file.file c.in_ok-file.ensures.name c.in_ok-file.ensures.held in
    let h = c.in_err-offer.ensures.come (g.F.Files.state c.args.files.now).contents c.args.root.now c.in_ok-file.ensures.kept.contents (none_reached _ _ _ c.new.result c.new.ensures) new.0 new.1 in
    search rules

pub returns-clause-read : goal.returns-clause-read
returns-clause-read g c =
    let new = root_come (g.F.Files.state c.args.files.now).contents c.args.paths.now c.args.root.now c.in_ok-file.file c.in_ok-file.ensures.name c.in_ok-file.ensures.held in
    c.in_ok-offer.ensures.come (g.F.Files.state c.args.files.now).contents c.args.root.now c.in_ok-file.ensures.kept.contents (none_reached _ _ _ c.new.result c.new.ensures) new.0 new.1

pub returns-in_err-file-clause-named : goal.returns-in_err-file-clause-named
returns-in_err-file-clause-named g c = let h = c.in_err-file.ensures.named c.args.paths.now in search rules
