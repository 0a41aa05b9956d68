use Rattle.std.proofs.Common.{inr, sym, ◌∙◌, Ok, Err, rules}
use Rattle.edl_imports.specs.Search.{in_directories}
use Rattle.edl_imports.proofs.Coming.{asked_first, asked_under, asks_before}
use Rattle.edl_imports.proofs.Candidates.{candidates_none, none_found, found_itself, found_in}
use Rattle.edl_imports.proofs.search.found_file.Goals as goal

pub returns-in_default-clause-ok : goal.returns-in_default-clause-ok
returns-in_default-clause-ok g c = none_found (g.F.Files.state c.args.files.now).contents c.args.read.now c.args.paths.now c.args.text.now c.args.text.now c.in_default.ensures.cases.0

pub returns-in_default-clause-none : goal.returns-in_default-clause-none
returns-in_default-clause-none g c = λ none. inr (candidates_none c.args.paths.now c.args.text.now c.in_default.ensures.cases.0)

pub returns-then-is_some-clause-ok : goal.returns-then-is_some-clause-ok
returns-then-is_some-clause-ok g c =
    found_itself (g.F.Files.state c.args.files.now).contents c.args.read.now c.args.paths.now c.args.text.now c.in-Ok.text.now
    c.in_ok-found.found c.in-Ok.ensures.cases.0 c.in-Ok.ensures.cases.1 (sym c.is_some.ensures ∙ c.if-is_some.true) c.in_ok-found.ensures.ok

pub returns-clause-ok : goal.returns-clause-ok
returns-clause-ok g c =
    found_in (g.F.Files.state c.args.files.now) (g.F.Files.state c.file_of.new.files) c.args.read.now c.args.paths.now c.args.text.now c.in-Ok.text.now
    c.in_ok-found.found c.file_in.result c.in_ok-found.ensures.kept c.in-Ok.ensures.cases.0 c.in-Ok.ensures.cases.1 (sym c.is_some.ensures ∙ c.if-is_some.false)
    c.in_ok-found.ensures.ok c.file_in.ensures.ok

pub returns-in_err-found-clause-asked : goal.returns-in_err-found-clause-asked
returns-in_err-found-clause-asked g c =
    let h = asked_first (g.F.Files.state c.args.files.now).contents c.args.read.now c.args.paths.now c.args.text.now c.in-Ok.text.now c.in-Ok.ensures.cases.0 c.in-Ok.ensures.cases.1
    (Err c.in_err-found.field-0.0) c.in_err-found.ensures.asked in
    search rules

pub returns-then-is_some-clause-asked : goal.returns-then-is_some-clause-asked
returns-then-is_some-clause-asked g c =
    asked_first (g.F.Files.state c.args.files.now).contents c.args.read.now c.args.paths.now c.args.text.now c.in-Ok.text.now c.in-Ok.ensures.cases.0 c.in-Ok.ensures.cases.1
    (Ok c.in_ok-found.found) c.in_ok-found.ensures.asked

pub returns-clause-asked : goal.returns-clause-asked
returns-clause-asked g c =
    asked_under (g.F.Files.state c.args.files.now).contents c.args.read.now c.args.paths.now c.args.text.now c.in-Ok.text.now c.in-Ok.ensures.cases.0 c.in-Ok.ensures.cases.1
    c.in_ok-found.found (sym c.is_some.ensures ∙ c.if-is_some.false) c.in_ok-found.ensures.ok c.file_in.result
    (asks_before (g.F.Files.state c.args.files.now) (g.F.Files.state c.file_of.new.files) (in_directories c.args.paths.now c.in-Ok.text.now) c.file_in.result c.in_ok-found.ensures.kept c.file_in.ensures.asked)
