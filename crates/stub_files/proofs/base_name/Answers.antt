use Rattle.std.proofs.Common.{◌∙◌, Some, None, lit<}
use Rattle.std.proofs.lemmas.Str.Pattern.{rfind_char}
use Rattle.stub_files.proofs.NameLaws.{behind_slash, no_slash}
use Rattle.stub_files.proofs.base_name.Goals as goal

pub returns-in-Some : goal.returns-in-Some
returns-in-Some c =
    let found = rfind_char 47 c.args.file.now (Some c.in-Some.slash) c.in-Some.ensures.cases (lit< tt) in
    c.range_from.ensures.value ∙ behind_slash c.args.file.now c.in-Some.slash found.0 found.1 found.2

pub returns-in-None : goal.returns-in-None
returns-in-None c = no_slash c.args.file.now (rfind_char 47 c.args.file.now None c.in-None.ensures.cases (lit< tt))
