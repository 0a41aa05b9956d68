use Rattle.std.proofs.Common.{◌≡◌, ◌∙◌, None}
use Rattle.std.specs.List.{position}
use Rattle.std.specs.Str.{bytes_eq}
use Rattle.sgx_base.proofs.StoredFiles.{with_file_last}
use Rattle.sgx_base.proofs.mem_files.write_file.Goals as goal

pub returns-in_ok-push-in-None-clause-ok : goal.returns-in_ok-push-in-None-clause-ok
returns-in_ok-push-in-None-clause-ok c =
    let absent : None ≡ position (λ f. bytes_eq f.name c.args.file.name) c.args.files.now.items = simp (c.deref.ensures.value, c.as_slice.ensures) at c.in-None.ensures in
    c.in_ok-push-in-None.ensures.items ∙ with_file_last c.args.file c.args.files.now.items absent
