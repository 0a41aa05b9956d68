use Rattle.std.proofs.Common.{◌∙◌, sym, ap, Option, None}
use Rattle.edl_grammar.specs.declared.SourceFile.{SourceFile}
use Rattle.std.specs.Prelude.{fold}
use Rattle.attr_terms.specs.declared.meanings.Kinds.{Kinds}
use Rattle.attr_terms.specs.Kinds as kinds
use Rattle.attr_terms.proofs.Lists.{take_whole}
use Rattle.attr_terms.proofs.KindLaws.{kinds_from}
use Rattle.attr_terms.proofs.meanings.kinds_by_name.Goals as goal

pub returns : goal.returns
returns c = λ q.
    c.loop-file.invariant q
    ∙ ap (fold (λ (k : Option Kinds) (f : SourceFile). fold (kinds.with_decl q) k f.tree.types) None) (take_whole c.as_slice-file-items.result.now c.loop-file.file-index c.loop-file-test.false ∙ c.as_slice-file-items.ensures)
    ∙ sym (kinds_from q 0 None c.args.gathered.now.files)
