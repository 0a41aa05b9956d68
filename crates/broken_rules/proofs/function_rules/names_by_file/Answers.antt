use Rattle.std.proofs.Common.{sym, subst, List, [], ◌∷◌, ◌++◌}
use Rattle.edl_grammar.specs.declared.SourceFile.{SourceFile}
use Rattle.std.proofs.Common.{take, ◌+◌}
use Rattle.broken_rules.specs.declared.names.Names.{Names}
use Rattle.broken_rules.specs.Names.{TellEach}
use Rattle.attr_terms.proofs.Lists.{take_whole}
use Rattle.broken_rules.proofs.FunctionLaws.{push_each, take_more}
use Rattle.broken_rules.proofs.function_rules.names_by_file.Goals as goal

pub loop-file-preserved : goal.loop-file-preserved
loop-file-preserved c =
    subst (λ (ns : List Names). TellEach ns (take (c.loop-file.file-index + 1) c.args.files.now)) (sym c.in_ok-push.ensures.items)
    (subst (λ (fs : List SourceFile). TellEach (c.loop-file.names.items ++ c.in_ok-table.table ∷ []) fs) (sym (take_more c.args.files.now c.loop-file.file-index c.file-item.result c.loop-file-test.true c.file-item.is))
    (push_each c.loop-file.names.items (take c.loop-file.file-index c.args.files.now) c.in_ok-table.table c.file-item.result c.loop-file.invariant c.in_ok-table.ensures))

pub returns : goal.returns
returns c = subst (TellEach c.loop-file.names.items) (take_whole c.args.files.now c.loop-file.file-index c.loop-file-test.false) c.loop-file.invariant
