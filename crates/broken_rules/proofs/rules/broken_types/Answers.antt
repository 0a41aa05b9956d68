use Rattle.std.proofs.Common.{◌∙◌, sym, ap}
use Rattle.edl_grammar.specs.declared.SourceFile.{SourceFile}
use Rattle.broken_rules.proofs.TypeLaws.{first_file, in_file_types, file_found, file_more, all_types}
use Rattle.broken_rules.proofs.Firsts.{head}
use Rattle.attr_terms.proofs.Lists.{take_whole}
use Rattle.broken_rules.proofs.rules.broken_types.Goals as goal

pub returns-then-is_some : goal.returns-then-is_some
returns-then-is_some c = λ g e.
    file_found c.args.files.now c.loop-number.number c.index-files-number.result c.in_ok-broken.broken c.loop-number-test.true c.loop-number.invariant
    (c.in_ok-broken.ensures ∙ ap (λ (f : SourceFile). head (in_file_types c.loop-number.number f)) c.index-files-number.is) (sym c.if-is_some.ensures)
    ∙ ap (first_file 0) (sym e) ∙ all_types g

pub loop-number-preserved : goal.loop-number-preserved
loop-number-preserved c =
    file_more c.args.files.now c.loop-number.number c.index-files-number.result c.in_ok-broken.broken c.loop-number-test.true c.loop-number.invariant
    (c.in_ok-broken.ensures ∙ ap (λ (f : SourceFile). head (in_file_types c.loop-number.number f)) c.index-files-number.is) (sym c.if-is_some.ensures)

pub returns : goal.returns
returns c = λ g e.
    sym c.loop-number.invariant ∙ ap (first_file 0) (take_whole c.args.files.now c.loop-number.number c.loop-number-test.false ∙ sym e) ∙ all_types g
