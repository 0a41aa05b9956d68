use Rattle.std.proofs.Common.{◌∙◌, sym, ap}
use Rattle.std.specs.Prelude.{option_map}
use Rattle.edl_grammar.specs.declared.TypeDecl.{TypeDecl}
use Rattle.broken_rules.specs.Breaches.{in_file}
use Rattle.attr_terms.specs.Rules as rules
use Rattle.broken_rules.proofs.Firsts.{first_found, first_more, first_none, head, head-broken_in, head-flat_map}
use Rattle.broken_rules.proofs.type_rules.broken_among.Goals as goal

pub returns-then-is_some : goal.returns-then-is_some
returns-then-is_some c = λ ts vs types values.
    let of_type = λ (t : TypeDecl). head (rules.broken_in c.args.file (rules.type_rows_in ts vs t)) in
    first_found of_type c.args.decls.now c.loop-decl.decl-index c.decl-item.result c.broken_at-broken.result c.loop-decl-test.true (c.loop-decl.invariant ts vs types values)
    (c.broken_at-broken.ensures ∙ ap (option_map (in_file c.args.file)) (c.in_ok-type_breach.ensures ts vs types values) ∙ sym (head-broken_in c.args.file (rules.type_rows_in ts vs c.decl-item.result)) ∙ ap of_type c.decl-item.is) (sym c.if-is_some.ensures)
    ∙ sym (head-flat_map (λ (t : TypeDecl). rules.broken_in c.args.file (rules.type_rows_in ts vs t)) c.args.decls.now)

pub loop-decl-preserved : goal.loop-decl-preserved
loop-decl-preserved c = λ ts vs types values.
    let of_type = λ (t : TypeDecl). head (rules.broken_in c.args.file (rules.type_rows_in ts vs t)) in
    first_more of_type c.args.decls.now c.loop-decl.decl-index c.decl-item.result c.broken_at-broken.result c.loop-decl-test.true (c.loop-decl.invariant ts vs types values)
    (c.broken_at-broken.ensures ∙ ap (option_map (in_file c.args.file)) (c.in_ok-type_breach.ensures ts vs types values) ∙ sym (head-broken_in c.args.file (rules.type_rows_in ts vs c.decl-item.result)) ∙ ap of_type c.decl-item.is) (sym c.if-is_some.ensures)

pub returns : goal.returns
returns c = λ ts vs types values.
    first_none (λ (t : TypeDecl). head (rules.broken_in c.args.file (rules.type_rows_in ts vs t))) c.args.decls.now c.loop-decl.decl-index c.loop-decl-test.false (c.loop-decl.invariant ts vs types values)
    ∙ sym (head-flat_map (λ (t : TypeDecl). rules.broken_in c.args.file (rules.type_rows_in ts vs t)) c.args.decls.now)
