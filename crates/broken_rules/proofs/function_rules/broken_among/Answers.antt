use Rattle.std.proofs.Common.{◌∙◌, sym, ap, map}
use Rattle.edl_grammar.specs.Files.{FunctionIn}
use Rattle.attr_terms.specs.Accepted.{size_of}
use Rattle.attr_terms.specs.Taken.{function_in}
use Rattle.attr_terms.specs.declared.functions.Taken.{Taken}
use Rattle.attr_terms.specs.Rules as rules
use Rattle.broken_rules.proofs.Firsts.{first_found, first_more, first_none, head, head-flat_map, first_in-map}
use Rattle.broken_rules.proofs.function_rules.broken_among.Goals as goal

pub returns-then-is_some : goal.returns-then-is_some
returns-then-is_some c = λ h.
    first_found (λ (t : Taken). head (rules.broken_in t.file (rules.function_rows c.args.functions.now.meanings.gathered.now c.args.runner (size_of c.args.functions.now.meanings.gathered.now c.args.layouts.now) (function_in t)))) c.args.list.now c.loop-f.f-index c.f-item.result c.in_ok-broken.broken c.loop-f-test.true (c.loop-f.invariant h)
    (c.in_ok-broken.ensures h ∙ ap (λ (t : Taken). head (rules.broken_in t.file (rules.function_rows c.args.functions.now.meanings.gathered.now c.args.runner (size_of c.args.functions.now.meanings.gathered.now c.args.layouts.now) (function_in t)))) c.f-item.is) (sym c.if-is_some.ensures)
    ∙ sym (head-flat_map (λ (f : FunctionIn). rules.broken_in f.file (rules.function_rows c.args.functions.now.meanings.gathered.now c.args.runner (size_of c.args.functions.now.meanings.gathered.now c.args.layouts.now) f)) (map function_in c.args.list.now) ∙ first_in-map (λ (f : FunctionIn). head (rules.broken_in f.file (rules.function_rows c.args.functions.now.meanings.gathered.now c.args.runner (size_of c.args.functions.now.meanings.gathered.now c.args.layouts.now) f))) function_in c.args.list.now)

pub loop-f-preserved : goal.loop-f-preserved
loop-f-preserved c = λ h.
    first_more (λ (t : Taken). head (rules.broken_in t.file (rules.function_rows c.args.functions.now.meanings.gathered.now c.args.runner (size_of c.args.functions.now.meanings.gathered.now c.args.layouts.now) (function_in t)))) c.args.list.now c.loop-f.f-index c.f-item.result c.in_ok-broken.broken c.loop-f-test.true (c.loop-f.invariant h)
    (c.in_ok-broken.ensures h ∙ ap (λ (t : Taken). head (rules.broken_in t.file (rules.function_rows c.args.functions.now.meanings.gathered.now c.args.runner (size_of c.args.functions.now.meanings.gathered.now c.args.layouts.now) (function_in t)))) c.f-item.is) (sym c.if-is_some.ensures)

pub returns : goal.returns
returns c = λ h.
    first_none (λ (t : Taken). head (rules.broken_in t.file (rules.function_rows c.args.functions.now.meanings.gathered.now c.args.runner (size_of c.args.functions.now.meanings.gathered.now c.args.layouts.now) (function_in t)))) c.args.list.now c.loop-f.f-index c.loop-f-test.false (c.loop-f.invariant h)
    ∙ sym (head-flat_map (λ (f : FunctionIn). rules.broken_in f.file (rules.function_rows c.args.functions.now.meanings.gathered.now c.args.runner (size_of c.args.functions.now.meanings.gathered.now c.args.layouts.now) f)) (map function_in c.args.list.now) ∙ first_in-map (λ (f : FunctionIn). head (rules.broken_in f.file (rules.function_rows c.args.functions.now.meanings.gathered.now c.args.runner (size_of c.args.functions.now.meanings.gathered.now c.args.layouts.now) f))) function_in c.args.list.now)
