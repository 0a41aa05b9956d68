use Rattle.std.proofs.Common.{◌∙◌, sym, ap, subst, List, map}
use Rattle.edl_grammar.specs.Files.{FunctionIn, trusted_of, untrusted_of}
use Rattle.attr_terms.specs.Accepted.{size_of}
use Rattle.attr_terms.specs.Taken.{function_in}
use Rattle.broken_rules.specs.Names.{TellEach}
use Rattle.attr_terms.specs.declared.functions.Taken.{Taken}
use Rattle.std.specs.List.{flat_map}
use Rattle.attr_terms.specs.Rules as rules
use Rattle.broken_rules.specs.declared.names.Names.{Names}
use Rattle.std.proofs.lemmas.Grind.{flat_map-append}
use Rattle.broken_rules.proofs.Firsts.{head, head-front, head-rest}
use Rattle.broken_rules.proofs.function_rules.broken_functions.Goals as goal

pub returns-then-is_some : goal.returns-then-is_some
returns-then-is_some c =
    head-front (flat_map (λ (f : FunctionIn). rules.broken_in f.file (rules.function_rows c.args.functions.now.meanings.gathered.now c.args.runner (size_of c.args.functions.now.meanings.gathered.now c.args.layouts.now) f)) (trusted_of c.args.functions.now.meanings.gathered.now)) (flat_map (λ (f : FunctionIn). rules.broken_in f.file (rules.function_rows c.args.functions.now.meanings.gathered.now c.args.runner (size_of c.args.functions.now.meanings.gathered.now c.args.layouts.now) f)) (untrusted_of c.args.functions.now.meanings.gathered.now)) c.in_ok-trusted.trusted
    (c.in_ok-trusted.ensures (subst (λ (ns : List Names). TellEach ns c.args.functions.now.meanings.gathered.now.files) (sym c.deref.ensures.value) (subst (TellEach c.in_ok-names.names.items) c.as_slice.ensures c.in_ok-names.ensures))
    ∙ ap (λ (ts : List Taken). head (flat_map (λ (f : FunctionIn). rules.broken_in f.file (rules.function_rows c.args.functions.now.meanings.gathered.now c.args.runner (size_of c.args.functions.now.meanings.gathered.now c.args.layouts.now) f)) (map function_in ts))) c.deref-2.ensures.value
    ∙ ap (λ (fs : List FunctionIn). head (flat_map (λ (f : FunctionIn). rules.broken_in f.file (rules.function_rows c.args.functions.now.meanings.gathered.now c.args.runner (size_of c.args.functions.now.meanings.gathered.now c.args.layouts.now) f)) fs)) c.args.functions.now.trusted_side)
    (sym c.if-is_some.ensures)
    ∙ ap head (sym (flat_map-append (λ (f : FunctionIn). rules.broken_in f.file (rules.function_rows c.args.functions.now.meanings.gathered.now c.args.runner (size_of c.args.functions.now.meanings.gathered.now c.args.layouts.now) f)) (trusted_of c.args.functions.now.meanings.gathered.now) (untrusted_of c.args.functions.now.meanings.gathered.now)))

pub returns : goal.returns
returns c =
    head-rest (flat_map (λ (f : FunctionIn). rules.broken_in f.file (rules.function_rows c.args.functions.now.meanings.gathered.now c.args.runner (size_of c.args.functions.now.meanings.gathered.now c.args.layouts.now) f)) (trusted_of c.args.functions.now.meanings.gathered.now)) (flat_map (λ (f : FunctionIn). rules.broken_in f.file (rules.function_rows c.args.functions.now.meanings.gathered.now c.args.runner (size_of c.args.functions.now.meanings.gathered.now c.args.layouts.now) f)) (untrusted_of c.args.functions.now.meanings.gathered.now)) c.in_ok-trusted.trusted c.in_ok-untrusted.untrusted
    (c.in_ok-trusted.ensures (subst (λ (ns : List Names). TellEach ns c.args.functions.now.meanings.gathered.now.files) (sym c.deref.ensures.value) (subst (TellEach c.in_ok-names.names.items) c.as_slice.ensures c.in_ok-names.ensures))
    ∙ ap (λ (ts : List Taken). head (flat_map (λ (f : FunctionIn). rules.broken_in f.file (rules.function_rows c.args.functions.now.meanings.gathered.now c.args.runner (size_of c.args.functions.now.meanings.gathered.now c.args.layouts.now) f)) (map function_in ts))) c.deref-2.ensures.value
    ∙ ap (λ (fs : List FunctionIn). head (flat_map (λ (f : FunctionIn). rules.broken_in f.file (rules.function_rows c.args.functions.now.meanings.gathered.now c.args.runner (size_of c.args.functions.now.meanings.gathered.now c.args.layouts.now) f)) fs)) c.args.functions.now.trusted_side)
    (sym c.if-is_some.ensures)
    (c.in_ok-untrusted.ensures (subst (λ (ns : List Names). TellEach ns c.args.functions.now.meanings.gathered.now.files) (sym c.deref-3.ensures.value) (subst (TellEach c.in_ok-names.names.items) c.as_slice.ensures c.in_ok-names.ensures))
    ∙ ap (λ (ts : List Taken). head (flat_map (λ (f : FunctionIn). rules.broken_in f.file (rules.function_rows c.args.functions.now.meanings.gathered.now c.args.runner (size_of c.args.functions.now.meanings.gathered.now c.args.layouts.now) f)) (map function_in ts))) c.deref-4.ensures.value
    ∙ ap (λ (fs : List FunctionIn). head (flat_map (λ (f : FunctionIn). rules.broken_in f.file (rules.function_rows c.args.functions.now.meanings.gathered.now c.args.runner (size_of c.args.functions.now.meanings.gathered.now c.args.layouts.now) f)) fs)) c.args.functions.now.untrusted_side)
    ∙ ap head (sym (flat_map-append (λ (f : FunctionIn). rules.broken_in f.file (rules.function_rows c.args.functions.now.meanings.gathered.now c.args.runner (size_of c.args.functions.now.meanings.gathered.now c.args.layouts.now) f)) (trusted_of c.args.functions.now.meanings.gathered.now) (untrusted_of c.args.functions.now.meanings.gathered.now)))
