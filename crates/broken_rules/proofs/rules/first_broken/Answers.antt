use Rattle.std.proofs.Common.{◌∙◌, sym, ap, ◌++◌}
use Rattle.edl_grammar.specs.Files.{FunctionIn, trusted_of, untrusted_of}
use Rattle.attr_terms.specs.Accepted.{size_of}
use Rattle.std.specs.List.{flat_map}
use Rattle.attr_terms.specs.Rules as rules
use Rattle.std.proofs.Common.{append_assoc}
use Rattle.edl_grammar.specs.declared.Gathered.{Gathered}
use Rattle.edl_grammar.specs.Files.{TypeIn, types_of}
use Rattle.broken_rules.proofs.Firsts.{head, head-front, head-rest, head-append, or_cong}
use Rattle.broken_rules.proofs.rules.first_broken.Goals as goal

pub returns-then-is_some : goal.returns-then-is_some
returns-then-is_some c =
    head-front (((flat_map (λ (t : TypeIn). rules.broken_in t.file (rules.type_rows c.args.gathered.now t)) (types_of c.args.gathered.now)) ++ (flat_map (λ (f : FunctionIn). rules.broken_in f.file (rules.function_rows c.args.gathered.now c.args.runner (size_of c.args.gathered.now c.args.layouts.now) f)) (trusted_of c.args.gathered.now ++ untrusted_of c.args.gathered.now))) ++ (rules.without_public (trusted_of c.args.gathered.now)) ++ (rules.beyond (trusted_of c.args.gathered.now))) (rules.beyond (untrusted_of c.args.gathered.now)) c.in_ok-in_types.in_types
    (head-front (((flat_map (λ (t : TypeIn). rules.broken_in t.file (rules.type_rows c.args.gathered.now t)) (types_of c.args.gathered.now)) ++ (flat_map (λ (f : FunctionIn). rules.broken_in f.file (rules.function_rows c.args.gathered.now c.args.runner (size_of c.args.gathered.now c.args.layouts.now) f)) (trusted_of c.args.gathered.now ++ untrusted_of c.args.gathered.now))) ++ (rules.without_public (trusted_of c.args.gathered.now))) (rules.beyond (trusted_of c.args.gathered.now)) c.in_ok-in_types.in_types (head-front ((flat_map (λ (t : TypeIn). rules.broken_in t.file (rules.type_rows c.args.gathered.now t)) (types_of c.args.gathered.now)) ++ (flat_map (λ (f : FunctionIn). rules.broken_in f.file (rules.function_rows c.args.gathered.now c.args.runner (size_of c.args.gathered.now c.args.layouts.now) f)) (trusted_of c.args.gathered.now ++ untrusted_of c.args.gathered.now))) (rules.without_public (trusted_of c.args.gathered.now)) c.in_ok-in_types.in_types (head-front (flat_map (λ (t : TypeIn). rules.broken_in t.file (rules.type_rows c.args.gathered.now t)) (types_of c.args.gathered.now)) (flat_map (λ (f : FunctionIn). rules.broken_in f.file (rules.function_rows c.args.gathered.now c.args.runner (size_of c.args.gathered.now c.args.layouts.now) f)) (trusted_of c.args.gathered.now ++ untrusted_of c.args.gathered.now)) c.in_ok-in_types.in_types (c.in_ok-in_types.ensures c.args.gathered.now (sym c.as_slice.ensures)) (sym c.if-is_some.ensures)) (sym c.if-is_some.ensures)) (sym c.if-is_some.ensures)) (sym c.if-is_some.ensures)

pub returns : goal.returns
returns c =
    c.or.ensures
    ∙ or_cong
    (head-rest (flat_map (λ (t : TypeIn). rules.broken_in t.file (rules.type_rows c.args.gathered.now t)) (types_of c.args.gathered.now)) (flat_map (λ (f : FunctionIn). rules.broken_in f.file (rules.function_rows c.args.gathered.now c.args.runner (size_of c.args.gathered.now c.args.layouts.now) f)) (trusted_of c.args.gathered.now ++ untrusted_of c.args.gathered.now)) c.in_ok-in_types.in_types c.in_ok-in_functions.in_functions (c.in_ok-in_types.ensures c.args.gathered.now (sym c.as_slice.ensures)) (sym c.if-is_some.ensures)
    (c.in_ok-in_functions.ensures ∙ ap (λ (g : Gathered). head (flat_map (λ (f : FunctionIn). rules.broken_in f.file (rules.function_rows g c.args.runner (size_of g c.args.layouts.now) f)) (trusted_of g ++ untrusted_of g))) c.in_ok-functions.ensures))
    (c.broken_side.ensures ∙ ap (λ (g : Gathered). head (rules.without_public (trusted_of g) ++ rules.beyond (trusted_of g) ++ rules.beyond (untrusted_of g))) c.in_ok-functions.ensures)
    ∙ sym (head-append ((flat_map (λ (t : TypeIn). rules.broken_in t.file (rules.type_rows c.args.gathered.now t)) (types_of c.args.gathered.now)) ++ (flat_map (λ (f : FunctionIn). rules.broken_in f.file (rules.function_rows c.args.gathered.now c.args.runner (size_of c.args.gathered.now c.args.layouts.now) f)) (trusted_of c.args.gathered.now ++ untrusted_of c.args.gathered.now))) ((rules.without_public (trusted_of c.args.gathered.now)) ++ (rules.beyond (trusted_of c.args.gathered.now)) ++ (rules.beyond (untrusted_of c.args.gathered.now))))
    ∙ ap head (sym (append_assoc ((flat_map (λ (t : TypeIn). rules.broken_in t.file (rules.type_rows c.args.gathered.now t)) (types_of c.args.gathered.now)) ++ (flat_map (λ (f : FunctionIn). rules.broken_in f.file (rules.function_rows c.args.gathered.now c.args.runner (size_of c.args.gathered.now c.args.layouts.now) f)) (trusted_of c.args.gathered.now ++ untrusted_of c.args.gathered.now))) ((rules.without_public (trusted_of c.args.gathered.now)) ++ (rules.beyond (trusted_of c.args.gathered.now))) (rules.beyond (untrusted_of c.args.gathered.now))) ∙ ap (λ z. z ++ (rules.beyond (untrusted_of c.args.gathered.now))) (sym (append_assoc ((flat_map (λ (t : TypeIn). rules.broken_in t.file (rules.type_rows c.args.gathered.now t)) (types_of c.args.gathered.now)) ++ (flat_map (λ (f : FunctionIn). rules.broken_in f.file (rules.function_rows c.args.gathered.now c.args.runner (size_of c.args.gathered.now c.args.layouts.now) f)) (trusted_of c.args.gathered.now ++ untrusted_of c.args.gathered.now))) (rules.without_public (trusted_of c.args.gathered.now)) (rules.beyond (trusted_of c.args.gathered.now)))))
