use Rattle.std.proofs.Common.{◌∙◌, sym, ap, List, ◌++◌, map}
use Rattle.edl_grammar.specs.Files.{FunctionIn, trusted_of, untrusted_of}
use Rattle.attr_terms.specs.Taken.{function_in}
use Rattle.attr_terms.specs.declared.functions.Taken.{Taken}
use Rattle.attr_terms.specs.Rules as rules
use Rattle.broken_rules.proofs.Firsts.{head, head-append, or_cong}
use Rattle.broken_rules.proofs.rules.broken_side.Goals as goal

pub returns : goal.returns
returns c =
    c.or-2.ensures ∙ or_cong (c.or.ensures ∙ or_cong (c.without_public.ensures ∙ ap (λ (ts : List Taken). head (rules.without_public (map function_in ts))) c.deref.ensures.value ∙ ap (λ (fs : List FunctionIn). head (rules.without_public fs)) c.args.functions.now.trusted_side) (c.beyond.ensures ∙ ap (λ (ts : List Taken). head (rules.beyond (map function_in ts))) c.deref-2.ensures.value ∙ ap (λ (fs : List FunctionIn). head (rules.beyond fs)) c.args.functions.now.trusted_side) ∙ sym (head-append (rules.without_public (trusted_of c.args.functions.now.meanings.gathered.now)) (rules.beyond (trusted_of c.args.functions.now.meanings.gathered.now))))
    (c.beyond-2.ensures ∙ ap (λ (ts : List Taken). head (rules.beyond (map function_in ts))) c.deref-3.ensures.value ∙ ap (λ (fs : List FunctionIn). head (rules.beyond fs)) c.args.functions.now.untrusted_side)
    ∙ sym (head-append (rules.without_public (trusted_of c.args.functions.now.meanings.gathered.now) ++ rules.beyond (trusted_of c.args.functions.now.meanings.gathered.now)) (rules.beyond (untrusted_of c.args.functions.now.meanings.gathered.now)))
