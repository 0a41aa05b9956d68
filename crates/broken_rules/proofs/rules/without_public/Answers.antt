use Rattle.std.proofs.Common.{◌∙◌, sym, ap, Some, [], map, Bool}
use Rattle.std.specs.Prelude.{if◌then◌else◌, option_map}
use Rattle.attr_terms.specs.Rules as rules
use Rattle.std.specs.Prelude.{slice_get}
use Rattle.attr_terms.specs.Taken.{function_in}
use Rattle.broken_rules.proofs.FunctionLaws.{first_taken, public_taken, at_taken}
use Rattle.broken_rules.proofs.rules.without_public.Goals as goal

pub returns-then-has_public : goal.returns-then-has_public
returns-then-has_public c =
    ap (λ (b : Bool). slice_get (if b then [] else rules.first_function 33 (map function_in c.args.trusted.now)) 0) (sym c.if-has_public.true ∙ c.has_public.ensures ∙ public_taken c.args.trusted.now)

pub returns-in-Some : goal.returns-in-Some
returns-in-Some c =
    ap Some c.at_function.ensures ∙ ap (option_map (at_taken 33)) c.in-Some.ensures ∙ first_taken 33 c.args.trusted.now
    ∙ ap (λ (b : Bool). slice_get (if b then [] else rules.first_function 33 (map function_in c.args.trusted.now)) 0) (sym c.if-has_public.false ∙ c.has_public.ensures ∙ public_taken c.args.trusted.now)

pub returns-in-None : goal.returns-in-None
returns-in-None c =
    ap (option_map (at_taken 33)) c.in-None.ensures ∙ first_taken 33 c.args.trusted.now
    ∙ ap (λ (b : Bool). slice_get (if b then [] else rules.first_function 33 (map function_in c.args.trusted.now)) 0) (sym c.if-has_public.false ∙ c.has_public.ensures ∙ public_taken c.args.trusted.now)
