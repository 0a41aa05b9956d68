use Rattle.std.proofs.Common.{◌∙◌, sym, ap, Option, List, ◌++◌}
use Rattle.std.specs.Prelude.{option_map}
use Rattle.std.proofs.Common.{take}
use Rattle.std.specs.Prelude.{filter_map}
use Rattle.std.specs.Option.{option_to_list}
use Rattle.edl_grammar.specs.Files.{FunctionIn}
use Rattle.attr_terms.specs.Taken.{function_in, picked}
use Rattle.attr_terms.proofs.Lists.{filter_more}
use Rattle.attr_terms.proofs.functions.functions_of.Goals as goal

pub loop-pick-preserved : goal.loop-pick-preserved
loop-pick-preserved c =
    c.in_ok-put.ensures
    ∙ ap (λ (ys : List FunctionIn). ys ++ option_to_list (option_map function_in c.function_of.result)) c.loop-pick.invariant
    ∙ ap (λ (o : Option FunctionIn). filter_map (picked c.args.is_trusted c.args.gathered.now) (take c.loop-pick.pick-index c.args.picks.now) ++ option_to_list o) c.function_of.ensures
    ∙ sym (filter_more (picked c.args.is_trusted c.args.gathered.now) c.args.picks.now c.loop-pick.pick-index _ c.loop-pick-test.true)
