use Rattle.std.proofs.Common.{◌∙◌, ap}
use Rattle.call_script.specs.Meaning.{ordinal_in}
use Rattle.script_values.specs.Functions.{TellsPlaces}
use Rattle.script_values.proofs.TableLaws.{place_within}
use Rattle.script_values.proofs.functions.NamedFunctions.place_of.Goals as goal

pub returns-clause-value : goal.returns-clause-value
unfolding TellsPlaces
returns-clause-value c =
    c.copied.ensures ∙ c.get.ensures.value ∙ c.self.invariant c.args.name.now
    ∙ ap (λ fs. ordinal_in fs c.args.name.now) c.self.view_is

pub returns-clause-within : goal.returns-clause-within
unfolding TellsPlaces
returns-clause-within c =
    place_within c.args.self.now c.args.name.now c.copied.result
    (c.copied.ensures ∙ c.get.ensures.value ∙ c.self.invariant c.args.name.now
    ∙ ap (λ fs. ordinal_in fs c.args.name.now) c.self.view_is)
