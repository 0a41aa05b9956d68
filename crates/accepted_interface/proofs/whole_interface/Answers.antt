use Rattle.std.proofs.Common.{◌≡◌, Bool, [], sym, subst}
use Rattle.edl_layout.specs.declared.ForeignTypes.{ForeignTypes}
use Rattle.edl_layout.specs.Faults.{HasLayouts}
use Rattle.edl_layout.specs.Table.{IsTable}
use Rattle.attr_terms.specs.Accepted.{size_of}
use Rattle.attr_terms.specs.Rules.{broken}
use Rattle.accepted_interface.proofs.whole_interface.Goals as goal

pub accept-requires-clause-clean : goal.accept-requires-clause-clean
accept-requires-clause-clean c = subst (λ g. (runner : Bool) × (broken g runner (size_of g c.args.layouts.now) ≡ [])) (sym c.in_ok-functions.ensures) c.requires.clean

pub accept-requires-clause-made : goal.accept-requires-clause-made
accept-requires-clause-made c = subst (λ g. (foreign : ForeignTypes) × HasLayouts g foreign × IsTable g foreign c.args.layouts.now) (sym c.in_ok-functions.ensures) c.requires.made
