use Rattle.std.proofs.Common.{◌≡◌, sym, subst}
use Rattle.std.proofs.lemmas.Result.{IfOk-weaker}
use Rattle.attr_terms.specs.Accepted.{size_of, interface_of}
use Rattle.edl_interface.specs.Sound.{IsSound}
use Rattle.accepted_interface.proofs.Bounds.{interface-fits}
use Rattle.accepted_interface.proofs.Unbroken.{unbroken}
use Rattle.accepted_interface.proofs.Soundness.{interface-sound}
use Rattle.accepted_interface.proofs.accept.Goals as goal

pub interface_of-requires-clause-fits : goal.interface_of-requires-clause-fits
interface_of-requires-clause-fits c = interface-fits c.args.functions.now.meanings.gathered.now c.requires.made.0 c.args.layouts.now c.requires.clean.0 c.requires.made.1 c.requires.made.2 c.requires.clean.1

pub returns-clause-sound : goal.returns-clause-sound
returns-clause-sound c =
    let fits = interface-fits c.args.functions.now.meanings.gathered.now c.requires.made.0 c.args.layouts.now c.requires.clean.0 c.requires.made.1 c.requires.made.2 c.requires.clean.1 in
    IfOk-weaker c.interface_of.result (λ i. i ≡ interface_of c.args.functions.now.meanings.gathered.now c.args.layouts.now) IsSound (λ i is. subst IsSound (sym is) (interface-sound c.args.functions.now.meanings.gathered.now c.args.layouts.now c.requires.clean.0 fits (unbroken c.args.functions.now.meanings.gathered.now c.requires.clean.0 (size_of c.args.functions.now.meanings.gathered.now c.args.layouts.now) c.requires.clean.1))) c.interface_of.ensures
