use Rattle.std.proofs.Common.{Some, ap, sym, ◌∙◌, subst}
use Rattle.edl_grammar.specs.Files.{types_of}
use Rattle.edl_layout.specs.Meaning.{Meaning}
use Rattle.edl_layout.specs.Targets.{IsTarget}
use Rattle.edl_layout.proofs.Naming.{declared_bare, standard_bare, foreign_bare}
use Rattle.edl_layout.proofs.tables.Declarations.bare_target.Goals as goal

pub returns-in-Some : goal.returns-in-Some
returns-in-Some c = declared_bare c.args.self.now.gathered.now c.args.self.now.foreign.now c.args.name.now c.in-Some.number (sym c.in-Some.ensures)

pub returns-in-Some-standard_size_of : goal.returns-in-Some-standard_size_of
returns-in-Some-standard_size_of c = standard_bare c.args.self.now.gathered.now c.args.self.now.foreign.now c.args.name.now c.in-Some-standard_size_of.size (sym c.in_default.ensures) (sym c.in-Some-standard_size_of.ensures) ∙ ap Some (sym c.square.ensures)

pub returns-in-None : goal.returns-in-None
returns-in-None c =
    subst (λ (m : Meaning). IsTarget (types_of c.args.self.now.gathered.now) m c.foreign_target.result)
    (sym (foreign_bare c.args.self.now.gathered.now c.args.self.now.foreign.now c.args.name.now (sym c.in_default.ensures) (sym c.in-None.ensures))) c.foreign_target.ensures
