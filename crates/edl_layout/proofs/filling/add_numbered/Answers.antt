use Rattle.std.proofs.Common.{◌∙◌, sym}
use Rattle.std.proofs.lemmas.Result.{IfOk-weaker}
use Rattle.edl_grammar.specs.Files.{types_of}
use Rattle.edl_layout.specs.Filled.{Covers, CoversAt}
use Rattle.edl_layout.specs.Meaning.{is_named}
use Rattle.edl_layout.proofs.Covering.{covers_name}
use Rattle.edl_layout.proofs.filling.add_numbered.Goals as goal

pub returns-in-Some-clause-covers : goal.returns-in-Some-clause-covers
returns-in-Some-clause-covers c =
    let g = c.args.types.now.gathered in
    let foreign = c.args.types.now.foreign in
    IfOk-weaker c.add.result (λ _. Covers g foreign c.add.new.table c.in-Some.name.now) (λ _. CoversAt g foreign is_named (types_of g) c.args.number c.add.new.table)
    (λ _ h t name at named. covers_name g foreign c.add.new.table c.in-Some.name.now name (sym (c.in-Some.ensures t name at) ∙ named) h) c.add.ensures.covers

pub returns-in-None-clause-covers : goal.returns-in-None-clause-covers
returns-in-None-clause-covers c t name at named = absurd (cc (sym (c.in-None.ensures t name at) ∙ named))
