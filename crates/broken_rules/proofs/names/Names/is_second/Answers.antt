use Rattle.std.proofs.Common.{◌∙◌, ap}
use Rattle.broken_rules.specs.Names.{is_before}
use Rattle.broken_rules.proofs.NameLaws.{second_law}
use Rattle.broken_rules.proofs.names.Names.is_second.Goals as goal

pub returns : goal.returns
returns c = λ list h.
    c.is_before.ensures ∙ ap (λ t. is_before t c.args.token) (c.copied.ensures ∙ c.get.ensures.value) ∙ second_law c.args.self.now c.args.token c.args.name.now list h
