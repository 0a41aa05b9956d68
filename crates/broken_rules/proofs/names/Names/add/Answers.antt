use Rattle.std.proofs.Common.{◌∙◌}
use Rattle.broken_rules.proofs.NameLaws.{add_law}
use Rattle.broken_rules.proofs.names.Names.add.Goals as goal

pub returns : goal.returns
returns c =
    add_law c.args.self.now (record { earliest = c.insert.new.self }) c.args.name c.args.token c.copied-known.result c.earlier_of.result
    (c.copied-known.ensures ∙ c.get.ensures.value) c.earlier_of.ensures c.in_ok-insert.ensures.entries
