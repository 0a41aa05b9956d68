use Rattle.std.proofs.Common.{◌∙◌}
use Rattle.attr_terms.proofs.PlaceLaws.{add_law}
use Rattle.attr_terms.proofs.places.Places.add.Goals as goal

pub returns : goal.returns
returns c =
    add_law c.args.self.now (record { first = c.insert.new.self }) c.args.name c.args.place c.copied-known.result c.unwrap_or.result
    (c.copied-known.ensures ∙ c.get.ensures.value) c.unwrap_or.ensures c.in_ok-insert.ensures.entries
