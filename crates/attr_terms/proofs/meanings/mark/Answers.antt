use Rattle.std.proofs.Common.{◌∙◌}
use Rattle.attr_terms.specs.Kinds as kinds
use Rattle.attr_terms.proofs.Tables.{told-mark}
use Rattle.attr_terms.proofs.meanings.mark.Goals as goal

pub returns : goal.returns
returns c =
    told-mark (λ o. kinds.with_tag o c.args.tag) c.args.table.now.entries c.insert.new.self.entries c.args.name c.copied-known.result c.with_tag.result
    (c.copied-known.ensures ∙ c.get.ensures.value) c.with_tag.ensures c.in_ok-insert.ensures.entries
