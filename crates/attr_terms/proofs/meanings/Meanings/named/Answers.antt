use Rattle.std.proofs.Common.{ap, sym, ◌∙◌}
use Rattle.attr_terms.specs.Kinds.{bare_kind, standard_kind}
use Rattle.attr_terms.proofs.KindLaws.{bare_law}
use Rattle.attr_terms.proofs.meanings.Meanings.named.Goals as goal

pub returns : goal.returns
returns c = c.bare.ensures ∙ ap (λ k. bare_kind k (standard_kind c.args.name.now)) (c.args.self.now.by_name c.args.name.now) ∙ sym (bare_law c.args.self.now.gathered.now c.args.name.now)
