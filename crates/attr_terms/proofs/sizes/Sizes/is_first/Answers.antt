use Rattle.std.proofs.Common.{ap, sym, ◌∙◌}
use Rattle.attr_terms.specs.Sizing.{is_tagged}
use Rattle.attr_terms.proofs.SizeLaws.{tagged-kind}
use Rattle.attr_terms.proofs.sizes.Sizes.is_first.Goals as goal

pub returns : goal.returns
returns c = c.is_tagged.ensures ∙ ap (is_tagged c.args.tag) c.named.ensures ∙ sym (tagged-kind c.args.tag _)
