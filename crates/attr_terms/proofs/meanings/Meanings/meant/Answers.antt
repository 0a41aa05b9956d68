use Rattle.std.proofs.Common.{◌∙◌, sym, ap, ℕ, List}
use Rattle.attr_terms.specs.Attributes as attributes
use Rattle.attr_terms.specs.Kinds as kinds
use Rattle.attr_terms.proofs.KindLaws.{bare_law, tagged_law}
use Rattle.attr_terms.proofs.meanings.Meanings.meant.Goals as goal

pub returns-in-Bare : goal.returns-in-Bare
returns-in-Bare c =
    c.bare.ensures
    ∙ ap (λ (n : List ℕ). kinds.bare_kind (kinds.told c.args.self.now.table n) (kinds.standard_kind n)) c.bytes.ensures
    ∙ ap (λ k. kinds.bare_kind k (kinds.standard_kind c.in-Bare.name)) (c.args.self.now.by_name c.in-Bare.name)
    ∙ sym (bare_law c.args.self.now.gathered.now c.in-Bare.name)
    ∙ ap (λ b. kinds.kind_of (attributes.meant c.args.self.now.gathered.now b)) (sym c.in-Bare.is)

pub returns-in-Tagged : goal.returns-in-Tagged
returns-in-Tagged c =
    c.tagged.ensures
    ∙ ap (λ (n : List ℕ). kinds.tagged_kind c.in-Tagged.tag (kinds.told c.args.self.now.table n)) c.bytes-in-Tagged.ensures
    ∙ ap (λ k. kinds.tagged_kind c.in-Tagged.tag k) (c.args.self.now.by_name c.in-Tagged.name)
    ∙ sym (tagged_law c.args.self.now.gathered.now c.in-Tagged.tag c.in-Tagged.name)
    ∙ ap (λ b. kinds.kind_of (attributes.meant c.args.self.now.gathered.now b)) (sym c.in-Tagged.is)
