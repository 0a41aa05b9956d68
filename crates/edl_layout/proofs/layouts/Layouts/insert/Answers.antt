use Rattle.std.proofs.Common.{ap, ◌∙◌}
use Rattle.std.specs.Str.{bytes_eq}
use Rattle.edl_layout.specs.Table.{entry}
use Rattle.edl_layout.proofs.LayoutLaws.{shown-insert}
use Rattle.edl_layout.proofs.layouts.Layouts.insert.Goals as goal

pub returns-clause-ok : goal.returns-clause-ok
returns-clause-ok c =
    rw (c.in_ok-insert.ensures.entries, ← c.self.view_is) (shown-insert c.self.inside.layouts _ _ _ _ _ c.args.name.now _ _ c.in_ok-name.ensures.items (λ j. ap (λ n. bytes_eq n j.items) c.in_ok-name.ensures.items) (ap (λ t. entry t c.args.name.now) c.self.view_is ∙ c.requires))
