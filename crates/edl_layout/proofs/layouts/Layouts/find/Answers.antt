use Rattle.std.proofs.Common.{sym}
use Rattle.edl_layout.proofs.LayoutLaws.{entry-shown}
use Rattle.edl_layout.proofs.layouts.Layouts.find.Goals as goal

pub returns : goal.returns
returns c = rw (← c.self.view_is, c.get.ensures.value) (sym (entry-shown c.self.inside.layouts.entries (λ k. k.items) (λ l. l.extent.size) (λ l. l.extent.align) (λ l. l.offsets) c.args.name.now))
