use Rattle.script_blocks.proofs.BodyLaws.{fits_names}
use Rattle.script_blocks.proofs.body.body_of.Goals as goal

pub new-names-requires : goal.new-names-requires
new-names-requires c =
    fits_names _ _ _ _ _ _ c.params_of.ensures c.requires.params c.as_slice.ensures c.in_ok-temporaries.ensures
    c.requires.few
