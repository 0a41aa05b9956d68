use Rattle.script_values.proofs.TableLaws.{tells_none}
use Rattle.script_values.proofs.functions.first_places.Goals as goal

pub loop-place-init : goal.loop-place-init
loop-place-init c = tells_none c.new-places.result c.new-places.ensures.empty
