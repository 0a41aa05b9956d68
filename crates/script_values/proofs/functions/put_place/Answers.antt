use Rattle.std.proofs.Common.{◌∙◌}
use Rattle.script_values.proofs.TableLaws.{tells_more}
use Rattle.script_values.proofs.functions.put_place.Goals as goal

pub returns : goal.returns
returns c =
    tells_more c.args.places.now c.insert.new.self c.bytes-name.result c.copied-known.result c.args.place
    c.unwrap_or.result c.args.function.now c.bytes-name.ensures (c.copied-known.ensures ∙ c.get.ensures.value)
    c.unwrap_or.ensures c.in_ok-insert.ensures.entries
