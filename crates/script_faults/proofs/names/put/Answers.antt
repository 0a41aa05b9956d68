use Rattle.std.proofs.Common.{sym, ◌∙◌, ap}
use Rattle.std.specs.Prelude.{◌||◌, option_map}
use Rattle.std.specs.List.{list_any}
use Rattle.std.specs.Str.{bytes_eq}
use Rattle.script_faults.specs.Names.{listed, tells}
use Rattle.script_faults.proofs.NameLaws.{told-more}
use Rattle.script_faults.proofs.names.put.Goals as goal

pub returns-in_ok-insert : goal.returns-in_ok-insert
returns-in_ok-insert c = λ w.
    told-more c.args.names.now.keys _ c.in-Some.name w c.in_ok-insert.ensures.keys
    ∙ ap (λ o. tells c.args.names.now w || list_any (bytes_eq w) (listed (option_map (λ n. n.now) o)))
    (sym c.in-Some.is)
