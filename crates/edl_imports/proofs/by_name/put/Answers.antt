use Rattle.std.proofs.Common.{cond, List, [], Option, Some, ap, ◌∙◌}
use Rattle.std.specs.Prelude.{unwrap_or}
use Rattle.std.specs.Map.{lookup}
use Rattle.std.specs.Str.{bytes_eq}
use Rattle.edl_grammar.specs.declared.Pick.{Pick}
use Rattle.edl_imports.proofs.ByName.{puts_law}
use Rattle.edl_imports.proofs.by_name.put.Goals as goal

pub returns : goal.returns
returns c = λ q.
    puts_law c.args.table.now c.swap_remove.new.self c.insert.new.self c.args.name.now c.args.pick c.or_none-picks.result
    (c.or_none-picks.ensures ∙ ap (λ (r : Option (List Pick)). unwrap_or r []) c.swap_remove.ensures.value) c.swap_remove.ensures.updates.0
    (λ x. c.in_ok-insert.ensures.updates.0 x
    ∙ ap (λ (ps : List Pick). cond (bytes_eq c.args.name.now x.now) (Some ps) (lookup (λ y. bytes_eq x.now y.now) c.swap_remove.new.self.entries)) c.in_ok-push.ensures.ok) q
