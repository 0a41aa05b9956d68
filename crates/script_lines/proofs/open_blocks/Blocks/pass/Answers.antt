use Rattle.std.proofs.Common.{sym, ◌∙◌, ap}
use Rattle.std.specs.Prelude.{option_map}
use Rattle.call_script.specs.Block.{open_behind}
use Rattle.script_lines.specs.Lines.{line_of}
use Rattle.script_lines.specs.Openings.{blocks_of}
use Rattle.script_lines.specs.Nesting.{open_blocks}
use Rattle.call_script.specs.Block as block
use Rattle.script_lines.proofs.NestingLaws.{blocks_of-end, popped, pushed_or_same, popped_scoped}
use Rattle.script_lines.proofs.open_blocks.Blocks.pass.Goals as goal

pub returns-in_ok-push-in-Opens : goal.returns-in_ok-push-in-Opens
returns-in_ok-push-in-Opens c =
    ap blocks_of c.in_ok-push-in-Opens.ensures.ok ∙ blocks_of-end _ _
    ∙ sym (c.in-Opens.ensures c.args.number (open_blocks c.args.self.now))
    ∙ ap (λ l. open_behind c.args.number (option_map line_of l) (open_blocks c.args.self.now)) (sym c.in-Some.is)

pub returns-in-Closes : goal.returns-in-Closes
returns-in-Closes c =
    popped _ _ _ c.pop.ensures ∙ sym (c.in-Closes.ensures c.args.number (open_blocks c.args.self.now))
    ∙ ap (λ l. open_behind c.args.number (option_map line_of l) (open_blocks c.args.self.now)) (sym c.in-Some.is)

pub invariant_of-self : goal.invariant_of-self
invariant_of-self c = record {
  scoped = pushed_or_same c.push.result _ _ _ c.push.ensures.ok c.push.ensures.err c.args.self.now.scoped
      (c.scope_in-scope.ensures ∙ ap (block.scope_in _) c.scope.ensures);
}

pub invariant_of-self-in-Closes : goal.invariant_of-self-in-Closes
invariant_of-self-in-Closes c = record {
  scoped = popped_scoped c.pop.result _ _ c.pop.ensures c.args.self.now.scoped;
}
