use Rattle.std.proofs.Common.{◌∙◌, ap}
use Rattle.call_script.specs.Block as block
use Rattle.script_lines.specs.Nesting.{open_blocks, line_at, open_after}
use Rattle.script_lines.proofs.places.place.Goals as goal

pub returns-clause-line : goal.returns-clause-line
unfolding line_at
returns-clause-line c =
    c.line_in-placed.ensures ∙ ap (λ s. block.line_in s c.args.line.now.words) c.scope.ensures

pub returns-clause-blocks : goal.returns-clause-blocks
unfolding open_after
returns-clause-blocks c =
    c.in_ok-pass.ensures
    ∙ ap (λ o. block.open_behind c.args.line.now.number o (open_blocks c.args.blocks.now))
    (c.line_in-placed.ensures ∙ ap (λ s. block.line_in s c.args.line.now.words) c.scope.ensures)
