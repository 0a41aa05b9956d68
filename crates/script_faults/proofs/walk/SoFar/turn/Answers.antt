use Rattle.std.proofs.Common.{refl, sym, ◌≡◌, ◌∙◌, ap, Some, true, true≢false}
use Rattle.std.specs.Prelude.{not, is_some}
use Rattle.call_script.specs.Block as block
use Rattle.call_script.specs.Faults.{rows}
use Rattle.script_lines.specs.Lines.{line_of}
use Rattle.script_lines.specs.Nesting.{open_blocks, numbered}
use Rattle.script_faults.specs.Codes.{first_code}
use Rattle.script_faults.specs.Walk.{standing}
use Rattle.script_faults.proofs.WalkLaws.{turn-some}
use Rattle.script_faults.proofs.walk.SoFar.turn.Goals as goal

pub returns-in_ok-pass : goal.returns-in_ok-pass
returns-in_ok-pass c = λ before left a h.
    let l = numbered c.args.line.now in
    let ls = c.args.behind.now in
    let line = line_of c.in-Some.placed in
    let e : block.line_in (block.scope_of (open_blocks c.args.self.now.blocks)) c.args.line.now.words ≡ Some line =
    sym (c.in-Some.ensures ∙ ap (λ s. block.line_in s c.args.line.now.words) c.scope.ensures) in
    turn-some c.args.interface.now c.args.asked.racing left before l ls c.args.self.now _ line c.code-code.result e
    (c.code-code.ensures before l ls h e
    ∙ ap (λ t. first_code (rows c.args.interface.now c.args.asked.racing t
    (standing before (open_blocks c.args.self.now.blocks) l ls) line)) a)
    (λ k limits. c.in_ok-pass.ensures before l refl h e limits)

pub returns-else-is_none : goal.returns-else-is_none
returns-else-is_none c = λ before left a h.
    let l = numbered c.args.line.now in
    let ls = c.args.behind.now in
    let line = line_of c.in-Some.placed in
    let e : block.line_in (block.scope_of (open_blocks c.args.self.now.blocks)) c.args.line.now.words ≡ Some line =
    sym (c.in-Some.ensures ∙ ap (λ s. block.line_in s c.args.line.now.words) c.scope.ensures) in
    turn-some c.args.interface.now c.args.asked.racing left before l ls c.args.self.now _ line c.code-code.result e
    (c.code-code.ensures before l ls h e
    ∙ ap (λ t. first_code (rows c.args.interface.now c.args.asked.racing t
    (standing before (open_blocks c.args.self.now.blocks) l ls) line)) a)
    (λ k limits.
    let some : is_some c.code-code.result ≡ true = c.is_none.ensures ∙ ap not c.if-is_none.false in
    absurd (true≢false (sym some ∙ ap is_some k)))
