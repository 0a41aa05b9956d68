use Rattle.std.proofs.Common.{◌≡◌, ◌<◌, ◌∷◌, length, arith, sym, ◌∙◌, ap, false}
use Rattle.std.specs.Prelude.{◌==◌}
use Rattle.std.proofs.lemmas.Bool.Decides.{nat_tests}
use Rattle.call_script.specs.Spelling.{lines}
use Rattle.script_words.proofs.WordLaws.{line_left, no_lines}
use Rattle.script_words.proofs.words.Lines.next.Goals as goal

pub returns-then-is_empty : goal.returns-then-is_empty
returns-then-is_empty c =
    let none = sym c.self.view_is ∙ no_lines c.self.inside.bytes.now (sym c.is_empty.ensures ∙ c.if-is_empty.true) in
    (none, none)

pub returns : goal.returns
returns c =
    let bytes = c.self.inside.bytes.now in
    let test : (length bytes == 0) ≡ false = sym c.is_empty.ensures ∙ c.if-is_empty.false in
    let some : 0 < length bytes = grind (arith, nat_tests, test) in
    sym c.self.view_is ∙ line_left bytes c.line_len.result c.split_at.result.0.now c.split_at.result.1.now some
    c.line_len.ensures.value c.split_at.ensures.front c.split_at.ensures.back
    ∙ ap (λ rest. c.split_at.result.0.now ∷ lines rest) (sym c.behind_first-self-inside.ensures)
