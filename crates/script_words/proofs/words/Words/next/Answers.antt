use Rattle.std.proofs.Common.{◌≡◌, ◌<◌, ◌-◌, [], length, drop, take, arith, sym, ◌∙◌, ap, false}
use Rattle.std.specs.Prelude.{◌==◌}
use Rattle.std.proofs.lemmas.Bool.Decides.{nat_tests}
use Rattle.script_words.proofs.WordLaws.{none_left, one_left, no_items}
use Rattle.script_words.proofs.words.Words.next.Goals as goal

pub returns-then-is_empty : goal.returns-then-is_empty
returns-then-is_empty c =
    let bytes = c.self.inside.bytes.now in
    let empty : take (length bytes - c.blank_len.result) (drop c.blank_len.result bytes) ≡ [] =
    no_items _ (sym c.is_empty.ensures ∙ c.if-is_empty.true) in
    let both = none_left bytes c.blank_len.result c.blank_len.ensures.value empty in
    (sym c.self.view_is ∙ both.0, both.1)

pub returns : goal.returns
returns c =
    let bytes = c.self.inside.bytes.now in
    let test : (length (take (length bytes - c.blank_len.result) (drop c.blank_len.result bytes)) == 0) ≡ false =
    sym c.is_empty.ensures ∙ c.if-is_empty.false in
    let some : 0 < length (take (length bytes - c.blank_len.result) (drop c.blank_len.result bytes)) =
    grind (arith, nat_tests, test) in
    sym c.self.view_is
    ∙ one_left bytes c.blank_len.result c.word_len.result c.split_at.result.0.now c.split_at.result.1.now
    c.blank_len.ensures.value some c.word_len.ensures.value
    (c.split_at.ensures.front
    ∙ ap (λ m. take m (take (length bytes - c.blank_len.result) (drop c.blank_len.result bytes))) c.max.ensures)
    (c.split_at.ensures.back
    ∙ ap (λ m. drop m (take (length bytes - c.blank_len.result) (drop c.blank_len.result bytes))) c.max.ensures)
