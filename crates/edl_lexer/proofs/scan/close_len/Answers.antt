use Rattle.std.proofs.Common.{arith, ◌≡◌, ◌+◌, ◌∙◌, sym, ap, Some, drop, suc}
use Rattle.std.specs.Prelude.{option_map, if◌then◌else◌}
use Rattle.edl_lexer.specs.Lexemes as lexemes
use Rattle.edl_lexer.proofs.Closing.{close_step, close_end, further}
use Rattle.edl_lexer.proofs.scan.close_len.Goals as goal

pub loop-at-preserved : goal.loop-at-preserved
loop-at-preserved c =
    let step = close_step c.args.bytes.now c.loop-at.at c.loop-at-test.true in
    let chosen : lexemes.close_len (drop c.loop-at.at c.args.bytes.now) ≡ option_map suc (lexemes.close_len (drop (c.loop-at.at + 1) c.args.bytes.now))
    = step ∙ ap (λ b. if b then Some 2 else option_map suc (lexemes.close_len (drop (c.loop-at.at + 1) c.args.bytes.now))) (sym c.closes.ensures ∙ c.if-closes.false) in
    record { within = omega arith; rest = sym (further c.loop-at.at (lexemes.close_len (drop (c.loop-at.at + 1) c.args.bytes.now))) ∙ ap (option_map (λ n. c.loop-at.at + n)) (sym chosen) ∙ c.loop-at.invariant.rest }

pub returns-clause-value : goal.returns-clause-value
returns-clause-value c = sym (ap (option_map (λ n. c.loop-at.at + n)) (close_end c.args.bytes.now c.loop-at.at (omega arith))) ∙ c.loop-at.invariant.rest
