use Rattle.std.proofs.Common.{arith, ◌≡◌, ◌+◌, ◌-◌, ◌<◌, suc, length, length-drop, length-take, length-append, drop, sym, ◌∙◌, ap, subst, false, refl, ◌∷◌, [], ◌++◌, inr, Err}
use Rattle.edl_lexer.specs.Lexing as lexing
use Rattle.edl_lexer.proofs.Turns.{with_front, with_front-token, begun, skip, Turned, turned, gap_at, piece_at, flawed_at, full_at, at_end}
use Rattle.edl_lexer.proofs.Divided.{tokens_divided, fault_found, no_tokens}
use Rattle.edl_lexer.proofs.Within.{tokens_lie, tokens_follow}
use Rattle.edl_lexer.proofs.lex.Goals as goal

pub loop-at-init : goal.loop-at-init
loop-at-init c = record {
  rest = begun c.new-tokens.result.items c.new-tokens.ensures.items (λ room. lexing.tokens_from c.args.file room 0 false c.start-at.result (drop c.start-at.result.offset c.args.bytes.now))
      ∙ ap (λ n. lexing.tokens_from c.args.file 65536 0 false c.start-at.result (drop n c.args.bytes.now)) c.start-at.ensures.offset
      ∙ ap (λ at. lexing.tokens_from c.args.file 65536 0 false at (drop (lexing.mark_len c.args.bytes.now) c.args.bytes.now)) c.start-at.ensures.value
      ∙ sym (skip c.args.file 65536 (lexing.mark_len c.args.bytes.now) false lexing.opening c.args.bytes.now);
  room = let e : length c.new-tokens.result.items ≡ 0 = ap length c.new-tokens.ensures.items in omega arith;
  offset = c.start-at.ensures.within;
  line = c.start-at.ensures.line;
  column = c.start-at.ensures.column;
}

gap_turned : (c : goal.After-advance-at) → Turned c.loop-at.at c.advance-at.result c.in-Gap.len
gap_turned c = turned c.args.bytes.now c.loop-at.at c.in-Gap.len c.loop-at-test.true c.in-Gap.ensures.within c.advance-at.result c.advance-at.ensures

pub loop-at-smaller-in-Gap : goal.loop-at-smaller-in-Gap
loop-at-smaller-in-Gap c = let t = gap_turned c in let long : 0 < c.in-Gap.len = c.in-Gap.ensures.gap c.in-Gap.len refl in omega (arith, t.offset, c.loop-at-test.true)

pub loop-at-preserved-in-Gap : goal.loop-at-preserved-in-Gap
loop-at-preserved-in-Gap c = let t = gap_turned c in record {
  rest = ap (with_front c.loop-at.tokens.items) (sym (gap_at c.args.bytes.now c.loop-at.at c.in-Gap.len c.loop-at-test.true c.in-Gap.ensures.within c.advance-at.result c.advance-at.ensures
      c.args.file (65536 - length c.loop-at.tokens.items) c.loop-at.after_number c.in-Gap.ensures.value (c.in-Gap.ensures.gap c.in-Gap.len refl))) ∙ c.loop-at.invariant.rest;
  room = c.loop-at.invariant.room;
  offset = omega (arith, t.offset, c.in-Gap.ensures.within, length-take (length c.args.bytes.now - c.loop-at.at.offset) (drop c.loop-at.at.offset c.args.bytes.now), length-drop c.loop-at.at.offset c.args.bytes.now);
  line = omega (arith, t.line, t.offset, c.loop-at.invariant.line);
  column = omega (arith, t.column, t.offset, c.loop-at.invariant.column);
}

piece_turned : (c : goal.After-is_number-after_number) → Turned c.loop-at.at c.advance-at-in-Piece.result c.in-Piece.len
piece_turned c = turned c.args.bytes.now c.loop-at.at c.in-Piece.len c.loop-at-test.true c.in-Piece.ensures.within c.advance-at-in-Piece.result c.advance-at-in-Piece.ensures

pub loop-at-smaller : goal.loop-at-smaller
loop-at-smaller c = let t = piece_turned c in let long : 0 < c.in-Piece.len = c.in-Piece.ensures.piece c.in-Piece.kind c.in-Piece.len refl in omega (arith, t.offset, c.loop-at-test.true)

pub loop-at-preserved : goal.loop-at-preserved
loop-at-preserved c =
    let t = piece_turned c in
    let made = lexing.token c.in-Piece.kind c.in-Piece.len c.loop-at.at in
    let pushed : c.push.new.self.items ≡ c.loop-at.tokens.items ++ made ∷ [] = c.in_ok-push-in-Piece.ensures.items in
    let one : length c.push.new.self.items ≡ length c.loop-at.tokens.items + 1 = ap length pushed ∙ length-append c.loop-at.tokens.items (made ∷ []) in
    let less : length c.loop-at.tokens.items < 65536 = omega (arith, c.if-len-eq-MAX_TOKENS.false, c.len.ensures, c.loop-at.tokens.ok.0, c.loop-at.invariant.room) in
    let room : suc (65536 - length c.push.new.self.items) ≡ 65536 - length c.loop-at.tokens.items = omega arith in
    record {
      rest = subst (λ z. with_front z (lexing.tokens_from c.args.file (65536 - length c.push.new.self.items) 0 c.is_number-after_number.result c.advance-at-in-Piece.result (drop c.advance-at-in-Piece.result.offset c.args.bytes.now)) ≡ lexing.tokens_from c.args.file 65536 (lexing.mark_len c.args.bytes.now) false lexing.opening c.args.bytes.now) (sym pushed)
          (with_front-token c.loop-at.tokens.items made _
          ∙ ap (λ b. with_front c.loop-at.tokens.items (lexing.with_token made (lexing.tokens_from c.args.file (65536 - length c.push.new.self.items) 0 b c.advance-at-in-Piece.result (drop c.advance-at-in-Piece.result.offset c.args.bytes.now)))) c.is_number-after_number.ensures
          ∙ ap (with_front c.loop-at.tokens.items) (sym (piece_at c.args.bytes.now c.loop-at.at c.in-Piece.len c.loop-at-test.true c.in-Piece.ensures.within c.advance-at-in-Piece.result c.advance-at-in-Piece.ensures
          c.args.file (65536 - length c.push.new.self.items) c.in-Piece.kind c.loop-at.after_number c.in-Piece.ensures.value (c.in-Piece.ensures.piece c.in-Piece.kind c.in-Piece.len refl)))
          ∙ ap (λ r. with_front c.loop-at.tokens.items (lexing.tokens_from c.args.file r 0 c.loop-at.after_number c.loop-at.at (drop c.loop-at.at.offset c.args.bytes.now))) room
          ∙ c.loop-at.invariant.rest);
      room = omega arith;
      offset = omega (arith, t.offset, c.in-Piece.ensures.within, length-take (length c.args.bytes.now - c.loop-at.at.offset) (drop c.loop-at.at.offset c.args.bytes.now), length-drop c.loop-at.at.offset c.args.bytes.now);
      line = omega (arith, t.line, t.offset, c.loop-at.invariant.line);
      column = omega (arith, t.column, t.offset, c.loop-at.invariant.column);
    }

pub returns-in-No-clause-fault : goal.returns-in-No-clause-fault
returns-in-No-clause-fault c =
    let stopped = flawed_at c.args.bytes.now c.loop-at.at c.loop-at-test.true c.args.file c.loop-at.after_number (65536 - length c.loop-at.tokens.items) c.in-No.flaw c.in-No.ensures.value in
    inr (fault_found c.args.file c.args.bytes.now c.fault_of-in-No.result (sym c.loop-at.invariant.rest ∙ ap (with_front c.loop-at.tokens.items) stopped ∙ ap (λ z. Err z) (sym c.fault_of-in-No.ensures)))

pub returns-in-No-clause-refused : goal.returns-in-No-clause-refused
returns-in-No-clause-refused c = no_tokens c.args.file c.args.bytes.now c.fault_of-in-No.result (returns-in-No-clause-fault c)

pub returns-then-len-eq-MAX_TOKENS-clause-fault : goal.returns-then-len-eq-MAX_TOKENS-clause-fault
returns-then-len-eq-MAX_TOKENS-clause-fault c =
    let none : 65536 - length c.loop-at.tokens.items ≡ 0 = omega (arith, c.if-len-eq-MAX_TOKENS.true, c.len.ensures, c.loop-at.tokens.ok.0) in
    let stopped = full_at c.args.bytes.now c.loop-at.at c.loop-at-test.true c.args.file c.loop-at.after_number (65536 - length c.loop-at.tokens.items) c.in-Piece.len c.in-Piece.kind none c.in-Piece.ensures.value in
    inr (fault_found c.args.file c.args.bytes.now c.fault_of.result (sym c.loop-at.invariant.rest ∙ ap (with_front c.loop-at.tokens.items) stopped ∙ ap (λ z. Err z) (sym c.fault_of.ensures)))

pub returns-then-len-eq-MAX_TOKENS-clause-refused : goal.returns-then-len-eq-MAX_TOKENS-clause-refused
returns-then-len-eq-MAX_TOKENS-clause-refused c = no_tokens c.args.file c.args.bytes.now c.fault_of.result (returns-then-len-eq-MAX_TOKENS-clause-fault c)

pub returns-clause-divided : goal.returns-clause-divided
returns-clause-divided c =
    tokens_divided c.args.file c.args.bytes.now c.loop-at.tokens.items (sym c.loop-at.invariant.rest
    ∙ at_end c.args.file (65536 - length c.loop-at.tokens.items) c.loop-at.after_number c.loop-at.at c.loop-at.tokens.items (drop c.loop-at.at.offset c.args.bytes.now)
    (omega (arith, length-drop c.loop-at.at.offset c.args.bytes.now, c.loop-at-test.false)))

pub returns-clause-within : goal.returns-clause-within
returns-clause-within c = tokens_lie c.args.bytes.now c.loop-at.tokens.items (returns-clause-divided c) c.loop-at.invariant.room

pub returns-clause-in_order : goal.returns-clause-in_order
returns-clause-in_order c = tokens_follow c.args.bytes.now c.loop-at.tokens.items (returns-clause-divided c)
