use Rattle.std.proofs.Common.{◌≡◌, ◌≤◌, ◌-◌, length}
use Rattle.edl_grammar.specs.Parser as parse
use Rattle.edl_parser.proofs.Loops.{stars_after}
use Rattle.edl_parser.proofs.cursor.Cursor.stars.Given as goal

abbrev pub invariant-loop-self : goal.invariant-loop-self
invariant-loop-self l = record {
  shorter : length l.self ≤ length l.initial.self;
  reads : stars_after (length l.initial.self - length l.self) (parse.many (parse.is_mark "*") (parse.mark "*") l.self) ≡ parse.stars l.initial.self;
}

abbrev pub decreases-loop-self : goal.decreases-loop-self
decreases-loop-self l = length l.self
