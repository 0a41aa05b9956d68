use Rattle.std.proofs.Common.{◌+◌, ◌<◌, ◌≤◌, length, take, drop, get_or, arith}
use Rattle.std.proofs.lemmas.List.{drop_more}
use Rattle.std.proofs.lemmas.List.Elements.{All-weaker, All-more, All-rest}
use Rattle.word_port.specs.declared.Race.{Race}
use Rattle.word_port.proofs.PlainLaws.{races_begin, races_more, races_end, later_next, byte_stays}
use Rattle.word_port.proofs.plain_words.make_races.Goals as goal

-- what stands past the end of a list of races
abbrev none : Race
none = record { at = 0; index = 0; value = 0 }

pub loop-made-init : goal.loop-made-init
loop-made-init c = record {
  words = races_begin c.args.words.now c.args.races.now c.args.accesses c.args.made c.requires.turn;
  before = All-weaker (λ r. r.at ≤ c.args.accesses) (λ r. r.at ≤ c.args.accesses + 1) (λ r l. omega (arith, l)) (take c.args.made c.args.races.now) c.requires.turn.before;
  after = All-weaker (λ r. c.args.accesses < r.at) (λ r. c.args.accesses + 1 ≤ r.at) (λ r l. omega (arith, l)) (drop c.args.made c.args.races.now) c.requires.turn.after;
  bytes = λ k h. h;
}

pub loop-made-preserved : goal.loop-made-preserved
loop-made-preserved c =
    let races = c.args.races.now in
    let now = c.loop-made in
    let within : now.made < length races = c.loop-made-test.true in
    record {
      words = rw c.from.ensures (races_more c.args.words.now now.words races (c.args.accesses + 1) now.made none within c.if-races-made.true now.invariant.words);
      before = All-more (λ r. r.at ≤ c.args.accesses + 1) races now.made none within now.invariant.before (let e = c.if-races-made.true in omega arith);
      after = All-rest (λ r. c.args.accesses + 1 ≤ r.at) (get_or races now.made none) (drop (now.made + 1) races) (drop now.made races) (drop_more races now.made none within) now.invariant.after;
      bytes = λ k h. byte_stays now.words (get_or races now.made none).index c.from.result k (omega arith) (now.invariant.bytes k h);
    }

pub returns-else-races-made-clause-words : goal.returns-else-races-made-clause-words
returns-else-races-made-clause-words c =
    let now = c.loop-made in
    races_end c.args.words.now now.words c.args.races.now (c.args.accesses + 1) now.made
    (later_next c.args.races.now (c.args.accesses + 1) now.made none c.requires.order c.loop-made-test.true c.if-races-made.false now.invariant.after)
    now.invariant.words

pub returns-else-races-made-clause-turn : goal.returns-else-races-made-clause-turn
returns-else-races-made-clause-turn c =
    let now = c.loop-made in
    record {
      before = now.invariant.before;
      after = later_next c.args.races.now (c.args.accesses + 1) now.made none c.requires.order c.loop-made-test.true c.if-races-made.false now.invariant.after;
    }
