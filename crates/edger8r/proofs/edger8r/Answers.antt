use Rattle.std.proofs.Common.{refl, ◌∙◌}
use Rattle.edger8r.proofs.AnswerLaws.{answered, untold, complete}
use Rattle.edger8r.proofs.KeptLaws.{others_stay}
use Rattle.edger8r.proofs.edger8r.Goals as goal

pub returns-in_default : goal.returns-in_default
returns-in_default g c =
    let before = g.F.Files.state c.args.files.now in
    let after = g.F.Files.state c.make_words-ending.new.files in
    let old = g.O.Sink.state c.args.out.now in
    let a = untold c.args.words.now before after old old c.make_words-ending.result refl c.make_words-ending.ensures in
    record {
      answers = a;
      others = others_stay c.args.words.now before after c.make_words-ending.result c.make_words-ending.ensures;
      complete = λ m n. complete c.args.words.now before after old old n 6 a m;
    }

pub returns : goal.returns
returns g c =
    let before = g.F.Files.state c.args.files.now in
    let after = g.F.Files.state c.make_words-ending.new.files in
    let old = g.O.Sink.state c.args.out.now in
    let new = g.O.Sink.state c.write_text-written.new.out in
    let a = answered c.args.words.now before after old new c.make_words-ending.result c.as_slice.result.now c.write_text-written.result c.status.result c.status_after.result
    c.make_words-ending.ensures (c.as_slice.ensures.value ∙ c.in-Ok.ensures) c.status.ensures
    c.write_text-written.ensures.whole c.write_text-written.ensures.part c.write_text-written.ensures.failed
    c.status_after.ensures.whole c.status_after.ensures.failed c.status_after.ensures.memory in
    record {
      answers = a;
      others = others_stay c.args.words.now before after c.make_words-ending.result c.make_words-ending.ensures;
      complete = λ m n. complete c.args.words.now before after old new n c.status_after.result a m;
    }
