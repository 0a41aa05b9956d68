use Rattle.std.proofs.Common.{inl, refl, ◌∙◌}
use Rattle.callrun.specs.Answers.{out_of_memory}
use Rattle.callrun.proofs.EndingLaws.{answered, complete, over_limit}
use Rattle.callrun.proofs.callrun.Goals as goal

pub returns-in_default-clause-answers : goal.returns-in_default-clause-answers
returns-in_default-clause-answers g c = out_of_memory (inl refl)

pub returns-in_default-text_of-clause-answers : goal.returns-in_default-text_of-clause-answers
returns-in_default-text_of-clause-answers g c = out_of_memory (inl refl)

pub returns : goal.returns
returns g c =
    let before = g.F.Files.state c.args.files.now in
    let after = g.F.Files.state c.run_words.new.files in
    let old = g.O.Sink.state c.args.out.now in
    let new = g.O.Sink.state c.write_text-written.new.out in
    let a = answered c.args.words.now before after old new c.in-Ok.ending c.as_slice.result.now c.write_text-written.result c.status.result c.status_after.result
    c.in-Ok.ensures.cause (c.as_slice.ensures.value ∙ c.in-Ok-text_of.ensures) c.status.ensures
    c.write_text-written.ensures.whole c.write_text-written.ensures.part c.write_text-written.ensures.failed
    c.status_after.ensures.whole c.status_after.ensures.failed c.status_after.ensures.memory in
    record { answers = a; complete = complete c.args.words.now before after old new c.status_after.result a; over_limit = over_limit c.args.words.now before after old new c.status_after.result a; kept = c.run_words.ensures.kept }
