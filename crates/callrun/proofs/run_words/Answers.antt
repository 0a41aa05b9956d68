use Rattle.std.proofs.Common.{ap}
use Rattle.callrun.specs.Endings.{task_of, task_of_two}
use Rattle.callrun.proofs.EndingLaws.{ends_by, two_words}
use Rattle.callrun.proofs.run_words.Goals as goal

pub returns-in-len2-clause-cause : goal.returns-in-len2-clause-cause
returns-in-len2-clause-cause g c =
    ends_by c.args.words.now (task_of_two c.first-item.result c.second-item.result)
    (g.F.Files.state c.args.files.now)
    (g.F.Files.state c.run_two.new.files)
    c.run_two.result
    (ap task_of (two_words c.args.words.now c.first-item.result c.second-item.result c.first-item.is c.second-item.is c.in-len2.len_at_least c.in-len2.len_below))
    c.run_two.ensures.cause
