use Rattle.script_words.proofs.LineLaws.{few_lines}
use Rattle.script_words.proofs.words.Lines.new.Goals as goal

pub returns-clause-few : goal.returns-clause-few
returns-clause-few c = few_lines c.args.bytes.now
