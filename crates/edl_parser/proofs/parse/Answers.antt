use Rattle.edl_parser.proofs.Answer.{meaning_of}
use Rattle.edl_parser.proofs.parse.Goals as goal

pub returns-clause-meaning : goal.returns-clause-meaning
returns-clause-meaning c = meaning_of _ _ _ _ c.parse_whole.ensures
