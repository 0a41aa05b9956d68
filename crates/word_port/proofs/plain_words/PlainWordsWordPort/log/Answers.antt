use Rattle.std.proofs.Common.{subst}
use Rattle.word_port.specs.Port.{PortState}
use Rattle.word_port.specs.History.{IsLegal, with_races}
use Rattle.word_port.specs.Names.{words_named, races_named}
use Rattle.word_port.proofs.NameLaws.{words_named-name_of, races_named-name_of}
use Rattle.word_port.proofs.plain_words.PlainWordsWordPort.log.Goals as goal

pub returns-clause-legal : goal.returns-clause-legal
returns-clause-legal c =
    subst (λ (p : PortState). IsLegal (words_named p.name) (with_races p.host (races_named p.name) p.log)) c.self.view_is
    (rw (words_named-name_of, races_named-name_of) c.self.invariant.0.legal)
