use Rattle.switchless_laws.proofs.Servers.{collected_left, served_word}
use Rattle.switchless_laws.proofs.collected_law.Goals as goal

pub returns-clause-left : goal.returns-clause-left
returns-clause-left c = λ pool words participants before after slot word keep h at.
    collected_left pool words participants before after slot word h.are_free keep h.shuffled h.legal at

pub returns-clause-served : goal.returns-clause-served
returns-clause-served c = served_word
