use Rattle.switchless_laws.proofs.Servers.{one_server}
use Rattle.switchless_laws.proofs.one_server_law.Goals as goal

pub returns : goal.returns
returns c = λ pool words participants before between after slot first second keep h at o p.
    one_server pool words participants before between after slot first second h.are_free keep h.shuffled h.legal at o p
