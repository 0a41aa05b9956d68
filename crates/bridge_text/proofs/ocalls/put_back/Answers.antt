use Rattle.std.proofs.Common.{ℕ, ◌≡◌, List, OnOk, subst}
use Rattle.bridge_text.proofs.Joining.{joined}
use Rattle.bridge_text.proofs.ocalls.put_back.Goals as goal

pub returns : goal.returns
returns c =
    subst (λ (l : List ℕ). OnOk c.put_back_end.result (c.put_back_end.new.out.items ≡ l))
    (joined _ _ _ _ c.in_ok-put_of_param.ensures) c.put_back_end.ensures
