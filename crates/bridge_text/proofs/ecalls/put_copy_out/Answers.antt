use Rattle.std.proofs.Common.{ℕ, ◌≡◌, List, OnOk, subst}
use Rattle.bridge_text.proofs.Joining.{joined}
use Rattle.bridge_text.proofs.ecalls.put_copy_out.Goals as goal

pub returns : goal.returns
returns c =
    subst (λ (l : List ℕ). OnOk c.put_of_param.result (c.put_of_param.new.out.items ≡ l))
    (joined _ _ _ _ c.in_ok-put_end.ensures) c.put_of_param.ensures
