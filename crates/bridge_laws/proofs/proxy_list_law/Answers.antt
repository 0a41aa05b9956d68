use Rattle.std.proofs.Common.{Bool, if◌then◌else◌, [], ◌∷◌, ap, ◌∙◌}
use Rattle.bridge_program.specs.declared.Instr.TheVariants.{OBegin, OEnter, OEnd}
use Rattle.bridge_program.specs.Lists.{frame_list}
use Rattle.bridge_laws.specs.Proxy.{ocall_by_list}
use Rattle.bridge_laws.proofs.ProxyWhole.{frame_list_is_ocall}
use Rattle.bridge_laws.proofs.proxy_list_law.Goals as goal

pub returns : goal.returns
returns c = λ m handlers cx ordinal arguments f h l apart.
    ap (λ (b : Bool). ocall_by_list m handlers cx ordinal arguments f (if b then frame_list f else OBegin ∷ OEnter ∷ OEnd ∷ [])) h
    ∙ frame_list_is_ocall m handlers cx ordinal arguments f l apart h
