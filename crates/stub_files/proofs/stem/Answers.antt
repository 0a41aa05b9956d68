use Rattle.std.proofs.Common.{◌≡◌, ◌∙◌, ap, codes, List, ℕ, Option, Some, None, refl}
use Rattle.std.specs.Prelude.{unwrap_or, option_map}
use Rattle.std.specs.Borrow.{Bor}
use Rattle.stub_files.specs.StubFiles.{without_end}
use Rattle.stub_files.proofs.NameLaws.{stripped}
use Rattle.stub_files.proofs.stem.Goals as goal

now_of : (r : Option (Bor (List ℕ))) (d : Bor (List ℕ)) → (unwrap_or r d).now ≡ unwrap_or (option_map (λ x. x.now) r) d.now
now_of None d = refl
now_of (Some x) d = refl

pub returns : goal.returns
returns c =
    ap (λ (x : Bor (List ℕ)). x.now) c.unwrap_or.ensures ∙ now_of c.strip_suffix.result c.base_name-name.result
    ∙ stripped (codes ".edl") c.base_name-name.result.now c.strip_suffix.result c.strip_suffix.ensures.cases
    ∙ ap (without_end (codes ".edl")) c.base_name-name.ensures
