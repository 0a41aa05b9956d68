-- A fold over the lines that are left.
use Rattle.std.proofs.Common.{◌≡◌, List, [], ◌∷◌, refl}
use Rattle.std.specs.Prelude.{fold}
use Rattle.call_script.specs.Line.{Line}

module _ {A : Type 0} (f : A → Line → A) (old : A) (lines : List Line) where
  pub fold_turn : (new : A) (line : Line) (rest : List Line) → lines ≡ line ∷ rest → new ≡ f old line
      → fold f new rest ≡ fold f old lines
  fold_turn new line rest e g = rw (e, g) refl

  pub fold_end : lines ≡ [] → fold f old lines ≡ old
  fold_end e = rw e refl
