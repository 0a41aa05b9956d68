-- How a file of cases divides into parts.
use Rattle.std.specs.Prelude.{ℕ, suc, ◌≡◌, Bool, true, ◌&&◌, ◌==◌, nat_eq, if◌then◌else◌, List, [], ◌∷◌, ◌++◌, take, codes}
use Rattle.std.specs.List.{starts_with}

-- how many bytes stand before the next line that is a marker, where the first byte begins a line or not
abbrev pub body_length : Bool → List ℕ → ℕ
body_length begins [] = 0
body_length begins (b ∷ bytes) =
    if begins && starts_with nat_eq (b ∷ bytes) (codes "== ") then 0 else suc (body_length (b == 10) bytes)

-- a text begins with a part: its marker's line, and the lines below up to the next marker
pub record IsNextPart (head body before after : List ℕ) : Type 0 where
  pub whole : before ≡ head ++ (body ++ after)
  pub below : body ≡ take (body_length true (body ++ after)) (body ++ after)
