-- Texts that are appended one after another.
use Rattle.std.proofs.Common.{ℕ, ◌≡◌, List, ◌++◌, ap, ◌∙◌, append_assoc}

pub joined : (old one a b : List ℕ) → one ≡ old ++ a → one ++ b ≡ old ++ (a ++ b)
joined old one a b e = ap (λ l. l ++ b) e ∙ append_assoc old a b
