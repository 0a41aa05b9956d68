-- The arguments of a call, one after another.
use Rattle.std.proofs.Common.{arith, ℕ, ◌-◌, ◌≤◌, ◌≡◌, List, [], ◌∷◌, ◌++◌, length, map, zip, take, drop, ap, ◌∙◌, append_assoc, Bor}
use Rattle.std.specs.Prelude.{slice_index_or}
use Rattle.std.proofs.Math.Seq.{take-length}

-- the first of two lists gives the first, the rest give the rest
pub pushed : {A B : Type 0} (f : A → List ℕ → B) (old mid new : List B) (xs : List A) (ys : List (Bor (List ℕ))) (x : A)
    (d : Bor (List ℕ)) → 1 ≤ length xs → 1 ≤ length ys → x ≡ slice_index_or xs 0 x
    → mid ≡ old ++ f x (slice_index_or ys 0 d).now ∷ []
    → new ≡ mid ++ map (λ p. f p.0 p.1) (zip (take (length xs - 1) (drop 1 xs))
    (map (λ y. y.now) (take (length ys - 1) (drop 1 ys))))
    → new ≡ old ++ map (λ p. f p.0 p.1) (zip xs (map (λ y. y.now) ys))
pushed f old mid new [] ys x d l k e g h = absurd (omega arith)
pushed f old mid new (z ∷ xs) [] x d l k e g h = absurd (omega arith)
pushed f old mid new (z ∷ xs) (y ∷ ys) x d l k e g h =
    let n : length (z ∷ xs) - 1 ≡ length xs = omega arith in
    let m : length (y ∷ ys) - 1 ≡ length ys = omega arith in
    h
    ∙ ap (λ zs. mid ++ map (λ p. f p.0 p.1) (zip zs (map (λ w. w.now) (take (length (y ∷ ys) - 1) ys))))
    (ap (λ a. take a xs) n ∙ take-length xs)
    ∙ ap (λ ws. mid ++ map (λ p. f p.0 p.1) (zip xs (map (λ w. w.now) ws))) (ap (λ a. take a ys) m ∙ take-length ys)
    ∙ ap (λ b. b ++ map (λ p. f p.0 p.1) (zip xs (map (λ w. w.now) ys))) (g ∙ ap (λ q. old ++ f q y.now ∷ []) e)
    ∙ append_assoc old (f z y.now ∷ []) (map (λ p. f p.0 p.1) (zip xs (map (λ w. w.now) ys)))
