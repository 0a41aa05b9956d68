-- What a loop has made of the items so far that a test lets through.
use Rattle.std.proofs.Common.{◌≡◌, ◌∙◌, ap, sym, ℕ, ◌+◌, ◌<◌, true, false, List, [], ◌∷◌, ◌++◌, map, filter, take, length, get_or, Bool, cond, append-nil}
use Rattle.std.proofs.lemmas.List.{map-append}
use Rattle.std.proofs.lemmas.List.Elements.{filter_more}

module _ {X Y : Type 0} (f : X → Y) (p : X → Bool) (xs : List X) (i : ℕ) (x : X) where
  step : (b : Bool) → p (get_or xs i x) ≡ b → i < length xs
      → map f (filter p (take (i + 1) xs)) ≡ map f (filter p (take i xs)) ++ map f (cond b (get_or xs i x ∷ []) [])
  step b is lt = ap (map f) (filter_more p xs i x lt ∙ ap (λ c. filter p (take i xs) ++ cond c (get_or xs i x ∷ []) []) is)
      ∙ map-append f (filter p (take i xs)) (cond b (get_or xs i x ∷ []) [])

  pub taken_more : (done : List Y) → i < length xs → p (get_or xs i x) ≡ true → done ≡ map f (filter p (take i xs))
      → done ++ f (get_or xs i x) ∷ [] ≡ map f (filter p (take (i + 1) xs))
  taken_more done lt is so_far = ap (λ ys. ys ++ f (get_or xs i x) ∷ []) so_far ∙ sym (step true is lt)

  pub left_more : (done : List Y) → i < length xs → p (get_or xs i x) ≡ false → done ≡ map f (filter p (take i xs))
      → done ≡ map f (filter p (take (i + 1) xs))
  left_more done lt is so_far = so_far ∙ sym (append-nil _) ∙ sym (step false is lt)
