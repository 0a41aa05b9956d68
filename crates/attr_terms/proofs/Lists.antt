-- Loops over lists: the turns that were made, and the whole.
use Rattle.std.proofs.Common.{arith, ℕ, zero, suc, ◌≡◌, ◌+◌, ◌<◌, ◌≤◌, List, [], ◌∷◌, ◌++◌, length, take, get_or, Option, Some, None, refl, ◌∙◌, ap, add-one}
use Rattle.std.specs.Prelude.{filter_map}
use Rattle.std.specs.List.{cons_option}
use Rattle.std.specs.Option.{option_to_list}
use Rattle.std.proofs.Math.Seq.{take-suc}

pub take_whole : {X : Type 0} (xs : List X) (i : ℕ) → length xs ≤ i → take i xs ≡ xs
take_whole [] zero h = refl
take_whole [] (suc i) h = refl
take_whole (x ∷ xs) zero h = absurd (omega arith)
take_whole (x ∷ xs) (suc i) h = ap (λ ys. x ∷ ys) (take_whole xs i (omega arith))

one_option : {Y : Type 0} (o : Option Y) → cons_option o [] ≡ option_to_list o
one_option None = refl
one_option (Some y) = refl

module _ {X : Type 0} where
  filter_map-append : {Y : Type 0} (f : X → Option Y) (xs ys : List X) → filter_map f (xs ++ ys) ≡ filter_map f xs ++ filter_map f ys
  filter_map-append f [] ys = refl
  filter_map-append {Y} f (x ∷ xs) ys = ap (cons_option (f x)) (filter_map-append f xs ys) ∙ by (f x)
    where
      by : (o : Option Y) → cons_option o (filter_map f xs ++ filter_map f ys) ≡ cons_option o (filter_map f xs) ++ filter_map f ys
      by None = refl
      by (Some y) = refl

  pub filter_more : {Y : Type 0} (f : X → Option Y) (xs : List X) (i : ℕ) (d : X) → i < length xs → filter_map f (take (i + 1) xs) ≡ filter_map f (take i xs) ++ option_to_list (f (get_or xs i d))
  filter_more f xs i d h =
      ap (filter_map f) (ap (λ n. take n xs) (add-one i) ∙ take-suc xs i d h) ∙ filter_map-append f (take i xs) (get_or xs i d ∷ [])
      ∙ ap (λ ys. filter_map f (take i xs) ++ ys) (one_option (f (get_or xs i d)))
