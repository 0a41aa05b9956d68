-- Reserved words.
use Rattle.std.proofs.Common.{ℕ, ◌≡◌, Bool, List, ◌++◌, ap, ◌∙◌}
use Rattle.std.specs.Prelude.{◌||◌}
use Rattle.std.specs.List.{list_any}
use Rattle.std.proofs.lemmas.List.Folds.{list_any-append}

-- whether one of three lists has an element that passes the test
pub any_of_three : (f : List ℕ → Bool) (xs ys zs : List (List ℕ))
    → list_any f (xs ++ (ys ++ zs)) ≡ list_any f xs || (list_any f ys || list_any f zs)
any_of_three f xs ys zs = list_any-append f xs (ys ++ zs) ∙ ap (λ b. list_any f xs || b) (list_any-append f ys zs)
