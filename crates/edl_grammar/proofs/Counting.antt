-- How many symbols there are, and tests of lists in parts.
use Rattle.std.proofs.Common.{◌≡◌, ℕ, suc, Bool, List, [], ◌∷◌, ◌++◌, length, refl, ◌∙◌, ap}
use Rattle.std.specs.Prelude.{◌||◌}
use Rattle.std.specs.List.{list_any}
use Rattle.std.proofs.lemmas.List.Folds.{list_any-append}
use Rattle.edl_lexer.specs.declared.Token.{Token}
use Rattle.edl_grammar.specs.Symbols.{symbols_from}

pub length_symbols : (n : ℕ) (bytes : List ℕ) (tokens : List Token) → length (symbols_from n bytes tokens) ≡ length tokens
length_symbols n bytes [] = refl
length_symbols n bytes (t ∷ ts) = ap suc (length_symbols (suc n) bytes ts)

pub any_of_three : (f : List ℕ → Bool) (xs ys zs : List (List ℕ)) → list_any f (xs ++ (ys ++ zs)) ≡ list_any f xs || (list_any f ys || list_any f zs)
any_of_three f xs ys zs = list_any-append f xs (ys ++ zs) ∙ ap (λ b. list_any f xs || b) (list_any-append f ys zs)
