-- The first token of declarations that are too deep.
use Rattle.std.specs.Prelude.{ℕ, nat_lt, [], ◌∷◌, map, filter, Option, Some, None}
use Rattle.edl_grammar.specs.declared.FuncDecl.{FuncDecl}
use Rattle.edl_grammar.specs.Sentence.{least, least_of, max_depth}

-- the lesser of two numbers that may be there
abbrev pub earlier : Option ℕ → Option ℕ → Option ℕ
earlier None m = m
earlier (Some n) m = Some (least_of n m)

-- the function's name, where its result has too many stars
abbrev pub deep_result : FuncDecl → Option ℕ
deep_result function = least (map (λ f. f.token) (filter (λ f. nat_lt max_depth f.result.stars) (function ∷ [])))
