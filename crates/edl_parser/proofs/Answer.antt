-- What the whole parser answers.
use Rattle.std.proofs.Common.{◌≡◌, ◌<◌, ℕ, List, [], ◌∷◌, length, refl, subst, arith, Result, Ok, Err}
use Rattle.sgx_base.specs.Outcome.{Gives}
use Rattle.edl_lexer.specs.declared.Token.{Token}
use Rattle.edl_grammar.specs.declared.EdlFile.{EdlFile}
use Rattle.edl_grammar.specs.declared.ParseFault.{ParseFault}
use Rattle.edl_grammar.specs.declared.ParseFault.TheVariants.{Expected, TooDeep, Memory}
use Rattle.edl_grammar.specs.Symbols.{Lexed}
use Rattle.edl_grammar.specs.Sentence.{Parses, least, deep_in}
use Rattle.edl_grammar.specs.Parser.{whole, unexpected, unless_deep, parsing}
use Rattle.edl_grammar.proofs.Theorem.{computed}

module _ (number : ℕ) (bytes : List ℕ) (tokens : List Token) where
  -- symbols are left
  pub some_left : (tree : EdlFile) (rest : List Lexed) → 0 < length rest → whole number bytes tokens (Ok (tree, rest)) ≡ Err (unexpected number bytes tokens rest)
  some_left tree [] h = absurd (omega arith)
  some_left tree (s ∷ rest) h = refl

  -- none is left
  pub none_left : (tree : EdlFile) (rest : List Lexed) → length rest ≡ 0 → whole number bytes tokens (Ok (tree, rest)) ≡ unless_deep number bytes tokens tree (least (deep_in tree))
  none_left tree [] h = refl
  none_left tree (s ∷ rest) h = absurd (omega arith)

  -- the answer is what the grammar says
  pub meaning_of : (r : Result EdlFile ParseFault) → Gives (λ e. e ≡ Memory) r (parsing number bytes tokens) → Parses number bytes tokens r
  meaning_of (Ok tree) h = subst (Parses number bytes tokens) h (computed number bytes tokens)
  meaning_of (Err (Expected token at)) h = subst (Parses number bytes tokens) (h (λ e. cc)) (computed number bytes tokens)
  meaning_of (Err (TooDeep at)) h = subst (Parses number bytes tokens) (h (λ e. cc)) (computed number bytes tokens)
  meaning_of (Err Memory) h = tt
