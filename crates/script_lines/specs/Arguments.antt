-- The arguments of a call, and what stands behind them.
use Rattle.std.specs.Prelude.{List, [], ◌∷◌, Option, option_map, unwrap_or, if◌then◌else◌, codes}
use Rattle.std.specs.Str.{bytes_eq}
use Rattle.call_script.specs.Spelling.{Word}
use Rattle.call_script.specs.Parser.{some_arguments, arguments_to_close, arguments, ended}

-- the arguments up to `)`; none where they are not of their form
unfoldable pub listed : List Word → List Word
listed ws = unwrap_or (option_map (λ p. p.0) (arguments_to_close ws)) []

-- what stands behind the `)`
unfoldable pub behind : List Word → Option (List Word)
behind ws = option_map (λ p. p.1) (arguments_to_close ws)

unfoldable pub behind_some : List Word → Option (List Word)
behind_some ws = option_map (λ p. p.1) (some_arguments ws)

-- the words behind a comma, if one comes first
unfoldable pub behind_comma : List Word → List Word
behind_comma [] = []
behind_comma (w ∷ ws) = if bytes_eq w (codes ",") then ws else w ∷ ws

-- the arguments in parentheses with which a line ends
unfoldable pub last_arguments : List Word → Option (List Word)
last_arguments ws = ended (arguments ws)
