-- What a function that parses ensures.
use Rattle.std.specs.Prelude.{◌≡◌, ℕ, List, Result, Ok, Err}
use Rattle.edl_grammar.specs.declared.EdlFile.{EdlFile}
use Rattle.edl_grammar.specs.declared.Phrase.{Phrase}
use Rattle.edl_grammar.specs.Grammar.{both}
use Rattle.edl_grammar.specs.Symbols.{Lexed}
use Rattle.edl_grammar.specs.Parser.{Outcome, Parser, ◌>>◌, ◌means◌, pure, mark, marked, said_as}
use Rattle.edl_parser.specs.declared.cursor.Stop.{Stop}
use Rattle.edl_parser.specs.declared.cursor.Stop.TheVariants.{Unexpected, Memory}

-- the parser's outcome, unless memory runs out; where a symbol is unexpected the cursor stands at it
abbrev pub Reads : {A : Type 0} → Outcome A → Result A Stop → List Lexed → Type 0
Reads outcome (Ok a) new = outcome ≡ Ok (a, new)
Reads outcome (Err Unexpected) new = outcome ≡ Err new
Reads outcome (Err Memory) new = Unit {0}

-- what is read, behind the items of a file
abbrev pub behind : EdlFile → Outcome EdlFile → Outcome EdlFile
behind file (Ok (items, rest)) = Ok (both file items, rest)
behind file (Err rest) = Err rest

-- the parser's outcome goes to the ends of a file, unless memory runs out
abbrev pub Adds : Outcome EdlFile → Result (Unit {0}) Stop → (old new : EdlFile) → List Lexed → Type 0
Adds outcome (Ok _) old new rest = behind old outcome ≡ Ok (new, rest)
Adds outcome (Err Unexpected) old new rest = outcome ≡ Err rest
Adds outcome (Err Memory) old new rest = Unit {0}

-- the value, once the mark is taken
abbrev pub then_mark : {A : Type 0} → A → ℕ → Parser A
then_mark a byte = marked byte >> pure a

-- the value, once `}` and `;` are taken
abbrev pub closed : {A : Type 0} → A → Parser A
closed a = mark "}" >> (mark ";" >> pure a)

-- the word, which means this value
abbrev pub said_meaning : {A : Type 0} → List ℕ → A → Parser (A × Phrase)
said_meaning word a = said_as word means a
