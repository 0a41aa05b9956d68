-- The parser and the grammar agree.
use Rattle.std.proofs.Common.{◌≡◌, ℕ, List}
use Rattle.edl_lexer.specs.declared.Token.{Token}
use Rattle.edl_grammar.specs.declared.EdlFile.{EdlFile}
use Rattle.edl_grammar.specs.Symbols.{Lexed}
use Rattle.edl_grammar.specs.Grammar.{file}
use Rattle.edl_grammar.specs.Sentence.{Parses}
use Rattle.edl_grammar.specs.Parser as parse
use Rattle.edl_grammar.proofs.Agrees.{Agrees, anywhere}
use Rattle.edl_grammar.proofs.Productions.{Apart, file_agrees}
use Rattle.edl_grammar.proofs.Tails.{tail_agrees}
use Rattle.edl_grammar.proofs.Params.{params_agree}
use Rattle.edl_grammar.proofs.Values.{enum_values_agree}
use Rattle.edl_grammar.proofs.Counting.{length_symbols}
use Rattle.edl_grammar.proofs.Whole.{one_value, parses}

pub apart : Apart
apart = record { values = enum_values_agree; params = params_agree; tail = tail_agrees }

pub whole_agrees : Agrees file parse.file anywhere
whole_agrees = file_agrees apart

-- what is computed is what the grammar says
pub computed : (number : ℕ) (bytes : List ℕ) (tokens : List Token) → Parses number bytes tokens (parse.parsing number bytes tokens)
computed number bytes tokens = parses whole_agrees number bytes tokens (length_symbols 0 bytes tokens)

-- a sentence has one tree
pub one_tree : (ss : List Lexed) (a b : EdlFile) → file ss a → file ss b → a ≡ b
one_tree = one_value whole_agrees
