-- The blocks that are open, as their definition has them.
use Rattle.std.specs.Prelude.{ℕ, List, [], ◌∷◌, drop, Option, Some, None}
use Rattle.call_script.specs.Line as line
use Rattle.call_script.specs.Spelling.{NumberedLine}
use Rattle.call_script.specs.Block as block
use Rattle.script_words.specs.declared.words.NumberedLine.{NumberedLine as Numbered}
use Rattle.script_lines.specs.declared.blocks.Nesting.{Nesting}
use Rattle.script_lines.specs.declared.blocks.Nesting.TheVariants.{Opens, Closes, Stays}
use Rattle.script_lines.specs.declared.open_blocks.Blocks.{Blocks}
use Rattle.script_lines.specs.Openings.{opening_of, blocks_of}

abbrev pub open_blocks : Blocks → List block.Block
open_blocks b = blocks_of b.from_outside

-- the blocks behind a line of this number
abbrev pub behind : Nesting → ℕ → List block.Block → List block.Block
behind (Opens opening) n around = record { number = n; opening = opening_of opening } ∷ around
behind Closes n around = drop 1 around
behind Stays n around = around

-- the number of the outermost block, and of the innermost
abbrev pub outermost : List block.Block → Option ℕ
outermost [] = None
outermost (b ∷ []) = Some b.number
outermost (b ∷ c ∷ bs) = outermost (c ∷ bs)

abbrev pub innermost : List block.Block → Option ℕ
innermost [] = None
innermost (b ∷ bs) = Some b.number

abbrev pub numbered : Numbered → NumberedLine
numbered l = record { number = l.number; words = l.words }

-- what a line is in these blocks
unfoldable pub line_at : List block.Block → NumberedLine → Option line.Line
line_at around l = block.line_in (block.scope_of around) l.words

-- the blocks that are open behind a line, where these are before it
unfoldable pub open_after : List block.Block → NumberedLine → List block.Block
open_after around l = block.open_after (block.placed around l)

-- the blocks that are open behind all these lines
unfoldable pub open_after_all : List block.Block → List NumberedLine → List block.Block
open_after_all around [] = around
open_after_all around (l ∷ ls) = open_after_all (open_after around l) ls
