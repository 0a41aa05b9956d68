-- What opens a block, and the scopes in open blocks.
use Rattle.std.specs.Prelude.{ℕ, Bool, true, ◌&&◌, ◌==◌, List, [], ◌∷◌, map, reverse}
use Rattle.std.specs.Str.{bytes_eq}
use Rattle.call_script.specs.Spelling.{Word}
use Rattle.call_script.specs.Line as line
use Rattle.call_script.specs.Block as block
use Rattle.script_lines.specs.declared.blocks.Opening.{Opening}
use Rattle.script_lines.specs.declared.blocks.Opening.TheVariants.{Body, Handler, Thread, Racer, Repeat}
use Rattle.script_lines.specs.declared.blocks.Block.{Block}
use Rattle.script_lines.specs.Lines.{scope_of}

-- the line that opens the block
abbrev pub opening_of : Opening → line.Line
opening_of (Body name) = line.Body name.now
opening_of (Handler name) = line.Handler name.now
opening_of Thread = line.Thread
opening_of Racer = line.Racer
opening_of (Repeat times) = line.Repeat times.now

abbrev pub block_of : Block → block.Block
block_of b = record { number = b.number; opening = opening_of b.opening }

-- the blocks with the innermost first, where the outermost comes first
unfoldable pub blocks_of : List Block → List block.Block
blocks_of bs = reverse (map block_of bs)

-- a scope, by a number for its kind and the name in it
abbrev pub kind : block.Scope → ℕ
kind block.Outside = 0
kind (block.InBody name) = 1
kind (block.InHandler name) = 2
kind block.InThread = 3
kind block.InRacer = 4

abbrev pub name_in : block.Scope → Word
name_in (block.InBody name) = name
name_in (block.InHandler name) = name
name_in _ = []

abbrev pub is_same_scope : block.Scope → block.Scope → Bool
is_same_scope a b = kind a == kind b && bytes_eq (name_in a) (name_in b)

-- each of the blocks, of which the outermost comes first, has the scope in it, where this is the scope around them
unfoldable pub are_scoped : block.Scope → List Block → Bool
are_scoped around [] = true
are_scoped around (b ∷ bs) =
    is_same_scope (scope_of b.scope) (block.scope_in (opening_of b.opening) around)
    && are_scoped (block.scope_in (opening_of b.opening) around) bs
