-- The acts of blocks, by the lines of a script that are of blocks.
use Rattle.std.specs.Prelude.{ℕ, zero, suc, ◌≡◌, ◌≤◌, ◌<◌, ◌-◌, ◌^◌, length, map, filter, Bool, false, List, [], ◌∷◌, filter_map, Option}
use Rattle.std.specs.List.{list_any, AllByRecursion}
use Rattle.sgx_base.specs.Stores.{max_file_size}
use Rattle.edl_interface.specs.declared.Interface.{Interface}
use Rattle.edl_interface.specs.declared.Function.{Function}
use Rattle.edl_interface.specs.Sound.{IsSound}
use Rattle.call_script.specs.declared.CallArg.{CallArg}
use Rattle.call_script.specs.declared.HostAct.{HostAct, Call as call_act}
use Rattle.call_script.specs.Spelling.{Word, is_place_out, is_out_of}
use Rattle.call_script.specs.Line.{Line, Call, Raw, Poke, Peek, Repeat, Status, Temp, Do}
use Rattle.call_script.specs.Block.{PlacedLine, placed_lines}
use Rattle.call_script.specs.Arguments.{number_of, is_place_argument_out}
use Rattle.call_script.specs.Parts.{any_part, is_no_cell, is_skip_past}
use Rattle.call_script.specs.Standing.{named, is_repeat, is_thread, is_racer}
use Rattle.call_script.specs.Faults.{max_nesting}
use Rattle.call_script.specs.Meaning as meaning
use Rattle.script_blocks.specs.Blocks.{HomeLine, home_line, block_lines, in_block, inside, AreInPlace}
use Rattle.script_blocks.specs.declared.acts.Source.{Source}
use Rattle.script_blocks.specs.declared.thread.Kind.{Kind}
use Rattle.script_blocks.specs.declared.thread.Kind.TheVariants.{Thread, Racer}

-- ---- what a line does

-- the numbers of a line fit
abbrev pub IsFitting : Line → Type 0
IsFitting (Call name args) = list_any is_place_argument_out args ≡ false
IsFitting (Raw ordinal address) = number_of ordinal < 2 ^ 32
IsFitting (Poke place hex) = is_place_out place ≡ false
IsFitting (Peek place count) = (is_place_out place ≡ false) × (number_of count < 2 ^ 32)
IsFitting (Repeat times) = number_of times < 2 ^ 32
IsFitting (Status status) = number_of status < 2 ^ 32
IsFitting (Do phrase) =
    (any_part (is_no_cell (2 ^ 32)) phrase.parts ≡ false) × (any_part (is_skip_past (2 ^ 32 - 1)) phrase.parts ≡ false)
IsFitting (Temp name size) = is_out_of 1 65536 size ≡ false
IsFitting _ = Unit {0}

abbrev pub Fits : HomeLine → Type 0
Fits l = IsFitting l.line

-- what a line of this number does, where the acts of each block are given; the program and the lines around play no part
abbrev pub act_of : Interface → (ℕ → List HostAct) → ℕ → Line → Option HostAct
act_of i acts_in n line = meaning.act_of i false [] acts_in n line

-- the arguments of a call of a function by these words
abbrev pub arguments : Interface → Option Function → List Word → List CallArg
arguments i f args = meaning.arguments i false [] f args

-- the call of the ECALL of this name with these words
abbrev pub call_of : Interface → Word → List Word → HostAct
call_of i name args = call_act (meaning.ordinal_of i.ecalls name) (arguments i (named i.ecalls name) args)

-- what a line does that is no repeat, whatever its number and the acts of blocks
abbrev pub IsActOf : Interface → Line → Option HostAct → Type 0
IsActOf i line act = (acts_in : ℕ → List HostAct) (n : ℕ) → is_repeat line ≡ false → act ≡ act_of i acts_in n line

-- the line opens a block of the kind
abbrev pub opens_kind : Kind → Line → Bool
opens_kind Thread = is_thread
opens_kind Racer = is_racer

module _ (i : Interface) where
  -- what lines do, where the acts of each block are given
  abbrev pub acts_by : (ℕ → List HostAct) → List HomeLine → List HostAct
  acts_by acts_in ls = filter_map (λ l. act_of i acts_in l.number l.line) ls

  module _ (all : List HomeLine) where
    -- the acts of each block, where repeats are nested so deep at most
    unfoldable pub acts_to : ℕ → ℕ → List HostAct
    acts_to zero n = []
    acts_to (suc depth) n = acts_by (acts_to depth) (in_block n all)

    -- what a line does, where repeats are nested so deep in it at most
    unfoldable pub act_there : ℕ → HomeLine → Option HostAct
    act_there depth l = act_of i (acts_to depth) l.number l.line

    unfoldable pub acts_of : ℕ → List HomeLine → List HostAct
    acts_of depth ls = acts_by (acts_to depth) ls

    -- ---- whole blocks

    -- the acts of the block that a line opens, and of all that is nested in it
    unfoldable pub block_acts : ℕ → List HostAct
    block_acts n = acts_to (suc max_nesting) n

    -- the acts of each block of a kind that these lines open, in order
    unfoldable pub opened_acts : Kind → List HomeLine → List (List HostAct)
    opened_acts kind ls = map (λ l. block_acts l.number) (filter (λ l. opens_kind kind l.line) ls)

-- ---- a script that is read

abbrev pub lines_of : Source → List HomeLine
lines_of s = map home_line s.lines.now

-- lines in their places, whose numbers fit, for an interface within its limits
pub record IsGood (s : Source) : Type 0 where
  pub sound : IsSound s.interface.now
  pub fits : AllByRecursion Fits (lines_of s)
  pub placed : AreInPlace (lines_of s) (lines_of s)
  pub few : length (lines_of s) ≤ max_file_size
