-- The script that lines without faults spell.
use Rattle.std.specs.Prelude.{ℕ, zero, suc, ◌+◌, ◌-◌, ◌*◌, ◌==◌, Bool, false, if◌then◌else◌, List, [], ◌∷◌, ◌++◌, map, filter, filter_map, flat_map, find, fold, zip, replicate, slice_set, position, Option, Some, None, option_map, option_and_then, unwrap_or}
use Rattle.std.specs.List.{enumerate_from}
use Rattle.std.specs.Str.{bytes_eq}
use Rattle.sgx_base.specs.Ranges.{host_start}
use Rattle.edl_interface.specs.declared.Function.{Function}
use Rattle.edl_interface.specs.declared.Interface.{Interface}
use Rattle.body_vm.specs.declared.Body.{Body}
use Rattle.body_vm.specs.declared.Action.{Action}
use Rattle.body_vm.specs.declared.Action.TheVariants as action
use Rattle.word_port.specs.declared.Race.{Race}
use Rattle.call_script.specs.declared.HostAct.{HostAct, Call as call_act, Raw as raw_act, Poke as poke_act, Peek as peek_act, Return as return_act, Reply as reply_act, Repeat as repeat_act}
use Rattle.call_script.specs.declared.CallArg.{CallArg}
use Rattle.call_script.specs.declared.Settings.{Settings}
use Rattle.call_script.specs.declared.Script.{Script}
use Rattle.call_script.specs.Spelling.{Word}
use Rattle.call_script.specs.Settings as setting
use Rattle.call_script.specs.BodyNames.{BodyNames, register_of, block_of, pass_of}
use Rattle.body_vm.specs.declared.Pass.{Pass}
use Rattle.body_vm.specs.declared.Pass.TheVariants.{Bytes as by_block}
use Rattle.call_script.specs.Line.{Line, Bytes, Cell, Race as race_line, Call, Raw, Poke, Peek, Repeat, Return, Status, Do, Temp, Ocall}
use Rattle.call_script.specs.Block.{PlacedLine, home}
use Rattle.call_script.specs.Arguments.{number_of, bytes_of, place_named, argument_of}
use Rattle.call_script.specs.Standing.{lines_of, setting_in, named, params_of, names_in, body_name, handler_name, is_thread, is_racer}
use Rattle.call_script.specs.Faults.{max_nesting}

-- ---- initial words

-- so many words that are 0
unfoldable pub zeros : ℕ → List ℕ
zeros n = replicate n 0

-- the bytes written one after another, from an index on
abbrev pub written : List ℕ → ℕ → List ℕ → List ℕ
written host at [] = host
written host at (b ∷ bytes) = written (slice_set host at b) (at + 1) bytes

-- the index of the host byte at an address
abbrev pub index_of : Word → ℕ
index_of address = number_of address - host_start

-- host memory behind a line, where it was this before; a later line wins
abbrev pub host_behind : List ℕ → Line → List ℕ
host_behind host (Bytes address hex) = written host (index_of address) (bytes_of hex)
host_behind host _ = host

abbrev pub cells_behind : List ℕ → Line → List ℕ
cells_behind cells (Cell cell value) = slice_set cells (number_of cell) (number_of value)
cells_behind cells _ = cells

-- ---- races

-- each byte is one race, in order at following addresses
abbrev pub races_from : ℕ → ℕ → List ℕ → List Race
races_from k index [] = []
races_from k index (b ∷ bytes) = record { at = k; index = index; value = b } ∷ races_from k (index + 1) bytes

abbrev pub races_in : Line → List Race
races_in (race_line access address hex) = races_from (number_of access) (index_of address) (bytes_of hex)
races_in _ = []

-- ---- functions

-- the place of a function in its list
abbrev pub ordinal_in : List Function → Word → Option ℕ
ordinal_in fs w = position (λ f. bytes_eq f.name w) fs

abbrev pub ordinal_of : List Function → Word → ℕ
ordinal_of fs w = unwrap_or (ordinal_in fs w) 0

-- whether a line passes the test
abbrev pub is_line : (Line → Bool) → PlacedLine → Bool
is_line test l = unwrap_or (option_map test l.line) false

-- whether a line names the function of this ordinal
abbrev pub names_ordinal : (Line → Option Word) → List Function → ℕ → PlacedLine → Bool
names_ordinal name_of fs n l =
    unwrap_or (option_map (λ k. k == n) (option_and_then (ordinal_in fs) (option_and_then name_of l.line))) false

module _ (i : Interface) (racing : Bool) (script : List PlacedLine) where
  -- ---- settings and initial words

  abbrev pub setting_at_end : setting.Setting → ℕ
  setting_at_end s = setting_in (lines_of script) s

  abbrev pub if_racing : ℕ → ℕ
  if_racing n = if racing then n else 0

  abbrev pub settings : Settings
  settings = record {
    host = setting_at_end setting.host;
    stack = setting_at_end setting.stack;
    arena = setting_at_end setting.arena;
    cells = setting_at_end setting.cells;
    retries = setting_at_end setting.retries;
    tworkers = if_racing (setting_at_end setting.tworkers);
    uworkers = if_racing (setting_at_end setting.uworkers);
    slots = setting_at_end setting.slots;
  }

  abbrev pub host_bytes : List ℕ
  host_bytes = fold host_behind (zeros settings.host) (lines_of script)

  abbrev pub cell_words : List ℕ
  cell_words = fold cells_behind (zeros settings.cells) (lines_of script)

  -- host bytes, cells, the slots of both pools, the stop word
  abbrev pub initial_words : List ℕ
  initial_words = host_bytes ++ cell_words ++ zeros (if_racing (2 * settings.slots)) ++ 0 ∷ []

  abbrev pub races : List Race
  races = flat_map races_in (lines_of script)

  -- ---- blocks

  -- the lines of the block that a line opens; those in no block are in block 0
  abbrev pub lines_in : ℕ → List PlacedLine
  lines_in n = filter (λ l. home l == n) script

  -- the number of the line that opens the block of the function of this ordinal
  abbrev pub opening_of : (Line → Option Word) → List Function → ℕ → Option ℕ
  opening_of name_of fs n = option_map (λ l. l.number) (find (names_ordinal name_of fs n) script)

  -- ---- bodies

  abbrev pub passes : BodyNames → Option Function → List Word → List Pass
  passes names f args = map (λ p. unwrap_or (pass_of names p.0 p.1) (by_block None)) (zip (params_of f) args)

  abbrev pub action_of : BodyNames → Line → Option Action
  action_of names (Do phrase) = Some (phrase.meaning names)
  action_of names (Temp name size) = Some (action.Temp (unwrap_or (block_of names name) 0) (number_of size))
  action_of names (Ocall r q name args) =
      Some (action.Ocall (unwrap_or (register_of r) 0) (unwrap_or (register_of q) 0) (ordinal_of i.ocalls name)
      (passes names (named i.ocalls name) args))
  action_of names _ = None

  abbrev pub body_of_lines : Function → List Line → Body
  body_of_lines f ls = record { actions = filter_map (action_of (names_in (Some f) ls)) ls }

  -- a function without a body has one without actions
  abbrev pub body_at : Function → Option ℕ → Body
  body_at f None = record { actions = [] }
  body_at f (Some n) = body_of_lines f (lines_of (lines_in n))

  -- ---- acts

  abbrev pub arguments : Option Function → List Word → List CallArg
  arguments f args = map (λ p. argument_of p.0.class p.1) (zip (params_of f) args)

  -- what a line of this number does, where the acts of each block are given
  abbrev pub act_of : (ℕ → List HostAct) → ℕ → Line → Option HostAct
  act_of acts_in n (Call name args) = Some (call_act (ordinal_of i.ecalls name) (arguments (named i.ecalls name) args))
  act_of acts_in n (Raw ordinal address) = Some (raw_act (number_of ordinal) (number_of address))
  act_of acts_in n (Poke place hex) = Some (poke_act (place_named place) (bytes_of hex))
  act_of acts_in n (Peek place count) = Some (peek_act (place_named place) (number_of count))
  act_of acts_in n (Repeat times) = Some (repeat_act (number_of times) (acts_in n))
  act_of acts_in n (Return value) = Some (return_act (number_of value))
  act_of acts_in n (Status status) = Some (reply_act (number_of status))
  act_of acts_in n _ = None

  -- the acts of lines, where those of each block are given
  abbrev pub acts_by : (ℕ → List HostAct) → List PlacedLine → List HostAct
  acts_by acts_in ls = filter_map (λ l. option_and_then (act_of acts_in l.number) l.line) ls

  -- the acts of a block in which at most so many repeats are nested
  abbrev pub acts_to : ℕ → ℕ → List HostAct
  acts_to zero n = acts_by (λ m. []) (lines_in n)
  acts_to (suc nesting) n = acts_by (acts_to nesting) (lines_in n)

  abbrev pub acts_in : ℕ → List HostAct
  acts_in = acts_to max_nesting

  -- a function without a handler has one without acts
  abbrev pub handler_at : Option ℕ → List HostAct
  handler_at None = []
  handler_at (Some n) = acts_in n

  -- the acts of each block of a kind, in order
  abbrev pub acts_of_blocks : (Line → Bool) → List (List HostAct)
  acts_of_blocks kind = map (λ l. acts_in l.number) (filter (is_line kind) script)

  -- ---- the script

  abbrev pub script_value : Script
  script_value = record {
    settings = settings;
    words = initial_words;
    races = races;
    bodies = map (λ p. body_at p.1 (opening_of body_name i.ecalls p.0)) (enumerate_from 0 i.ecalls);
    handlers = map (λ p. handler_at (opening_of handler_name i.ocalls p.0)) (enumerate_from 0 i.ocalls);
    threads = acts_in 0 ∷ acts_of_blocks is_thread;
    racers = acts_of_blocks is_racer;
  }
