-- The rules of scripts, one for each code, in their order.
use Rattle.std.specs.Prelude.{ℕ, ◌+◌, ◌*◌, Bool, true, false, not, ◌&&◌, ◌||◌, ◌==◌, if◌then◌else◌, nat_lt, nat_eq, List, [], ◌∷◌, length, map, filter_map, find, sum_by, count_by, slice_get, Option, Some, None, is_some, option_map, unwrap_or}
use Rattle.std.specs.List.{list_any, last_or}
use Rattle.std.specs.Str.{bytes_eq}
use Rattle.sgx_base.specs.Numbers.{spelled_number}
use Rattle.sgx_base.specs.Ranges.{is_mapped}
use Rattle.edl_interface.specs.declared.Interface.{Interface}
use Rattle.edl_interface.specs.Parameters.{has_frame, is_marshalled}
use Rattle.call_script.specs.Spelling.{Word, is_wide, is_out_of, is_bad_hex, is_in_frame, is_place_out}
use Rattle.call_script.specs.Parser.{or_else}
use Rattle.call_script.specs.Settings.{is_value_of, host, stack, cells, tworkers}
use Rattle.call_script.specs.BodyNames.{is_unknown_argument, is_wrong_pass}
use Rattle.call_script.specs.Line.{Line, Set, Foreign, Bytes, Cell, Race, Body, Handler, Thread, Racer, Call, Raw, Poke, Peek, Repeat, Return, Status, Do, Temp, Ocall, Close, Register, CellNumber}
use Rattle.call_script.specs.Block.{PlacedLine, scope_at, opens, left_open}
use Rattle.call_script.specs.Arguments.{number_of, bytes_of, is_wrong_argument, is_misfit, is_bad_hex_argument, is_place_argument_out, is_frame_argument}
use Rattle.call_script.specs.Parts.{any_part, is_no_name, is_wide_number, is_unknown_name, is_no_cell, is_skip_past}
use Rattle.call_script.specs.Standing.{Standing, standings, lines_of, lines_before, beside, setting_in, setting_before, repetitions, names_at, named, is_unknown, is_function, has_other_count, any_argument, handled_function, is_handler, has_already, is_named_in, is_setting, is_act, is_action, is_thread, is_racer, is_repeat, is_race, is_temporary, set_to, body_name, handler_name, foreign_name, temporary_name, access_of, race_length, times_of}

-- ---- limits

abbrev pub max_threads : ℕ
max_threads = 8

abbrev pub max_racers : ℕ
max_racers = 4

abbrev pub max_actions : ℕ
max_actions = 256

abbrev pub max_temporaries : ℕ
max_temporaries = 16

abbrev pub max_acts : ℕ
max_acts = 8192

abbrev pub max_nesting : ℕ
max_nesting = 4

abbrev pub max_race_bytes : ℕ
max_race_bytes = 4096

-- of the count of a repeat times those around it
abbrev pub max_repetitions : ℕ
max_repetitions = 1048576

-- ---- host memory

abbrev pub is_outside_host_by : ℕ → Option ℕ → ℕ → Bool
is_outside_host_by size None count = false
is_outside_host_by size (Some address) count = not (is_mapped size address count)

-- not all of so many bytes from an address on lie in host memory
abbrev pub is_outside_host : Standing → Word → ℕ → Bool
is_outside_host s address count = is_outside_host_by (setting_before s host) (spelled_number address) count

-- how many bytes are written or read; where that is faulty, the first address alone is tried
abbrev pub hex_count : Word → ℕ
hex_count hex = if is_bad_hex hex then 1 else length (bytes_of hex)

abbrev pub peek_count : Word → ℕ
peek_count count = if is_out_of 1 4096 count then 1 else number_of count

-- ---- the rules

-- 1, line not understood: a word that is no name, where one has to be. What else has no form in its place is no line
abbrev pub is_not_understood : Line → Bool
is_not_understood (Do phrase) = any_part is_no_name phrase.parts
is_not_understood (Ocall r q name args) = is_no_name Register r || is_no_name Register q
is_not_understood _ = false

-- 2, number out of range
abbrev pub has_number_out_of_range : Line → Bool
has_number_out_of_range (Set which number) = not (is_value_of which number)
has_number_out_of_range (Foreign name size alignment) =
    is_out_of 1 65536 size || not (list_any (nat_eq (number_of alignment)) (1 ∷ 2 ∷ 4 ∷ 8 ∷ 16 ∷ []))
has_number_out_of_range (Bytes address hex) = is_wide address
has_number_out_of_range (Cell cell value) = is_wide cell || is_wide value
has_number_out_of_range (Race access address hex) = is_out_of 1 4294967295 access || is_wide address
has_number_out_of_range (Call name args) = list_any is_place_argument_out args
has_number_out_of_range (Raw ordinal address) = is_out_of 0 4294967295 ordinal || is_wide address
has_number_out_of_range (Poke place hex) = is_place_out place
has_number_out_of_range (Peek place count) = is_place_out place || is_out_of 1 4096 count
has_number_out_of_range (Repeat times) = is_out_of 1 10000 times
has_number_out_of_range (Return value) = is_wide value
has_number_out_of_range (Status status) = is_out_of 0 0xffff status
has_number_out_of_range (Do phrase) = any_part is_wide_number phrase.parts
has_number_out_of_range (Temp name size) = is_out_of 1 65536 size
has_number_out_of_range (Ocall r q name args) = list_any is_wide args
has_number_out_of_range _ = false

-- 3, setting given twice
abbrev pub is_set_twice : Standing → Line → Bool
is_set_twice s (Set which number) = list_any (λ line. is_some (set_to which line)) (lines_before s)
is_set_twice s _ = false

-- 4, address outside host memory
abbrev pub has_address_outside_host : Standing → Line → Bool
has_address_outside_host s (Bytes address hex) = is_outside_host s address (hex_count hex)
has_address_outside_host s (Race access address hex) = is_outside_host s address (hex_count hex)
has_address_outside_host s (Poke place hex) = not (is_in_frame place) && is_outside_host s place (hex_count hex)
has_address_outside_host s (Peek place count) = not (is_in_frame place) && is_outside_host s place (peek_count count)
has_address_outside_host s _ = false

-- 5, unknown function
abbrev pub has_unknown_function : Interface → Line → Bool
has_unknown_function i (Call name args) = is_unknown i.ecalls name
has_unknown_function i (Body name) = is_unknown i.ecalls name
has_unknown_function i (Handler name) = is_unknown i.ocalls name
has_unknown_function i (Ocall r q name args) = is_unknown i.ocalls name
has_unknown_function i _ = false

-- 6, wrong arguments: their count, or the form of one
abbrev pub has_wrong_arguments : Interface → Standing → Line → Bool
has_wrong_arguments i s (Call name args) =
    has_other_count (named i.ecalls name) args
    || any_argument (λ p w. is_wrong_argument p.class w) (named i.ecalls name) args
has_wrong_arguments i s (Ocall r q name args) =
    has_other_count (named i.ocalls name) args || any_argument (is_wrong_pass (names_at i s)) (named i.ocalls name) args
has_wrong_arguments i s _ = false

-- 7, value does not fit
abbrev pub has_misfit : Interface → Line → Bool
has_misfit i (Call name args) = any_argument (λ p w. is_misfit p.class w) (named i.ecalls name) args
has_misfit i _ = false

-- 8, unknown name in body
abbrev pub has_unknown_name : Interface → Standing → Line → Bool
has_unknown_name i s (Do phrase) = any_part (is_unknown_name (names_at i s)) phrase.parts
has_unknown_name i s (Ocall r q name args) =
    is_unknown_name (names_at i s) Register r || is_unknown_name (names_at i s) Register q
    || any_argument (is_unknown_argument (names_at i s)) (named i.ocalls name) args
has_unknown_name i s _ = false

-- 9, skip past the end
abbrev pub skips_past_end : Standing → Line → Bool
skips_past_end s (Do phrase) = any_part (is_skip_past (count_by is_action (beside s s.behind))) phrase.parts
skips_past_end s _ = false

-- 10, no such cell
abbrev pub has_no_such_cell : Standing → Line → Bool
has_no_such_cell s (Cell cell value) = is_no_cell (setting_before s cells) CellNumber cell
has_no_such_cell s (Do phrase) = any_part (is_no_cell (setting_before s cells)) phrase.parts
has_no_such_cell s _ = false

-- 11, given twice
abbrev pub is_given_twice : Interface → Standing → Line → Bool
is_given_twice i s (Body name) = is_named_in body_name (lines_before s) name
is_given_twice i s (Handler name) = is_named_in handler_name (lines_before s) name
is_given_twice i s (Foreign name size alignment) = is_named_in foreign_name (lines_before s) name
is_given_twice i s (Temp name size) =
    is_named_in temporary_name (beside s s.before) name
    || list_any (λ p. is_marshalled p.class && bytes_eq p.name name) (names_at i s).params
is_given_twice i s _ = false

-- 12, block not closed or not begun: this line opens one that is left open, or it closes and none is open
abbrev pub is_unpaired : Bool → Standing → Line → Bool
is_unpaired left s Close = length s.here.blocks == 0
is_unpaired left s line = opens line && left

-- 13, races out of order
abbrev pub is_out_of_order : Standing → Line → Bool
is_out_of_order s (Race access address hex) =
    nat_lt (number_of access) (unwrap_or (last_or None (filter_map access_of (lines_before s))) 0)
is_out_of_order s _ = false

-- 14, not for this program
abbrev pub is_for_other_program : Bool → Line → Bool
is_for_other_program racing (Race access address hex) = racing
is_for_other_program racing Thread = not racing
is_for_other_program racing Racer = not racing
is_for_other_program racing _ = false

-- 15, call in a switchless handler
abbrev pub calls_in_switchless_handler : Interface → Standing → Line → Bool
calls_in_switchless_handler i s (Call name args) =
    is_function (λ f. f.switchless) (handled_function i (scope_at s.here))
calls_in_switchless_handler i s (Raw ordinal address) =
    is_function (λ f. f.switchless) (handled_function i (scope_at s.here))
calls_in_switchless_handler i s _ = false

-- 16, too many: at the line that passes a limit; thread 0 has no line
abbrev pub is_one_too_many : Standing → Line → Bool
is_one_too_many s line =
    (is_act line && has_already max_acts is_act (lines_before s))
    || (is_thread line && has_already max_threads is_thread (Thread ∷ lines_before s))
    || (is_racer line && has_already max_racers is_racer (lines_before s))
    || (is_action line && has_already max_actions is_action (beside s s.before))
    || (is_temporary line && has_already max_temporaries is_temporary (beside s s.before))
    || (is_repeat line && has_already max_nesting is_repeat (map (λ b. b.opening) s.here.blocks))
    || (is_repeat line && nat_lt max_repetitions (repetitions s * times_of line))
    || (is_race line && nat_lt max_race_bytes (sum_by race_length (lines_before s) + race_length line))

-- 17, stacks do not fit: those of the host threads and, in one program, of the trusted workers
abbrev pub stack_count : Bool → List Line → ℕ
stack_count racing ls = count_by is_thread (Thread ∷ ls) + (if racing then setting_in ls tworkers else 0)

abbrev pub stacks_do_not_fit : Bool → List Line → Bool
stacks_do_not_fit racing ls = nat_lt (setting_in ls host) (stack_count racing ls * setting_in ls stack)

-- 18, bad hex
abbrev pub has_bad_hex : Interface → Line → Bool
has_bad_hex i (Bytes address hex) = is_bad_hex hex
has_bad_hex i (Race access address hex) = is_bad_hex hex
has_bad_hex i (Poke place hex) = is_bad_hex hex
has_bad_hex i (Call name args) = any_argument (λ p w. is_bad_hex_argument p.class w) (named i.ecalls name) args
has_bad_hex i _ = false

-- 19, only with a frame
abbrev pub is_without_frame : Interface → Standing → Bool
is_without_frame i s = not (is_function has_frame (handled_function i (scope_at s.here)))

abbrev pub is_without_return : Interface → Standing → Bool
is_without_return i s = not (is_function (λ f. is_some f.ret) (handled_function i (scope_at s.here)))

abbrev pub lacks_its_frame : Interface → Standing → Line → Bool
lacks_its_frame i s (Poke place hex) = is_in_frame place && is_without_frame i s
lacks_its_frame i s (Peek place count) = is_in_frame place && is_without_frame i s
lacks_its_frame i s (Call name args) = list_any is_frame_argument args && is_without_frame i s
lacks_its_frame i s (Return value) = is_without_return i s
lacks_its_frame i s (Status status) = not (is_handler (scope_at s.here))
lacks_its_frame i s _ = false

-- 20, setting too late
abbrev pub is_set_too_late : Standing → Line → Bool
is_set_too_late s (Set which number) = list_any (λ line. not (is_setting line)) (lines_before s)
is_set_too_late s _ = false

-- ---- the fault of a line

-- a rule's code, and whether a line breaks it
pub record Row : Type 0 where
  pub code : ℕ
  pub broken : Bool

abbrev pub row : ℕ → Bool → Row
row code broken = record { code = code; broken = broken }

-- the rules of a line, where it is known whether a block that it opens is left open
abbrev pub rows : Interface → Bool → Bool → Standing → Line → List Row
rows i racing left s line =
    row 1 (is_not_understood line)
    ∷ row 2 (has_number_out_of_range line)
    ∷ row 3 (is_set_twice s line)
    ∷ row 4 (has_address_outside_host s line)
    ∷ row 5 (has_unknown_function i line)
    ∷ row 6 (has_wrong_arguments i s line)
    ∷ row 7 (has_misfit i line)
    ∷ row 8 (has_unknown_name i s line)
    ∷ row 9 (skips_past_end s line)
    ∷ row 10 (has_no_such_cell s line)
    ∷ row 11 (is_given_twice i s line)
    ∷ row 12 (is_unpaired left s line)
    ∷ row 13 (is_out_of_order s line)
    ∷ row 14 (is_for_other_program racing line)
    ∷ row 15 (calls_in_switchless_handler i s line)
    ∷ row 16 (is_one_too_many s line)
    ∷ row 18 (has_bad_hex i line)
    ∷ row 19 (lacks_its_frame i s line)
    ∷ row 20 (is_set_too_late s line)
    ∷ []

-- what has no form in its place breaks the first rule
abbrev pub rows_of : Interface → Bool → Bool → Standing → Option Line → List Row
rows_of i racing left s None = row 1 true ∷ []
rows_of i racing left s (Some line) = rows i racing left s line

-- a rule is broken at a line
pub record Fault : Type 0 where
  pub line : ℕ
  pub code : ℕ

abbrev pub fault_of : ℕ → Row → Fault
fault_of n r = record { line = n; code = r.code }

-- the first of the rules that a line breaks, which has the lowest code
abbrev pub fault_by : Interface → Bool → Bool → Standing → Option Fault
fault_by i racing left s =
    option_map (fault_of s.here.number) (find (λ r. r.broken) (rows_of i racing left s s.here.line))

-- ---- the fault of a script

-- a block that the line opens is open behind the last line
abbrev pub is_left_open : Standing → Bool
is_left_open s = list_any (λ b. b.number == s.here.number) (left_open (s.here ∷ s.behind))

abbrev pub fault_at : Interface → Bool → Standing → Option Fault
fault_at i racing s = fault_by i racing (is_left_open s) s

-- the fault of the first line that has one
abbrev pub line_fault : Interface → Bool → List PlacedLine → Option Fault
line_fault i racing script = slice_get (filter_map (fault_at i racing) (standings script)) 0

-- rule 17 is no line's, and is looked at where all lines are without fault
abbrev pub stack_fault : Bool → List PlacedLine → Option Fault
stack_fault racing script =
    if stacks_do_not_fit racing (lines_of script) then Some (record { line = 0; code = 17 }) else None

abbrev pub script_fault : Interface → Bool → List PlacedLine → Option Fault
script_fault i racing script = or_else (line_fault i racing script) (stack_fault racing script)
