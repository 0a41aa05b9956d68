-- What lines give, and what stands before a line and around it.
use Rattle.std.specs.Prelude.{ℕ, ◌*◌, Bool, true, false, not, ◌==◌, if◌then◌else◌, nat_le, List, [], ◌∷◌, ◌++◌, length, filter, filter_map, find, fold, zip, count_by, slice_get, Option, Some, None, is_none, unwrap_or}
use Rattle.std.specs.List.{list_any}
use Rattle.std.specs.Str.{bytes_eq}
use Rattle.sgx_base.specs.Numbers.{spelled_number}
use Rattle.edl_interface.specs.declared.Param.{Param}
use Rattle.edl_interface.specs.declared.Function.{Function}
use Rattle.edl_interface.specs.declared.Interface.{Interface}
use Rattle.call_script.specs.Spelling.{Word}
use Rattle.call_script.specs.Settings.{Setting}
use Rattle.call_script.specs.BodyNames.{BodyNames}
use Rattle.call_script.specs.Line.{Line, Set, Foreign, Race, Body, Handler, Thread, Racer, Call, Raw, Poke, Peek, Repeat, Return, Status, Do, Temp, Ocall}
use Rattle.call_script.specs.Block.{PlacedLine, Scope, InBody, InHandler, scope_at, home}
use Rattle.call_script.specs.Arguments.{number_of, bytes_of}

-- ---- kinds of lines

abbrev pub is_setting : Line → Bool
is_setting (Set s w) = true
is_setting _ = false

abbrev pub is_act : Line → Bool
is_act (Call name args) = true
is_act (Raw ordinal address) = true
is_act (Poke place hex) = true
is_act (Peek place count) = true
is_act (Repeat times) = true
is_act (Return value) = true
is_act (Status status) = true
is_act _ = false

abbrev pub is_action : Line → Bool
is_action (Do phrase) = true
is_action (Temp name size) = true
is_action (Ocall r q name args) = true
is_action _ = false

abbrev pub is_thread : Line → Bool
is_thread Thread = true
is_thread _ = false

abbrev pub is_racer : Line → Bool
is_racer Racer = true
is_racer _ = false

abbrev pub is_repeat : Line → Bool
is_repeat (Repeat times) = true
is_repeat _ = false

abbrev pub is_race : Line → Bool
is_race (Race access address hex) = true
is_race _ = false

abbrev pub is_temporary : Line → Bool
is_temporary (Temp name size) = true
is_temporary _ = false

-- ---- what a line gives

-- the number that it gives to a setting
abbrev pub set_to : Setting → Line → Option ℕ
set_to s (Set t w) = if bytes_eq s.word t.word then spelled_number w else None
set_to s _ = None

-- the names that have a body, a handler, a foreign type, a temporary by it
abbrev pub body_name : Line → Option Word
body_name (Body name) = Some name
body_name _ = None

abbrev pub handler_name : Line → Option Word
handler_name (Handler name) = Some name
handler_name _ = None

abbrev pub foreign_name : Line → Option Word
foreign_name (Foreign name size alignment) = Some name
foreign_name _ = None

abbrev pub temporary_name : Line → Option Word
temporary_name (Temp name size) = Some name
temporary_name _ = None

-- the access of a race, and how many bytes it has
abbrev pub access_of : Line → Option ℕ
access_of (Race access address hex) = spelled_number access
access_of _ = None

abbrev pub race_length : Line → ℕ
race_length (Race access address hex) = length (bytes_of hex)
race_length _ = 0

-- how often the lines in it are carried out
abbrev pub times_of : Line → ℕ
times_of (Repeat times) = number_of times
times_of _ = 1

-- ---- what lines give together

abbrev pub lines_of : List PlacedLine → List Line
lines_of = filter_map (λ l. l.line)

-- the number of a setting
abbrev pub setting_in : List Line → Setting → ℕ
setting_in ls s = unwrap_or (slice_get (filter_map (set_to s) ls) 0) s.default

-- whether a name is among those that lines give
abbrev pub is_named_in : (Line → Option Word) → List Line → Word → Bool
is_named_in name_of ls name = list_any (bytes_eq name) (filter_map name_of ls)

-- whether there are so many lines of a kind
abbrev pub has_already : ℕ → (Line → Bool) → List Line → Bool
has_already n kind ls = nat_le n (count_by kind ls)

-- ---- functions

abbrev pub named : List Function → Word → Option Function
named fs w = find (λ f. bytes_eq f.name w) fs

abbrev pub is_unknown : List Function → Word → Bool
is_unknown fs w = is_none (named fs w)

abbrev pub params_of : Option Function → List Param
params_of None = []
params_of (Some f) = f.params

abbrev pub is_function : (Function → Bool) → Option Function → Bool
is_function test None = false
is_function test (Some f) = test f

-- not one argument for each parameter
abbrev pub has_other_count : Option Function → List Word → Bool
has_other_count f args = is_function (λ g. not (length args == length g.params)) f

-- the test holds for an argument at its parameter
abbrev pub any_argument : (Param → Word → Bool) → Option Function → List Word → Bool
any_argument test f args = list_any (λ p. test p.0 p.1) (zip (params_of f) args)

-- the function whose body stands at a place, and the one whose handler does
abbrev pub body_function : Interface → Scope → Option Function
body_function i (InBody name) = named i.ecalls name
body_function i _ = None

abbrev pub handled_function : Interface → Scope → Option Function
handled_function i (InHandler name) = named i.ocalls name
handled_function i _ = None

abbrev pub is_handler : Scope → Bool
is_handler (InHandler name) = true
is_handler _ = false

-- ---- where a line stands

-- a line, with the lines before it and those behind it
pub record Standing : Type 0 where
  pub before : List PlacedLine
  pub here : PlacedLine
  pub behind : List PlacedLine

abbrev pub standings_from : List PlacedLine → List PlacedLine → List Standing
standings_from before [] = []
standings_from before (l ∷ behind) =
    record { before = before; here = l; behind = behind } ∷ standings_from (before ++ l ∷ []) behind

-- each line of a script, where it stands
abbrev pub standings : List PlacedLine → List Standing
standings = standings_from []

abbrev pub lines_before : Standing → List Line
lines_before s = lines_of s.before

abbrev pub whole_script : Standing → List PlacedLine
whole_script s = s.before ++ s.here ∷ s.behind

-- those of the same block
abbrev pub beside : Standing → List PlacedLine → List Line
beside s ls = lines_of (filter (λ l. home l == home s.here) ls)

-- the number of a setting, as the lines before this one give it
abbrev pub setting_before : Standing → Setting → ℕ
setting_before s which = setting_in (lines_before s) which

-- how often the line is carried out by the repeats around it
abbrev pub repetitions : Standing → ℕ
repetitions s = fold (λ n b. n * times_of b.opening) 1 s.here.blocks

-- the names of a body of these lines; its temporaries are known in the whole of it
abbrev pub names_in : Option Function → List Line → BodyNames
names_in f ls = record { params = params_of f; temporaries = filter_map temporary_name ls }

abbrev pub names_at : Interface → Standing → BodyNames
names_at i s = names_in (body_function i (scope_at s.here)) (beside s (whole_script s))
