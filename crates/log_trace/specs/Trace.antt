-- The text of a log.
use Rattle.std.specs.Prelude.{ℕ, ◌+◌, ◌<◌, ◌^◌, List, [], ◌∷◌, ◌++◌, flat_map, codes, decimal}
use Rattle.word_port.specs.declared.Side.{Side}
use Rattle.word_port.specs.declared.Side.TheVariants.{Enclave, Host, Pool, Racer}
use Rattle.word_port.specs.declared.Kind.{Kind}
use Rattle.word_port.specs.declared.Kind.TheVariants.{Load, Swap, Add, Cas}
use Rattle.word_port.specs.declared.Step.{Step}
use Rattle.call_report.specs.Report.{line}

-- the letter of who makes a step
abbrev pub side_letter : Side → List ℕ
side_letter Enclave = codes "E"
side_letter Host = codes "H"
side_letter Pool = codes "P"
side_letter Racer = codes "R"

-- the word of what it does
abbrev pub kind_word : Kind → List ℕ
kind_word Load = codes "load"
kind_word Swap = codes "swap"
kind_word Add = codes "add"
kind_word Cas = codes "cas"

-- the words of a step: its index, what it was given, and its answer last
abbrev pub step_words : Step → List (List ℕ)
step_words s =
    side_letter s.side ∷ kind_word s.kind ∷ decimal s.index ∷ decimal s.first ∷ decimal s.second ∷ decimal s.answer ∷ []

-- the line of a step
abbrev pub step_line : Step → List ℕ
step_line s = line (step_words s)

-- the line of a participant
abbrev pub thread_line : ℕ → List ℕ
thread_line thread = line (codes "thread" ∷ decimal thread ∷ [])

-- the line of a participant, and one line for each step of its log, in order
unfoldable pub trace_text : ℕ → List Step → List ℕ
trace_text thread log = thread_line thread ++ flat_map step_line log

-- the traces of several participants, each under its number
abbrev pub traces_from : ℕ → List (List Step) → List ℕ
traces_from thread [] = []
traces_from thread (log ∷ logs) = trace_text thread log ++ traces_from (thread + 1) logs

-- an index has 32 bits, a word 64
pub record IsStep (s : Step) : Type 0 where
  pub index : s.index < 2 ^ 32
  pub first : s.first < 2 ^ 64
  pub second : s.second < 2 ^ 64
  pub answer : s.answer < 2 ^ 64
