-- Traces of small logs, to the byte.
use Rattle.std.specs.Prelude.{◌≡◌, ◌-◌, ◌^◌, List, [], ◌∷◌, codes}
use Rattle.word_port.specs.declared.Side.TheVariants.{Enclave, Host, Pool, Racer}
use Rattle.word_port.specs.declared.Step.{Step}
use Rattle.word_port.specs.Requests.{load_of, swap_of, add_of, cas_of, step_of}
use Rattle.log_trace.specs.Trace.{trace_text, traces_from}

-- the first participant swaps 255 into the first word, the second one loads the fifth word
abbrev pub two_logs : List (List Step)
two_logs = (step_of (swap_of Host 0 255) 0 ∷ []) ∷ (step_of (load_of Host 4) 0 ∷ []) ∷ []

-- every side, every kind, and the greatest word
abbrev pub mixed_log : List Step
mixed_log =
    step_of (load_of Enclave 4064) 7
    ∷ step_of (cas_of Pool 4097 0 10) 10
    ∷ step_of (add_of Enclave 4098 (2 ^ 64 - 1)) 0
    ∷ step_of (swap_of Racer 100 9) 200
    ∷ []

pub record Examples : Type 0 where
  pub two : traces_from 0 two_logs ≡ codes "thread 0\nH swap 0 255 0 0\nthread 1\nH load 4 0 0 0\n"
  pub mixed : trace_text 12 mixed_log ≡ codes "thread 12\nE load 4064 0 0 7\nP cas 4097 0 10 10\nE add 4098 18446744073709551615 0 0\nR swap 100 9 0 200\n"
  pub no_steps : trace_text 3 [] ≡ codes "thread 3\n"
  pub nobody : traces_from 0 [] ≡ []
