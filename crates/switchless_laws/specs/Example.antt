-- A call that is offered, served and taken; and what becomes of it where a role is not kept.
use Rattle.std.specs.Prelude.{List, [], ◌∷◌, ◌+◌, ◌*◌, ◌^◌}
use Rattle.word_port.specs.declared.Step.{Step}
use Rattle.word_port.specs.declared.Side.TheVariants.{Pool}
use Rattle.word_port.specs.Requests.{step_of, load_of, swap_of, cas_of}
use Rattle.switchless.specs.Counts.{Completed}
use Rattle.switchless.specs.declared.Pool.{Pool as Slots}

-- one slot, and the stop word behind it
abbrev pub one_slot : Slots
one_slot = record { from = 0; slots = 1; retries = 1 }

-- offers function 3, sees it done with status 5, and takes it
abbrev pub calling : List Step
calling = step_of (cas_of Pool 0 0 13) 0 ∷ step_of (load_of Pool 0) (15 + 2 ^ 35 * 5) ∷ step_of (swap_of Pool 0 0) (15 + 2 ^ 35 * 5) ∷ []

-- sees the offer, accepts it, leaves it done, and is stopped
abbrev pub working : List Step
working = step_of (load_of Pool 0) 13 ∷ step_of (cas_of Pool 0 13 14) 13 ∷ step_of (swap_of Pool 0 (15 + 2 ^ 35 * 5)) 14 ∷ step_of (load_of Pool 1) 1 ∷ []

-- one order of these steps
abbrev pub calling_and_working : List Step
calling_and_working = step_of (cas_of Pool 0 0 13) 0 ∷ step_of (load_of Pool 0) 13 ∷ step_of (cas_of Pool 0 13 14) 13 ∷ step_of (swap_of Pool 0 (15 + 2 ^ 35 * 5)) 14
    ∷ step_of (load_of Pool 0) (15 + 2 ^ 35 * 5) ∷ step_of (load_of Pool 1) 1 ∷ step_of (swap_of Pool 0 0) (15 + 2 ^ 35 * 5) ∷ []

-- the call
abbrev pub the_call : Completed
the_call = record { ordinal = 3; frame = 0; status = 5 }

-- a worker that leaves one accepted word done twice
abbrev pub serving_twice : List Step
serving_twice = step_of (cas_of Pool 0 0 13) 0 ∷ step_of (load_of Pool 0) 13 ∷ step_of (cas_of Pool 0 13 14) 13 ∷ step_of (swap_of Pool 0 (15 + 2 ^ 35 * 5)) 14
    ∷ step_of (swap_of Pool 0 (15 + 2 ^ 35 * 5)) (15 + 2 ^ 35 * 5) ∷ step_of (load_of Pool 0) (15 + 2 ^ 35 * 5) ∷ step_of (swap_of Pool 0 0) (15 + 2 ^ 35 * 5) ∷ []

-- a caller that empties the slot before its word is done
abbrev pub collecting_early : List Step
collecting_early = step_of (cas_of Pool 0 0 13) 0 ∷ step_of (load_of Pool 0) 13 ∷ step_of (cas_of Pool 0 13 14) 13 ∷ step_of (swap_of Pool 0 0) 14
    ∷ step_of (swap_of Pool 0 (15 + 2 ^ 35 * 5)) 0 ∷ []

-- the call with a status that no worker gave
abbrev pub the_call_unserved : Completed
the_call_unserved = record { ordinal = 3; frame = 0; status = 0 }
