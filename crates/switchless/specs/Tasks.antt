-- Tasks, their slots, and how callers see that they are done.
use Rattle.std.specs.Prelude.{ℕ, ◌<◌, ◌≤◌, ◌+◌, ◌^◌, IsTrue, List, Contains, Option, Some, None}
use Rattle.word_port.specs.declared.Step.{Step}
use Rattle.word_port.specs.declared.Side.TheVariants.{Pool}
use Rattle.word_port.specs.Requests.{step_of, load_of}
use Rattle.word_port.specs.Port.{PortState}
use Rattle.switchless.specs.Slots.{offered_word, is_done, IsFrameUpTo, last_frame}
use Rattle.switchless.specs.declared.Pool.{Pool as Slots}
use Rattle.switchless.specs.declared.Task.{Task}
use Rattle.switchless.specs.declared.Sent.{Sent}
use Rattle.switchless.specs.declared.Sent.TheVariants.{Answered, Fallback}

-- the number is that of a word past the host bytes
abbrev pub IsPastHost : PortState → ℕ → Type 0
IsPastHost p slot = (p.host ≤ slot) × (slot < p.words)

-- the slots of the pool are words past the host bytes
abbrev pub HasSlots : PortState → Slots → Type 0
HasSlots p pool = (place : ℕ) → place < pool.slots → IsPastHost p (pool.from + place)

-- a word holds the ordinal and the frame of the task
abbrev pub IsTask : Task → Type 0
IsTask task = (task.ordinal < 2 ^ 16) × IsFrameUpTo last_frame task.frame

-- the word of a task that is offered
abbrev pub task_word : Task → ℕ
task_word task = offered_word task.ordinal task.frame

-- a look at the slot found its word done
abbrev pub HasSeenDone : ℕ → List Step → Type 0
HasSeenDone slot log = (word : ℕ) × IsTrue (is_done word) × Contains log (step_of (load_of Pool slot) word)

-- the status that a worker gave, or none where the caller falls back
abbrev pub sent_as : Sent → Option ℕ
sent_as (Answered status) = Some status.0
sent_as Fallback = None
