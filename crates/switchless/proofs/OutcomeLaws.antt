-- Outcomes of behaviours, one after another.
use Rattle.std.proofs.Common.{ℕ, ◌-◌, ◌<◌, ◌≡◌, Option, Some, Result, Ok, Err, ◌^◌, refl, ap, sym, ◌∙◌, subst, arith}
use Rattle.word_port.specs.declared.RunFull.{RunFull}
use Rattle.word_port.specs.declared.RunFull.TheVariants.{Steps, Waited}
use Rattle.word_port.specs.Port.{PortState}
use Rattle.word_port.specs.Interaction.{Interaction, ret, and_then}
use Rattle.word_port.specs.Limits.{progress}
use Rattle.word_port.specs.Runs.{Leads, Makes, Reaches, Runs, StopsFull}
use Rattle.word_port.proofs.Laws.{makes_then, makes_ret, full_first, runs_ret, runs_then, reaches_then, stops_first, stops_second, reaches_first}
use Rattle.word_port.proofs.EventLaws.{steps_reach, steps_stop}
use Rattle.sgx_base.specs.declared.Status.{Status}
use Rattle.switchless.specs.declared.Pool.{Pool as Slots}
use Rattle.switchless.specs.declared.Sent.{Sent}
use Rattle.switchless.specs.declared.Sent.TheVariants.{Answered}
use Rattle.switchless.specs.Tasks.{task_word, sent_as}
use Rattle.switchless.specs.Slots.{offered_word}
use Rattle.switchless.specs.declared.Task.{Task}
use Rattle.switchless.specs.Caller.{offer, look, looks, after_looks, collect, waiting_looks, collected_status, after_offer, caller_within, more_than_any, caller}
use Rattle.switchless.specs.Outcomes.{StopsWith, IsOutcomeOf}
use Rattle.switchless.proofs.StepLaws.{look_unmoved}
use Rattle.switchless.proofs.WaitLaws.{IsWaiting, wait_none, wait_full, more_than_any_is}

-- a value at once
pub outcome_ret : {A B : Type 0} (value : B → A) (x : B) (now : PortState) (waits : ℕ) → IsOutcomeOf value (ret (value x)) now waits now waits (Ok x)
outcome_ret value x now waits records = runs_ret (value x) (progress now records waits)

-- steps alone, with a value
pub outcome_made : {A B : Type 0} (value : B → A) (t : Interaction A) (x : B) (old new : PortState) (waits : ℕ) → Makes t old new (value x) → IsOutcomeOf value t old waits new waits (Ok x)
outcome_made value t x old new waits h records = steps_reach t (ret (value x)) old new records waits h

leads_of : {A : Type 0} (t : Interaction A) (old new : PortState) (h : StopsFull t old new) → Leads t old new h.rest
leads_of t old new h = record { steps = h.steps; grown = h.grown; after = h.after }

-- steps alone, and then the log is full
pub outcome_full : {A B : Type 0} (value : B → A) (t : Interaction A) (full : RunFull) (old new : PortState) (waits : ℕ) → full ≡ Steps → StopsFull t old new → IsOutcomeOf value t old waits new waits (Err full)
outcome_full value t full old new waits e h records = subst (λ f. StopsWith f t (progress old records waits) (progress new records waits)) (sym e) (record {
  stops = steps_stop t old new records waits h;
  rest = h.rest;
  reaches = steps_reach t h.rest old new records waits (leads_of t old new h);
})

-- the log is full in the first of two
pub first_full : {A B C : Type 0} (value : C → B) (t : Interaction A) (f : A → Interaction B) (full : RunFull) (old new : PortState) (waits : ℕ) → full ≡ Steps → StopsFull t old new → IsOutcomeOf value (and_then t f) old waits new waits (Err full)
first_full value t f full old new waits e h = outcome_full value (and_then t f) full old new waits e (full_first t f old new h)

-- an outcome after others
pub outcome_after : {A B C : Type 0} (value : C → B) (t : Interaction A) (f : A → Interaction B) (x : A) (old mid new : PortState) (waits between left : ℕ) (result : Result C RunFull)
    → ((records : ℕ) → Runs t (progress old records waits) (progress mid records between) x) → IsOutcomeOf value (f x) mid between new left result
    → IsOutcomeOf value (and_then t f) old waits new left result
outcome_after value t f x old mid new waits between left (Ok y) p q = λ records.
    runs_then t f (progress old records waits) (progress mid records between) (progress new records left) x (value y) (p records) (q records)
outcome_after value t f x old mid new waits between left (Err full) p q = λ records. record {
  stops = stops_second full t f (progress old records waits) (progress mid records between) new x (p records) (q records).stops;
  rest = (q records).rest;
  reaches = reaches_then t f (q records).rest (progress old records waits) (progress mid records between) (progress new records left) x (p records) (q records).reaches;
}

-- an outcome after steps alone
pub outcome_then : {A B C : Type 0} (value : C → B) (t : Interaction A) (f : A → Interaction B) (x y : A) (old mid new : PortState) (waits left : ℕ) (result : Result C RunFull)
    → Makes t old mid x → x ≡ y → IsOutcomeOf value (f y) mid waits new left result → IsOutcomeOf value (and_then t f) old waits new left result
outcome_then value t f x y old mid new waits left result p e q =
    outcome_after value t f y old mid new waits waits left result (λ records. steps_reach t (ret y) old mid records waits (subst (λ v. Makes t old mid v) e p)) q

-- the first stopped
pub outcome_stopped : {A B C : Type 0} (value : C → B) (t : Interaction A) (f : A → Interaction B) (full : RunFull) (old new : PortState) (waits left : ℕ)
    → ((records : ℕ) → StopsWith full t (progress old records waits) (progress new records left)) → IsOutcomeOf value (and_then t f) old waits new left (Err full)
outcome_stopped value t f full old new waits left p records = record {
  stops = stops_first full t f (progress old records waits) new (p records).stops;
  rest = and_then (p records).rest f;
  reaches = reaches_first t (p records).rest f (progress old records waits) (progress new records left) (p records).reaches;
}

-- no waiting look is left
pub waited_out : (slot : ℕ) (old : PortState) (before : ℕ) (now : PortState) (waits : ℕ) → IsWaiting slot old before now waits → waits ≡ 0
    → (most : ℕ) → before < most → (records : ℕ) → StopsWith Waited (waiting_looks slot most) (progress old records before) (progress now records waits)
waited_out slot old before now waits h e most big records = record {
  stops = wait_none (waiting_looks slot most) (progress old records before) now records waits slot (most - (before - waits)) (h most big records) e;
  rest = waiting_looks slot (most - (before - waits));
  reaches = h most big records;
}

-- the log is full at a look
pub waited_full : (slot : ℕ) (full : RunFull) (old : PortState) (before : ℕ) (now new : PortState) (waits : ℕ) → full ≡ Steps → IsWaiting slot old before now waits → 0 < waits → StopsFull (look slot) now new
    → (most : ℕ) → before < most → (records : ℕ) → StopsWith full (waiting_looks slot most) (progress old records before) (progress new records waits)
waited_full slot full old before now new waits e h some stopped most big records =
    let room : 0 < most - (before - waits) = omega (arith, big) in
    subst (λ f. StopsWith f (waiting_looks slot most) (progress old records before) (progress new records waits)) (sym e) (record {
      stops = wait_full (waiting_looks slot most) (progress old records before) now new records waits slot (most - (before - waits)) (h most big records) some room stopped;
      rest = waiting_looks slot (most - (before - waits));
      reaches = subst (λ p. Reaches (waiting_looks slot most) (progress old records before) (progress p records waits) (waiting_looks slot (most - (before - waits))))
          (sym (look_unmoved slot now new stopped)) (h most big records);
    })

-- the answer is taken
pub answer_made : (slot : ℕ) (status : Status) (old new : PortState) (waits : ℕ) → Makes (collect slot) old new status.0 → IsOutcomeOf sent_as (collected_status slot) old waits new waits (Ok (Answered status))
answer_made slot status old new waits h =
    outcome_made sent_as (collected_status slot) (Answered status) old new waits
    (makes_then (collect slot) (λ n. ret (Some n)) old new new status.0 (Some status.0) h (makes_ret (Some status.0) new))

pub answer_full : (slot : ℕ) (full : RunFull) (old new : PortState) (waits : ℕ) → full ≡ Steps → StopsFull (collect slot) old new → IsOutcomeOf sent_as (collected_status slot) old waits new waits (Err full)
answer_full slot full old new waits e h = first_full sent_as (collect slot) (λ n. ret (Some n)) full old new waits e h

-- after the offer
pub called : (pool : Slots) (word : ℕ) (slot : Option ℕ) (old mid new : PortState) (waits left : ℕ) (result : Result Sent RunFull)
    → Makes (offer pool.from pool.slots word) old mid slot → IsOutcomeOf sent_as (after_offer more_than_any pool word slot) mid waits new left result
    → IsOutcomeOf sent_as (caller pool word) old waits new left result
unfolding caller_within
called pool word slot old mid new waits left result p q =
    outcome_then sent_as (offer pool.from pool.slots word) (after_offer more_than_any pool word) slot slot old mid new waits left result p refl q

pub called_full : (pool : Slots) (word : ℕ) (full : RunFull) (old new : PortState) (waits : ℕ) → full ≡ Steps → StopsFull (offer pool.from pool.slots word) old new
    → IsOutcomeOf sent_as (caller pool word) old waits new waits (Err full)
unfolding caller_within
called_full pool word full old new waits e h = first_full sent_as (offer pool.from pool.slots word) (after_offer more_than_any pool word) full old new waits e h

pub called_on : (pool : Slots) (ordinal frame : ℕ) (task : Task) (old mid new : PortState) (waits left : ℕ) (result : Result Sent RunFull)
    → Makes (offer pool.from pool.slots (offered_word ordinal frame)) old mid (Some task.slot) → task.ordinal ≡ ordinal → task.frame ≡ frame → waits < 2 ^ 32
    → ((most : ℕ) → waits < most → IsOutcomeOf sent_as (and_then (looks task.slot pool.retries) (after_looks most task.slot (task_word task))) mid waits new left result)
    → IsOutcomeOf sent_as (caller pool (offered_word ordinal frame)) old waits new left result
called_on pool ordinal frame task old mid new waits left result p e f small q =
    let same : task_word task ≡ offered_word ordinal frame = ap (λ n. offered_word n task.frame) e ∙ ap (λ n. offered_word ordinal n) f in
    let big : waits < more_than_any = subst (λ n. waits < n) (sym more_than_any_is) small in
    called pool (offered_word ordinal frame) (Some task.slot) old mid new waits left result p
    (subst (λ w. IsOutcomeOf sent_as (and_then (looks task.slot pool.retries) (after_looks more_than_any task.slot w)) mid waits new left result) same (q more_than_any big))
