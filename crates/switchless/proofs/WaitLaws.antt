-- A loop of waiting looks, one look after another.
use Rattle.std.proofs.Common.{◌^◌, ℕ, zero, suc, ◌+◌, ◌-◌, ◌<◌, ◌≤◌, ◌≡◌, Bool, true, false, if◌then◌else◌, refl, subst, arith}
use Rattle.word_port.specs.declared.RunFull.TheVariants.{Steps, Waited}
use Rattle.word_port.specs.Port.{PortState}
use Rattle.word_port.specs.Events.{waiting_look}
use Rattle.word_port.specs.Interaction.{Interaction, ret, tick, and_then}
use Rattle.word_port.specs.Limits.{Progress, progress}
use Rattle.word_port.specs.Runs.{Makes, StopsFull, Reaches, StopsAt}
use Rattle.word_port.proofs.Laws.{reaches_nothing, reaches_on, stops_on}
use Rattle.word_port.proofs.EventLaws.{no_look, look_stop, look_then, steps_then, steps_full_then}
use Rattle.switchless.specs.Caller.{look, waiting_looks, more_than_any}

-- no waiting look is left, and one is wanted
pub wait_none : (t : Interaction (Unit {0})) (before : Progress) (port : PortState) (records waits slot count : ℕ)
    → Reaches t before (progress port records waits) (waiting_looks slot count) → waits ≡ 0 → StopsAt Waited t before port
unfolding waiting_looks
wait_none t before port records waits slot zero h e =
    stops_on Waited t (tick waiting_look (ret tt)) before (progress port records waits) port h (no_look (ret tt) port records waits e)
wait_none t before port records waits slot (suc count) h e =
    let more : Interaction (Unit {0}) = and_then (look slot) (λ done. if done then ret tt else waiting_looks slot count) in
    stops_on Waited t (tick waiting_look more) before (progress port records waits) port h (no_look more port records waits e)

-- the log is full, and a look is wanted
pub wait_full : (t : Interaction (Unit {0})) (before : Progress) (port new : PortState) (records waits slot count : ℕ)
    → Reaches t before (progress port records waits) (waiting_looks slot count) → 0 < waits → 0 < count → StopsFull (look slot) port new → StopsAt Steps t before new
unfolding waiting_looks
wait_full t before port new records waits slot zero h some more full = absurd (omega (arith, more))
wait_full t before port new records waits slot (suc count) h some more full =
    let rest : Interaction (Unit {0}) = and_then (look slot) (λ done. if done then ret tt else waiting_looks slot count) in
    let e : waits ≡ (waits - 1) + 1 = omega (arith, some) in
    stops_on Steps t (tick waiting_look rest) before (progress port records waits) new h
    (look_stop Steps rest port new records waits (waits - 1) e
    (steps_full_then (look slot) (λ done. if done then ret tt else waiting_looks slot count) port new records (waits - 1) full))

-- a look that finds the word done, or not done
pub wait_look : (t : Interaction (Unit {0})) (before : Progress) (port new : PortState) (records waits slot count : ℕ) (done : Bool)
    → Reaches t before (progress port records waits) (waiting_looks slot count) → 0 < waits → 0 < count → Makes (look slot) port new done
    → Reaches t before (progress new records (waits - 1)) (if done then ret tt else waiting_looks slot (count - 1))
unfolding waiting_looks
wait_look t before port new records waits slot zero done h some more e = absurd (omega (arith, more))
wait_look t before port new records waits slot (suc count) done h some more e =
    let rest : Interaction (Unit {0}) = and_then (look slot) (λ d. if d then ret tt else waiting_looks slot count) in
    let f : waits ≡ (waits - 1) + 1 = omega (arith, some) in
    let less : count ≡ suc count - 1 = omega arith in
    let end : Interaction (Unit {0}) = if done then ret tt else waiting_looks slot count in
    subst (λ k. Reaches t before (progress new records (waits - 1)) (if done then ret tt else waiting_looks slot k)) less
    (reaches_on t (tick waiting_look rest) end before (progress port records waits) (progress new records (waits - 1)) h
    (look_then rest end port records waits (waits - 1) (progress new records (waits - 1)) f
    (steps_then (look slot) (λ d. if d then ret tt else waiting_looks slot count) end port new records (waits - 1) (progress new records (waits - 1)) done
    e (reaches_nothing end (progress new records (waits - 1))))))

-- so far these waiting looks were made, and the rest is to come
abbrev pub IsWaiting : ℕ → PortState → ℕ → PortState → ℕ → Type 0
IsWaiting slot old before now waits = (most : ℕ) → before < most → (records : ℕ)
    → Reaches (waiting_looks slot most) (progress old records before) (progress now records waits) (waiting_looks slot (most - (before - waits)))

pub waiting_begin : (slot : ℕ) (old : PortState) (waits : ℕ) → IsWaiting slot old waits old waits
waiting_begin slot old waits most h records =
    let e : most ≡ most - (waits - waits) = omega arith in
    subst (λ k. Reaches (waiting_looks slot most) (progress old records waits) (progress old records waits) (waiting_looks slot k)) e
    (reaches_nothing (waiting_looks slot most) (progress old records waits))

pub waiting_more : (slot : ℕ) (old : PortState) (before : ℕ) (now new : PortState) (waits : ℕ) (done : Bool) → IsWaiting slot old before now waits → 0 < waits → waits ≤ before
    → Makes (look slot) now new done → done ≡ false → IsWaiting slot old before new (waits - 1)
waiting_more slot old before now new waits done h some low m e most big records =
    let room : 0 < most - (before - waits) = omega (arith, big) in
    let less : (most - (before - waits)) - 1 ≡ most - (before - (waits - 1)) = omega (arith, big, low, some) in
    subst (λ k. Reaches (waiting_looks slot most) (progress old records before) (progress new records (waits - 1)) (waiting_looks slot k)) less
    (subst (λ d. Reaches (waiting_looks slot most) (progress old records before) (progress new records (waits - 1)) (if d then ret tt else waiting_looks slot ((most - (before - waits)) - 1))) e
    (wait_look (waiting_looks slot most) (progress old records before) now new records waits slot (most - (before - waits)) done (h most big records) some room m))

pub waiting_seen : (slot : ℕ) (old : PortState) (before : ℕ) (now new : PortState) (waits : ℕ) (done : Bool) → IsWaiting slot old before now waits → 0 < waits
    → Makes (look slot) now new done → done ≡ true
    → (most : ℕ) → before < most → (records : ℕ) → Reaches (waiting_looks slot most) (progress old records before) (progress new records (waits - 1)) (ret tt)
waiting_seen slot old before now new waits done h some m e most big records =
    let room : 0 < most - (before - waits) = omega (arith, big) in
    subst (λ d. Reaches (waiting_looks slot most) (progress old records before) (progress new records (waits - 1)) (if d then ret tt else waiting_looks slot ((most - (before - waits)) - 1))) e
    (wait_look (waiting_looks slot most) (progress old records before) now new records waits slot (most - (before - waits)) done (h most big records) some room m)

-- every count of 32 bits is below it
pub more_than_any_is : more_than_any ≡ 2 ^ 32
unfolding more_than_any
more_than_any_is = refl
