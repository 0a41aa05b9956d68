-- Behaviours that keep to the rules of a pool's slots.
use Rattle.std.specs.Prelude.{ℕ, zero, suc, ◌≡◌, ◌≤◌}
use Rattle.word_port.specs.Requests.{step_of}
use Rattle.word_port.specs.Events.{new_record, waiting_look}
use Rattle.word_port.specs.Interaction.{Interaction, ret, ask, here, tick}
use Rattle.switchless.specs.declared.Pool.{Pool}
use Rattle.switchless.specs.Caller.{more_than_any}
use Rattle.switchless_laws.specs.Phases.{Phase, idle, IsMove}
use Rattle.switchless_laws.specs.Moments.{IsSlotOf}
use Rattle.switchless_laws.specs.Roles.{IsElsewhere}

-- with one waiting look less, where one is left
abbrev pub after_look : ℕ → (ℕ → Type 0) → Type 0
after_look zero KeepsOn = Unit {0}
after_look (suc waits) KeepsOn = KeepsOn waits

-- from this phase on, with so many waiting looks left, and whatever the answers: each step is a move at the slot, and
-- in the end nothing of its own is there
abbrev pub KeepsTo : {A : Type 0} → ℕ → Phase → ℕ → Interaction A → Type 0
KeepsTo slot phase waits (ret x) = phase ≡ idle
KeepsTo slot phase waits (ask q next) = (n : ℕ) → (m : Phase) × IsMove slot phase (step_of q n) m
    × KeepsTo slot m waits (next n)
KeepsTo slot phase waits (here next) = (n : ℕ) → KeepsTo slot phase waits (next n)
KeepsTo slot phase waits (tick new_record rest) = KeepsTo slot phase waits rest
KeepsTo slot phase waits (tick waiting_look rest) = after_look waits (λ fewer. KeepsTo slot phase fewer rest)

-- the behaviour keeps to the rules of each slot of the pool
abbrev pub KeepsPool : {A : Type 0} → Pool → Interaction A → Type 0
KeepsPool pool t = (slot waits : ℕ) → IsSlotOf pool slot → waits ≤ more_than_any → KeepsTo slot idle waits t

-- no slot of the one pool is one of the other
abbrev pub AreApart : Pool → Pool → Type 0
AreApart one other = (slot : ℕ) → IsSlotOf one slot → IsElsewhere other slot
