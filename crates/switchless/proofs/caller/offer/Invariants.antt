use Rattle.std.proofs.Common.{◌+◌, ◌-◌}
use Rattle.word_port.specs.Runs.{Leads}
use Rattle.switchless.specs.Slots.{offered_word}
use Rattle.switchless.specs.Tasks.{HasSlots}
use Rattle.switchless.specs.Caller.{offer}
use Rattle.switchless.proofs.caller.offer.Given as goal

-- the offers so far were lost, and those in the other slots are still to come
abbrev pub invariant-loop-place : goal.invariant-loop-place
invariant-loop-place g l =
    Leads (offer l.pool.from l.pool.slots (offered_word l.ordinal l.frame)) (g.P.WordPort.state l.fn.port) (g.P.WordPort.state l.port) (offer (l.pool.from + l.place) (l.pool.slots - l.place) (offered_word l.ordinal l.frame))
    × HasSlots (g.P.WordPort.state l.port) l.pool
