-- Loads and stores of host bytes by the enclave, as events.
use Rattle.std.specs.Prelude.{ℕ, ◌≡◌, ◌+◌, Bool, true, false, List, [], ◌∷◌, length, replicate}
use Rattle.word_port.specs.declared.Side.TheVariants.{Enclave}
use Rattle.word_port.specs.Requests.{step_of, load_of, swap_of}
use Rattle.word_port.specs.Events.{Event, made}
use Rattle.word_port.specs.Accesses.{word_at}

-- the loads at the addresses from this one on which gave these bytes, in order
abbrev pub loads_of : ℕ → List ℕ → List Event
loads_of address [] = []
loads_of address (b ∷ bytes) = made (step_of (load_of Enclave (word_at address)) b) ∷ loads_of (address + 1) bytes

-- the events are the stores of these bytes at the addresses from this one on, in order; each answer is whatever stood there
abbrev pub AreStores : ℕ → List ℕ → List Event → Type 0
AreStores address [] [] = Unit {0}
AreStores address (b ∷ bytes) (made s ∷ events) = (s ≡ step_of (swap_of Enclave (word_at address) b) s.answer) × AreStores (address + 1) bytes events
AreStores address _ _ = ⊥

-- the bytes were loaded by these events; or, where none are copied in, they are zeros and there is no event
abbrev pub AreFirstBytes : Bool → ℕ → List ℕ → List Event → Type 0
AreFirstBytes true address bytes events = events ≡ loads_of address bytes
AreFirstBytes false address bytes events = (bytes ≡ replicate (length bytes) 0) × (events ≡ [])
