-- What racers write, told by their acts alone.
use Rattle.std.specs.Prelude.{ℕ, zero, suc, ◌+◌, List, [], ◌∷◌, ◌++◌}
use Rattle.word_port.specs.declared.Side.TheVariants.{Racer}
use Rattle.word_port.specs.Accesses.{word_at}
use Rattle.word_port.specs.Requests.{Request, swap_of}
use Rattle.word_port.specs.Interaction.{Interaction, ret, ask}
use Rattle.call_script.specs.declared.Place.{Place}
use Rattle.call_script.specs.declared.Place.TheVariants.{At, InFrame}
use Rattle.call_script.specs.declared.HostAct.{HostAct, Poke, Repeat', Row_of-HostAct, end_of-HostAct, more_of-HostAct}

-- one write for each byte, in rising address
abbrev pub byte_writes : ℕ → List ℕ → List Request
byte_writes address [] = []
byte_writes address (b ∷ bytes) = swap_of Racer (word_at address) b ∷ byte_writes (address + 1) bytes

-- the writes of bytes at a place
abbrev pub place_writes : Place → List ℕ → List Request
place_writes (At address) bytes = byte_writes address bytes
place_writes (InFrame offset) bytes = []

-- so many times
abbrev pub times_over : ℕ → List Request → List Request
times_over zero writes = []
times_over (suc times) writes = writes ++ times_over times writes

abbrev mutual
  -- the writes of one act
  pub act_writes : HostAct → List Request
  act_writes (Poke place bytes) = place_writes place bytes
  act_writes (Repeat' times shape acts) = times_over times (row_writes acts)
  act_writes _ = []

  pub row_writes : {n : _} → Row_of-HostAct n → List Request
  row_writes end_of-HostAct = []
  row_writes (more_of-HostAct act rest) = act_writes act ++ row_writes rest

-- the writes of acts, in order
abbrev pub writes_of : List HostAct → List Request
writes_of [] = []
writes_of (act ∷ acts) = act_writes act ++ writes_of acts

-- asks for one after the other, whatever is answered, and ends with a value
abbrev pub asks_all : {A : Type 0} → List Request → A → Interaction A
asks_all [] x = ret x
asks_all (q ∷ requests) x = ask q (λ n. asks_all requests x)
