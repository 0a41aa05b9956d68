-- An ECALL passes by copy, whatever its middle is: its body, the OCALLs in it with their handlers, and what others do meanwhile.
use Rattle.std.specs.Prelude.{ℕ, ◌≡◌, List, ◌++◌}
use Rattle.edl_interface.specs.Parameters.{marshalled}
use Rattle.word_port.specs.Events.{Event, steps_of}
use Rattle.word_port.specs.History.{Operation, IsLegal, history_of, words_in_the_end}
use Rattle.call_machine.specs.declared.Machine.{Machine}
use Rattle.call_machine.specs.Context.{Context}
use Rattle.call_machine.specs.Ecall.{Ocalls, Answered}
use Rattle.call_laws.specs.Transfers.{loads_of}
use Rattle.call_laws.specs.Answering.{IsAnsweredRun}
use Rattle.call_laws.specs.Undisturbed.{AreAt, AreCopiesOf, with_answer}

-- loads, a middle, and stores, with nothing else between them
abbrev pub around : List Event → List Operation → List Event → List Operation
around loading middle storing = history_of (steps_of loading) ++ (middle ++ history_of (steps_of storing))

-- the history of an answered entry with this middle: the loads of its frame and of its copies, the middle, and the stores of its answer
abbrev pub history_with : {m : Machine} {ocalls : Ocalls} {cx : Context} {ordinal address : ℕ} {events : List Event} {done : Answered}
    → List Operation → IsAnsweredRun m ocalls cx ordinal address events done → List Operation
history_with {m} {ocalls} {cx} {ordinal} {address} middle run = around (loads_of address run.frame ++ run.copying) middle (run.returning ++ run.putting)

-- its frame and its copies are bytes of the words that it began with, its middle begins with these words, and in the end the words are
-- those after the middle with the return and then each `out` copy written
pub record IsPassedByCopy {m : Machine} {ocalls : Ocalls} {cx : Context} {ordinal address : ℕ} {events : List Event} {done : Answered}
    (words : List ℕ) (middle : List Operation) (run : IsAnsweredRun m ocalls cx ordinal address events done) : Type 0 where
  pub frame_there : AreAt words address run.frame
  pub copies_there : AreCopiesOf words run.function run.frame (marshalled run.function) run.copies.blocks
  pub middle_legal : IsLegal words middle
  pub words_are : words_in_the_end words (history_with middle run)
      ≡ with_answer run.function address run.frame run.finished.value run.finished.blocks (words_in_the_end words middle)
