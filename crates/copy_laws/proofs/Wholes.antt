-- What holds of an answered entry holds of a whole ECALL with the same steps.
use Rattle.std.proofs.Common.{ℕ, ◌≡◌, List, ap, ◌∙◌, subst}
use Rattle.sgx_base.specs.declared.TheConstants.Status.{SUCCESS}
use Rattle.word_port.specs.declared.Step.{Step}
use Rattle.word_port.specs.Events.{Event, steps_of}
use Rattle.word_port.specs.Interaction.{IsRun}
use Rattle.word_port.specs.History.{IsLegal, history_of, words_in_the_end}
use Rattle.call_report.specs.declared.Way.{Way}
use Rattle.call_machine.specs.declared.Machine.{Machine}
use Rattle.call_machine.specs.Context.{Context}
use Rattle.call_machine.specs.Result.{Outcome}
use Rattle.call_machine.specs.Ecall.{Ocalls, ecall_by}
use Rattle.call_laws.specs.Undisturbed.{AreLegal, words_at_end, IsUndisturbedRun, IsQuiet, IsDirectCall}
use Rattle.call_laws.proofs.UndisturbedLaws.{undisturbed_run, direct_call}
use Rattle.copy_laws.proofs.Parts.{HasAnswered, has_answered}

-- events with the same steps are legal and end alike
pub same_legal : (words : List ℕ) (events inner : List Event) → steps_of events ≡ steps_of inner → AreLegal words events → AreLegal words inner
same_legal words events inner e h = subst (λ (l : List Step). IsLegal words (history_of l)) e h

pub same_end : (words : List ℕ) (events inner : List Event) → steps_of events ≡ steps_of inner → words_at_end words events ≡ words_at_end words inner
same_end words events inner e = ap (λ (l : List Step). words_in_the_end words (history_of l)) e

module _ (m : Machine) (ocalls : Ocalls) (cx : Context) (ordinal address : ℕ) where
  whole_run : (words : List ℕ) (events inner : List Event) → words_at_end words events ≡ words_at_end words inner → IsUndisturbedRun m ocalls cx ordinal address words inner
      → IsUndisturbedRun m ocalls cx ordinal address words events
  whole_run words events inner e r = record {
    function = r.function;
    found = r.found;
    frame = r.frame;
    whole_frame = r.whole_frame;
    frame_there = r.frame_there;
    copies = r.copies;
    copies_there = r.copies_there;
    room_left = r.room_left;
    running = r.running;
    finished = r.finished;
    body_runs = r.body_runs;
    body_legal = r.body_legal;
    words_are = e ∙ r.words_are;
  }

pub undisturbed : (m : Machine) (ocalls : Ocalls) (cx : Context) (ordinal address : ℕ) (way : Way) (words : List ℕ) (events : List Event) (outcome : Outcome)
    → IsRun (ecall_by m ocalls cx ordinal address way) events outcome → AreLegal words events → outcome.status ≡ SUCCESS → IsUndisturbedRun m ocalls cx ordinal address words events
undisturbed m ocalls cx ordinal address way words events outcome h legal e =
    let a : HasAnswered m ocalls cx ordinal address events = has_answered m ocalls cx ordinal address way events outcome h e in
    whole_run m ocalls cx ordinal address words events a.inner (same_end words events a.inner a.steps_are)
    (undisturbed_run m ocalls cx ordinal address words a.inner a.done a.run (same_legal words events a.inner a.steps_are legal))

pub direct : (m : Machine) (ocalls : Ocalls) (cx : Context) (ordinal address : ℕ) (way : Way) (words : List ℕ) (events : List Event) (outcome : Outcome) → IsQuiet m ordinal
    → IsRun (ecall_by m ocalls cx ordinal address way) events outcome → AreLegal words events → outcome.status ≡ SUCCESS → IsDirectCall m cx ordinal address words events
direct m ocalls cx ordinal address way words events outcome quiet h legal e =
    direct_call m ocalls cx ordinal address words events quiet (undisturbed m ocalls cx ordinal address way words events outcome h legal e)
