-- The acts that a racer may be given, in lists and in repeats.
use Rattle.std.proofs.Common.{ℕ, zero, suc, ◌+◌, ◌-◌, ◌*◌, ◌<◌, ◌≤◌, ◌≡◌, List, [], ◌∷◌, length, get_or, refl, ap, sym, ◌∙◌, subst, arith}
use Rattle.sgx_base.specs.Ranges.{host_start}
use Rattle.edl_interface.specs.declared.Interface.{Interface}
use Rattle.call_script.specs.declared.Place.{Place}
use Rattle.call_script.specs.declared.Place.TheVariants.{At, InFrame}
use Rattle.call_script.specs.declared.HostAct.{HostAct, Call, Raw, Poke, Peek, Return, Reply, Repeat', Repeat, Row_of-HostAct, end_of-HostAct, more_of-HostAct, items-the_row-HostAct, items_hidden-the_row-HostAct-0}
use Rattle.call_script.specs.declared.HostAct.TheBlock.{hidden-the_row-HostAct-0}
use Rattle.call_script.specs.Sound.{OfRacer, IsReached, IsSoundAct, AreSoundInRow, AreSoundActsIn, AreSoundActs}
use Rattle.call_script.specs.Faults.{max_nesting}
use Rattle.host_racer.specs.Racing.{IsAimed, IsRacerAct, AreRacerRow, AreRacerActs}

-- ---- repeats

row_is : {n : _} (host : ℕ) (row : Row_of-HostAct n) → AreRacerRow host row ≡ AreRacerActs host (items-the_row-HostAct _ row)
row_is host end_of-HostAct = refl
row_is host (more_of-HostAct act rest) = ap (λ P. IsRacerAct host act × P) (row_is host rest)

repeated : (host times : ℕ) (acts : List HostAct) → IsRacerAct host (Repeat times acts) → AreRacerActs host acts
repeated host times acts racing =
    subst (λ P. P) (row_is host (hidden-the_row-HostAct-0 acts) ∙ ap (λ l. AreRacerActs host l) (items_hidden-the_row-HostAct-0 acts)) racing

-- the acts of a repeat
pub acts_repeated : (host times : ℕ) (act : HostAct) (acts given : List HostAct) → act ≡ Repeat times acts → given ≡ acts → IsRacerAct host act → AreRacerActs host given
acts_repeated host times act acts given act_is given_is racing =
    subst (λ l. AreRacerActs host l) (sym given_is) (repeated host times acts (subst (λ a. IsRacerAct host a) act_is racing))

-- one of the acts
pub one_act : (host : ℕ) (acts : List HostAct) (k : ℕ) (act : HostAct) → AreRacerActs host acts → k < length acts → act ≡ get_or acts k act → IsRacerAct host act
one_act host [] k act racing below e = absurd (omega (arith, below))
one_act host (a ∷ acts) zero act racing below e = subst (λ x. IsRacerAct host x) (sym e) racing.0
one_act host (a ∷ acts) (suc k) act racing below e = let less : k < length acts = omega (arith, below) in one_act host acts k act racing.1 less e

-- ---- sound scripts

module _ (i : Interface) (host : ℕ) where
  aimed : (place : Place) (count : ℕ) → 1 ≤ count → IsReached OfRacer host place count → IsAimed host place count
  aimed (At address) count some h = let low : host_start ≤ address = h.0 in let high : address + count ≤ host_start + host = h.1 in grind arith
  aimed (InFrame offset) count some h = absurd h.0

  mutual
    sound_act : (act : HostAct) (nesting around : ℕ) → IsSoundAct i host OfRacer act nesting around → IsRacerAct host act
    sound_act (Call ordinal args) nesting around h = absurd h.allowed
    sound_act (Raw ordinal address) nesting around h = absurd h.allowed
    sound_act (Poke place bytes) nesting around h = aimed place (length bytes) h.some h.reached
    sound_act (Peek place count) nesting around h = absurd h.allowed
    sound_act (Return n) nesting around h = absurd h.0
    sound_act (Reply n) nesting around h = absurd h.0
    sound_act (Repeat' times shape acts) nesting around h = sound_row acts (nesting - 1) (around * times) h.1

    sound_row : {n : _} (row : Row_of-HostAct n) (nesting around : ℕ) → AreSoundInRow i host OfRacer row nesting around → AreRacerRow host row
    sound_row end_of-HostAct nesting around h = tt
    sound_row (more_of-HostAct act rest) nesting around h = (sound_act act nesting around h.0, sound_row rest nesting around h.1)

  sound_acts : (acts : List HostAct) (nesting around : ℕ) → AreSoundActsIn i host OfRacer acts nesting around → AreRacerActs host acts
  sound_acts [] nesting around h = tt
  sound_acts (act ∷ acts) nesting around h = (sound_act act nesting around h.0, sound_acts acts nesting around h.1)

-- acts as a sound script gives them
pub acts_of_racer : (i : Interface) (host : ℕ) (acts : List HostAct) → AreSoundActs i host OfRacer acts → AreRacerActs host acts
acts_of_racer i host acts h = sound_acts i host acts max_nesting 1 h
