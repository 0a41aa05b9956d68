-- The acts that a racer may be given, and what they come to.
use Rattle.std.specs.Prelude.{ℕ, ◌≡◌, ◌<◌, List, [], length, IsTrue}
use Rattle.std.specs.List.{AllByRecursion}
use Rattle.sgx_base.specs.Ranges.{is_mapped}
use Rattle.sgx_base.specs.declared.TheConstants.Status.{SUCCESS}
use Rattle.word_port.specs.declared.Kind.TheVariants.{Swap}
use Rattle.word_port.specs.declared.Side.TheVariants.{Racer}
use Rattle.word_port.specs.declared.Step.{Step}
use Rattle.call_script.specs.declared.Place.{Place}
use Rattle.call_script.specs.declared.Place.TheVariants.{At, InFrame}
use Rattle.call_script.specs.declared.HostAct.{HostAct, Poke, Repeat', Row_of-HostAct, end_of-HostAct, more_of-HostAct}
use Rattle.call_machine.specs.Acts.{Actor, racer_actor}
use Rattle.call_machine.specs.Result.{Outcome}

-- a racer over a host memory of so many bytes
abbrev pub racer : ℕ → Actor
racer host = racer_actor Racer host

-- an address with so many bytes from it on, all in a host memory of so many bytes
abbrev pub IsAimed : ℕ → Place → ℕ → Type 0
IsAimed host (At address) count = IsTrue (is_mapped host address count)
IsAimed host (InFrame offset) count = ⊥

abbrev mutual
  -- a poke of bytes that are all in host memory, or a repeat of such alone
  pub IsRacerAct : ℕ → HostAct → Type 0
  IsRacerAct host (Poke place bytes) = IsAimed host place (length bytes)
  IsRacerAct host (Repeat' times shape acts) = AreRacerRow host acts
  IsRacerAct host _ = ⊥

  pub AreRacerRow : {n : _} → ℕ → Row_of-HostAct n → Type 0
  AreRacerRow host end_of-HostAct = Unit {0}
  AreRacerRow host (more_of-HostAct act rest) = IsRacerAct host act × AreRacerRow host rest

-- each act is so
abbrev pub AreRacerActs : ℕ → List HostAct → Type 0
AreRacerActs host acts = AllByRecursion (λ act. IsRacerAct host act) acts

-- no reply was given, and no record made
abbrev pub raced : Outcome
raced = record { status = SUCCESS; records = [] }

-- a write of a host byte by the side of racers
pub record IsRacerStep (host : ℕ) (s : Step) : Type 0 where
  pub side : s.side ≡ Racer
  pub kind : s.kind ≡ Swap
  pub index : s.index < host
