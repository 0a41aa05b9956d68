-- The acts that a host thread, or the handler of an OCALL, may be given.
use Rattle.std.specs.Prelude.{ℕ, ◌≡◌, ◌≤◌, ◌+◌, true, false, List, IsTrue}
use Rattle.sgx_base.specs.Ranges.{host_start, is_mapped}
use Rattle.edl_interface.specs.declared.Function.{Function}
use Rattle.edl_interface.specs.declared.Interface.{Interface}
use Rattle.edl_interface.specs.Parameters.{has_frame, return_size}
use Rattle.call_script.specs.declared.CallArg.{CallArg}
use Rattle.call_script.specs.declared.HostAct.{HostAct}
use Rattle.call_script.specs.Sound.{Actor, OfThread, OfHandler, OfRacer, IsSoundCall, IsSoundAct, AreSoundActsIn}
use Rattle.call_machine.specs.declared.Machine.{Machine}
use Rattle.call_machine.specs.declared.acts.HostPlace.{HostPlace}
use Rattle.call_machine.specs.Acts.{Actor as Acting}
use Rattle.call_machine.specs.Context.{Context}
use Rattle.call_machine.specs.Plain.{IsPlainFunction}
use Rattle.call_machine.specs.Thread.{ecalls, host_actor}

-- acts of a host thread, in repeats of any nesting
unfoldable pub AreThreadActs : Interface → ℕ → List HostAct → Type 0
AreThreadActs i host acts = (nesting : ℕ) × (around : ℕ) × AreSoundActsIn i host OfThread acts nesting around

-- where a handler of this function has its frame, in a host memory of so many bytes
pub record IsHandlerPlace (host : ℕ) (f : Function) (place : HostPlace) : Type 0 where
  pub plain : IsPlainFunction false f
  pub return_size_is : place.return_size ≡ return_size f
  pub mapped : has_frame f ≡ true → IsTrue (is_mapped host place.frame f.frame_size)
  pub upto : place.frame ≤ host_start + host

-- where who acts has its frame, and its return's size: outside handlers there is none
abbrev pub IsPlaceOf : ℕ → Actor → HostPlace → Type 0
IsPlaceOf host OfThread place = (place.frame ≡ 0) × (place.return_size ≡ 0)
IsPlaceOf host (OfHandler f) place = IsHandlerPlace host f place
IsPlaceOf host OfRacer place = ⊥

-- a call that the host may make at this place
abbrev pub IsHostCall : Machine → HostPlace → ℕ → List CallArg → Type 0
IsHostCall m place ordinal args =
    (who : Actor) × IsPlaceOf m.script.settings.host who place × IsSoundCall m.interface m.script.settings.host who ordinal args

-- an act that the host may do at this place, in repeats of any nesting
abbrev pub IsHostAct : Machine → HostPlace → HostAct → Type 0
IsHostAct m place act =
    (who : Actor) × IsPlaceOf m.script.settings.host who place
    × ((nesting : ℕ) × (around : ℕ) × IsSoundAct m.interface m.script.settings.host who act nesting around)

-- acts that the host may do at this place, in repeats of any nesting
abbrev pub AreHostActs : Machine → HostPlace → List HostAct → Type 0
AreHostActs m place acts =
    (who : Actor) × IsPlaceOf m.script.settings.host who place
    × ((nesting : ℕ) × (around : ℕ) × AreSoundActsIn m.interface m.script.settings.host who acts nesting around)

-- the host at a place, in a context
abbrev pub actor_at : Machine → Context → HostPlace → Acting
actor_at m cx place = host_actor m (ecalls m cx) cx place.frame place.return_size
