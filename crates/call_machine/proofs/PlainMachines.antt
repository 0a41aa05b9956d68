-- What is known of a machine that the engine runs: its functions, its bridges, the words that it begins with and the acts of its thread.
use Rattle.std.specs.List.{AllZip}
use Rattle.std.proofs.Common.{ℕ, zero, suc, refl, ◌≡◌, ◌*◌, ◌≤◌, ◌<◌, ◌^◌, Bool, true, false, if◌then◌else◌, List, [], ◌∷◌, length, take, slice_get, get_or, unwrap_or, Some, All, subst, arith}
use Rattle.std.proofs.lemmas.List.{get_or-take, length-take-le}
use Rattle.std.proofs.lemmas.List.Elements.{All-weaker}
use Rattle.std.proofs.lemmas.Option.{get_or_from_slice_get, slice_get_within}
use Rattle.edl_interface.specs.declared.Function.{Function}
use Rattle.edl_interface.specs.declared.Interface.{Interface}
use Rattle.edl_interface.specs.Sound.{IsSoundFunction}
use Rattle.edl_interface.specs.Runnable.{IsRunnableFunction}
use Rattle.word_port.specs.declared.Race.{Race}
use Rattle.word_port.specs.Plain.{HasBytes, AreInOrder}
use Rattle.bridge_program.specs.Entry.{Entered, MayEnter}
use Rattle.bridge_program.specs.Tables.{MayTry}
use Rattle.call_script.specs.declared.HostAct.{HostAct}
use Rattle.call_script.specs.declared.Script.{Script}
use Rattle.call_script.specs.Sound.{OfThread, OfHandler, IsByte, IsSoundRace, IsSoundScript, AreSoundActs}
use Rattle.call_machine.specs.declared.Machine.{Machine}
use Rattle.call_machine.specs.Plain.{IsPlainFunction, IsPlainMachine}
use Rattle.call_machine.specs.Reported.{acts_at}

-- ---- functions

-- what holds of each holds of the one at a place
pub at_place : {A : Type 0} (P : A → Type 0) (xs : List A) (n : ℕ) (x : A) → All P xs → slice_get xs n ≡ Some x → P x
at_place P xs n x all found = subst P (get_or_from_slice_get xs n x x found) (all n x (slice_get_within xs n x found))

-- a function of the trusted part
pub ecall_of : (m : Machine) (plain : IsPlainMachine m) (ordinal : ℕ) (f : Function) → slice_get m.interface.ecalls ordinal ≡ Some f → IsPlainFunction true f
ecall_of m plain ordinal f found =
    let sound : IsSoundFunction (length m.interface.ecalls) f = at_place (IsSoundFunction (length m.interface.ecalls)) m.interface.ecalls ordinal f plain.sound.ecalls found in
    record {
      words = sound.words;
      few = sound.params;
      frame = sound.frame;
      runnable = at_place (IsRunnableFunction true) m.interface.ecalls ordinal f plain.runnable.ecalls found;
    }

-- a function of the untrusted part
pub ocall_of : (m : Machine) (plain : IsPlainMachine m) (ordinal : ℕ) (f : Function) → slice_get m.interface.ocalls ordinal ≡ Some f → IsPlainFunction false f
ocall_of m plain ordinal f found =
    let sound : IsSoundFunction (length m.interface.ecalls) f = at_place (IsSoundFunction (length m.interface.ecalls)) m.interface.ocalls ordinal f plain.sound.ocalls found in
    record {
      words = sound.words;
      few = sound.params;
      frame = sound.frame;
      runnable = at_place (IsRunnableFunction false) m.interface.ocalls ordinal f plain.runnable.ocalls found;
    }

-- the acts of an OCALL's handler
pub record HasHandler (m : Machine) (ordinal : ℕ) (f : Function) : Type 0 where
  pub acts : List HostAct
  pub there : slice_get m.script.handlers ordinal ≡ Some acts
  pub sound : AreSoundActs m.interface m.script.settings.host (OfHandler f) acts

handler_at : (m : Machine) (fs : List Function) (handlers : List (List HostAct)) (ordinal : ℕ) (f : Function)
    → AllZip (λ g acts. AreSoundActs m.interface m.script.settings.host (OfHandler g) acts) fs handlers → slice_get fs ordinal ≡ Some f
    → (acts : List HostAct) × (slice_get handlers ordinal ≡ Some acts) × AreSoundActs m.interface m.script.settings.host (OfHandler f) acts
handler_at m [] [] ordinal f are e = absurd cc
handler_at m [] (h ∷ handlers) ordinal f are e = absurd are
handler_at m (g ∷ fs) [] ordinal f are e = absurd are
handler_at m (g ∷ fs) (h ∷ handlers) zero f are e =
    let same : g ≡ f = cc in (h, refl, subst (λ x. AreSoundActs m.interface m.script.settings.host (OfHandler x) h) same are.0)
handler_at m (g ∷ fs) (h ∷ handlers) (suc n) f are e = handler_at m fs handlers n f are.1 e

pub handler_of : (m : Machine) (plain : IsPlainMachine m) (ordinal : ℕ) (f : Function) → slice_get m.interface.ocalls ordinal ≡ Some f → HasHandler m ordinal f
handler_of m plain ordinal f found =
    let (acts, there, sound) = handler_at m m.interface.ocalls m.script.handlers ordinal f plain.script.handlers found in
    record { acts = acts; there = there; sound = sound }

-- ---- entries

-- an ECALL that may be entered in the interface may be tried by the machine's bridges
pub may_try : (m : Machine) (plain : IsPlainMachine m) (stack : List Entered) → MayEnter m.interface stack → MayTry m.bridges stack
may_try m plain stack may = (m.interface, plain.bridges, may)

-- ---- words

-- what a port of the words of a script is made of
pub record ArePortWords (size : ℕ) (words : List ℕ) (races : List Race) : Type 0 where
  pub some : 1 ≤ length words
  pub few : length words ≤ 2 ^ 20
  pub host : size ≤ length words
  pub bytes : HasBytes size words
  pub order : AreInOrder races
  pub first : All (λ r. 1 ≤ r.at) races
  pub aims : All (λ r. r.index < size) races

bytes_below : (host : ℕ) (words : List ℕ) → host ≤ length words → All IsByte (take host words) → HasBytes host words
bytes_below host words within bytes k below =
    let long = length-take-le host words within in
    subst IsByte (get_or-take host words k 0 below) (bytes k 0 (omega arith))

pub port_words : (i : Interface) (racing : Bool) (s : Script) → IsSoundScript i racing s → ArePortWords s.settings.host s.words s.races
port_words i racing s h =
    let count = h.words.count in
    let hosts = h.settings.host.upto in
    let cells = h.settings.cells.upto in
    let slots = h.settings.slots.upto in
    let few : (if racing then 2 * s.settings.slots else 0) ≤ 16 = both racing slots in
    let inside : s.settings.host ≤ length s.words = omega arith in
    record {
      some = omega arith;
      few = omega arith;
      host = inside;
      bytes = bytes_below s.settings.host s.words inside h.words.bytes;
      order = h.races.order;
      first = All-weaker (IsSoundRace s.settings.host) (λ r. 1 ≤ r.at) (λ r k. k.from) s.races h.races.each;
      aims = All-weaker (IsSoundRace s.settings.host) (λ r. r.index < s.settings.host) (λ r k. k.aim) s.races h.races.each;
    }
  where
    both : (t : Bool) → s.settings.slots ≤ 8 → (if t then 2 * s.settings.slots else 0) ≤ 16
    both true l = omega arith
    both false l = omega arith

-- ---- acts

-- the acts that are read at the first place
pub first_of : (threads : List (List HostAct)) (acts : List HostAct) → 1 ≤ length threads → acts ≡ get_or threads 0 acts → acts ≡ unwrap_or (slice_get threads 0) []
first_of [] acts some e = absurd (omega (arith, some))
first_of (first ∷ threads) acts some e = e

first_sound : (i : Interface) (size : ℕ) (threads : List (List HostAct)) → 1 ≤ length threads → All (AreSoundActs i size OfThread) threads
    → AreSoundActs i size OfThread (unwrap_or (slice_get threads 0) [])
first_sound i size [] some each = absurd (omega (arith, some))
first_sound i size (acts ∷ threads) some each = each 0 [] (let more : 0 < length (acts ∷ threads) = omega (arith, some) in more)

-- the acts of thread 0
pub acts_sound : (m : Machine) → IsPlainMachine m → AreSoundActs m.interface m.script.settings.host OfThread (acts_at m 0)
acts_sound m plain = first_sound m.interface m.script.settings.host m.script.threads plain.script.threads.first plain.script.threads.each
