-- What an engine asks of a script follows from its soundness: of the words that it starts from, of an enclave's arenas,
-- of bodies and of racers.
use Rattle.std.proofs.Common.{arith, ℕ, zero, suc, ◌≡◌, ◌+◌, ◌*◌, ◌%◌, ◌<◌, ◌≤◌, ◌^◌, Bool, true, false, List, [], ◌∷◌, length, take, All, Option, Some, None, refl, sym, ap, subst, ◌∙◌}
use Rattle.std.specs.Prelude.{slice_get, unwrap_or, option_map, if◌then◌else◌}
use Rattle.std.specs.List.{AllZip}
use Rattle.std.proofs.lemmas.List.{get_or-take, length-take-le}
use Rattle.std.proofs.lemmas.List.Elements.{All-weaker}
use Rattle.sgx_base.specs.Ranges.{host_start}
use Rattle.edl_interface.specs.declared.Param.{Param}
use Rattle.edl_interface.specs.declared.Function.{Function}
use Rattle.edl_interface.specs.declared.Interface.{Interface}
use Rattle.edl_interface.specs.Parameters.{marshalled, is_marshalled}
use Rattle.word_port.specs.declared.Race.{Race}
use Rattle.word_port.specs.Plain.{HasBytes, AreInOrder}
use Rattle.body_vm.specs.declared.Action.{Action}
use Rattle.body_vm.specs.declared.Action.TheVariants as action
use Rattle.body_vm.specs.declared.Pass.{Pass}
use Rattle.body_vm.specs.declared.Pass.TheVariants.{Value as by_number, Bytes as by_block}
use Rattle.call_script.specs.declared.Place.TheVariants.{At as at_address, InFrame}
use Rattle.call_script.specs.declared.HostAct.{HostAct, Call, Raw, Poke, Peek, Return, Reply, Repeat'}
use Rattle.call_script.specs.declared.Script.{Script}
use Rattle.call_script.specs.Sound.{IsByte, OfRacer, IsPassAt, IsSoundAction, AreSoundActions, IsSoundBody, IsSoundRace, IsSoundAct, IsSoundScript}

-- ---- the words of a run

-- what a port of plain words is made of
pub record ArePortWords (size : ℕ) (words : List ℕ) (races : List Race) : Type 0 where
  pub some : 1 ≤ length words
  pub few : length words ≤ 2 ^ 20
  pub host : size ≤ length words
  pub bytes : HasBytes size words
  pub order : AreInOrder races
  pub first : All (λ r. 1 ≤ r.at) races
  pub aims : All (λ r. r.index < size) races

bytes-below : (host : ℕ) (words : List ℕ) → host ≤ length words → All IsByte (take host words) → HasBytes host words
bytes-below host words l h k lt =
    let long = length-take-le host words l in
    subst IsByte (get_or-take host words k 0 lt) (h k 0 (omega arith))

pub port-words : (i : Interface) (racing : Bool) (s : Script) → IsSoundScript i racing s
    → ArePortWords s.settings.host s.words s.races
port-words i racing s h =
    let count = h.words.count in
    let hosts = h.settings.host.upto in
    let cells = h.settings.cells.upto in
    let slots = h.settings.slots.upto in
    let few : (if racing then 2 * s.settings.slots else 0) ≤ 16 = both racing slots in
    let inside : s.settings.host ≤ length s.words = omega arith in
    record {
      some = omega arith;
      few = omega arith;
      host = inside;
      bytes = bytes-below s.settings.host s.words inside h.words.bytes;
      order = h.races.order;
      first = All-weaker (IsSoundRace s.settings.host) (λ r. 1 ≤ r.at) (λ r k. k.from) s.races h.races.each;
      aims = All-weaker (IsSoundRace s.settings.host) (λ r. r.index < s.settings.host) (λ r k. k.aim) s.races
          h.races.each;
    }
  where
    both : (t : Bool) → s.settings.slots ≤ 8 → (if t then 2 * s.settings.slots else 0) ≤ 16
    both true l = omega arith
    both false l = omega arith

-- ---- an enclave thread's arenas

pub arena-fits : (i : Interface) (racing : Bool) (s : Script) → IsSoundScript i racing s → (s.settings.arena % 16 ≡ 0)
    × (4096 ≤ s.settings.arena) × (s.settings.arena ≤ 65536)
arena-fits i racing s h = (h.settings.arena.whole, h.settings.arena.from, h.settings.arena.upto)

-- ---- bodies

-- an action hands over a block exactly where the parameter is marshalled
abbrev pub FitPasses : List Param → List Pass → Type 0
FitPasses [] [] = Unit {0}
FitPasses (p ∷ params) (by_number v ∷ args) = (is_marshalled p.class ≡ false) × FitPasses params args
FitPasses (p ∷ params) (by_block place ∷ args) = (is_marshalled p.class ≡ true) × FitPasses params args
FitPasses _ _ = ⊥

-- a temporary block is not made in one of the first places, so many, and the arguments of an OCALL fit its function
abbrev pub IsKeepingAction : Interface → ℕ → Action → Type 0
IsKeepingAction interface count (action.Temp place n) = count ≤ place
IsKeepingAction interface count (action.Ocall ret status ordinal args) =
    (f : Function) → slice_get interface.ocalls ordinal ≡ Some f → FitPasses f.params args
IsKeepingAction interface count _ = Unit {0}

abbrev pub AreKeepingActions : Interface → ℕ → List Action → Type 0
AreKeepingActions interface count [] = Unit {0}
AreKeepingActions interface count (a ∷ actions) =
    IsKeepingAction interface count a × AreKeepingActions interface count actions

module _ (i : Interface) (count : ℕ) (f : Function) (temporaries : ℕ) where
  passes-fit : (params : List Param) (args : List Pass) → AllZip (IsPassAt i count f temporaries) params args
      → FitPasses params args
  passes-fit [] [] h = tt
  passes-fit [] (a ∷ args) h = h
  passes-fit (p ∷ params) [] h = h
  passes-fit (p ∷ params) (by_number v ∷ args) h = (h.0.0, passes-fit params args h.1)
  passes-fit (p ∷ params) (by_block None ∷ args) h = (h.0, passes-fit params args h.1)
  passes-fit (p ∷ params) (by_block (Some b) ∷ args) h = (h.0.0, passes-fit params args h.1)

  same-function : (g k : Function) → ◌≡◌ {A = Option Function} (Some g) (Some k) → g ≡ k
  same-function g k e = ap (λ o. unwrap_or o g) e

  keeping-action : (left : ℕ) (a : Action) → IsSoundAction i count f temporaries left a
      → IsKeepingAction i (length (marshalled f)) a
  keeping-action left (action.Temp b n) h = h.0.0
  keeping-action left (action.Ocall r q ordinal args) h = λ g e.
      subst (λ x. FitPasses x.params args) (same-function h.2.function g (sym h.2.found ∙ e))
      (passes-fit h.2.function.params args h.2.fits)
  keeping-action left a h = tt

  pub keeping-actions : (actions : List Action) → AreSoundActions i count f temporaries actions
      → AreKeepingActions i (length (marshalled f)) actions
  keeping-actions [] h = tt
  keeping-actions (a ∷ actions) h = (keeping-action (length actions) a h.0, keeping-actions actions h.1)

zipped : {A B : Type 0} (R : A → B → Type 0) (xs : List A) (ys : List B) (k : ℕ) (x : A) → AllZip R xs ys
    → slice_get xs k ≡ Some x → (y : B) × (slice_get ys k ≡ Some y) × R x y
zipped R [] ys k x h e = absurd cc
zipped R (z ∷ xs) [] k x h e = absurd h
zipped R (z ∷ xs) (y ∷ ys) zero x h e = (y, refl, subst (λ a. R a y) (ap (λ o. unwrap_or o z) e) h.0)
zipped R (z ∷ xs) (y ∷ ys) (suc k) x h e = zipped R xs ys k x h.1 e

-- the body of each ECALL makes its temporary blocks behind those of its parameters, and its OCALLs have arguments that
-- fit
pub keeping-bodies : (i : Interface) (racing : Bool) (s : Script) → IsSoundScript i racing s
    → (ordinal : ℕ) (f : Function) → slice_get i.ecalls ordinal ≡ Some f
    → AreKeepingActions i (length (marshalled f)) (unwrap_or (option_map (λ b. b.actions) (slice_get s.bodies ordinal))
    [])
keeping-bodies i racing s h ordinal f e =
    let body = zipped (IsSoundBody i s.settings.cells) i.ecalls s.bodies ordinal f h.bodies e in
    subst (λ o. AreKeepingActions i (length (marshalled f)) (unwrap_or (option_map (λ b. b.actions) o) [])) (sym body.1)
    (keeping-actions i s.settings.cells f _ body.0.actions body.2.actions)

-- ---- racers

-- a write to host memory by its address, or a repeat
abbrev pub IsRacerAct : ℕ → HostAct → Type 0
IsRacerAct size (Poke (at_address address) bytes) =
    (host_start ≤ address) × (address + length bytes ≤ host_start + size)
IsRacerAct size (Repeat' times shape acts) = Unit {0}
IsRacerAct size _ = ⊥

pub racer-act : (i : Interface) (size nesting around : ℕ) (act : HostAct)
    → IsSoundAct i size OfRacer act nesting around → IsRacerAct size act
racer-act i size nesting around (Call ordinal args) h = h.allowed
racer-act i size nesting around (Raw ordinal address) h = h.allowed
racer-act i size nesting around (Poke (at_address address) bytes) h = h.reached
racer-act i size nesting around (Poke (InFrame offset) bytes) h = h.reached.0
racer-act i size nesting around (Peek place count) h = h.allowed
racer-act i size nesting around (Return n) h = h.0
racer-act i size nesting around (Reply n) h = h.0
racer-act i size nesting around (Repeat' times shape acts) h = tt
