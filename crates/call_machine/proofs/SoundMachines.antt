-- A machine that the engine runs is sound.
use Rattle.std.proofs.Common.{ℕ, ◌≡◌, List, [], ◌∷◌, length, unwrap_or, option_map, Option, Some, None, sym, ◌∙◌, subst, ap}
use Rattle.std.specs.List.{AllZip}
use Rattle.edl_interface.specs.declared.Param.{Param}
use Rattle.edl_interface.specs.declared.Function.{Function}
use Rattle.edl_interface.specs.declared.Interface.{Interface}
use Rattle.edl_interface.specs.Parameters.{marshalled}
use Rattle.body_vm.specs.declared.Action.{Action}
use Rattle.body_vm.specs.declared.Action.TheVariants.{Temp, Ocall}
use Rattle.body_vm.specs.declared.Body.{Body}
use Rattle.body_vm.specs.declared.Pass.{Pass}
use Rattle.body_vm.specs.declared.Pass.TheVariants.{Value, Bytes}
use Rattle.call_script.specs.Sound.{IsPassAt, IsSoundAction as IsSoundHere, AreSoundActions as AreSoundHere, temporary_count}
use Rattle.call_machine.specs.declared.Machine.{Machine}
use Rattle.call_machine.specs.Plain.{IsPlainMachine}
use Rattle.call_machine.specs.Sound.{FitPasses, IsSoundAction, AreSoundActions, IsSoundBody, IsSoundMachine}
use Rattle.call_machine.proofs.BodyRange.{HasBody, body_at}

module _ (i : Interface) (count : ℕ) (f : Function) (temporaries : ℕ) where
  passes_fit : (params : List Param) (args : List Pass) → AllZip (IsPassAt i count f temporaries) params args → FitPasses params args
  passes_fit [] [] h = tt
  passes_fit [] (a ∷ args) h = h
  passes_fit (p ∷ params) [] h = h
  passes_fit (p ∷ params) (Value v ∷ args) h = (h.0.0, passes_fit params args h.1)
  passes_fit (p ∷ params) (Bytes None ∷ args) h = (h.0, passes_fit params args h.1)
  passes_fit (p ∷ params) (Bytes (Some b) ∷ args) h = (h.0.0, passes_fit params args h.1)

  sound_action : (left : ℕ) (a : Action) → IsSoundHere i count f temporaries left a → IsSoundAction i (length (marshalled f)) a
  sound_action left (Temp b n) h = h.0.0
  sound_action left (Ocall ret status ordinal args) h = λ g e.
      let some : ◌≡◌ {A = Option Function} (Some h.2.function) (Some g) = sym h.2.found ∙ e in
      subst (λ (x : Function). FitPasses x.params args) (ap (λ o. unwrap_or o g) some) (passes_fit h.2.function.params args h.2.fits)
  sound_action left a h = tt

  pub sound_actions : (actions : List Action) → AreSoundHere i count f temporaries actions → AreSoundActions i (length (marshalled f)) actions
  sound_actions [] h = tt
  sound_actions (a ∷ actions) h = (sound_action (length actions) a h.0, sound_actions actions h.1)

-- each body of the machine has its temporary blocks behind those of its parameters
sound_body : (m : Machine) (ordinal : ℕ) → IsPlainMachine m → IsSoundBody m ordinal
sound_body m ordinal plain = λ f found.
    let its : HasBody m.interface m.script.settings.cells f m.script.bodies ordinal = body_at m.interface m.script.settings.cells m.interface.ecalls m.script.bodies ordinal f plain.script.bodies found in
    subst (λ (b : Option Body). AreSoundActions m.interface (length (marshalled f)) (unwrap_or (option_map (λ (x : Body). x.actions) b) [])) (sym its.there)
    (sound_actions m.interface m.script.settings.cells f (temporary_count its.body) its.body.actions its.sound.actions)

pub plain_sound : (m : Machine) → IsPlainMachine m → IsSoundMachine m
plain_sound m plain = record {
  runnable = plain.runnable;
  stack = plain.script.stack_in_host;
  bodies = λ ordinal. sound_body m ordinal plain;
}
