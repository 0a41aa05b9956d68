-- The machines that the engine runs are such machines.
use Rattle.std.proofs.Common.{ℕ, zero, suc, ◌-◌, ◌*◌, ◌≡◌, List, [], ◌∷◌, length, Some, slice_get, refl, ap, sym, ◌∙◌, subst, arith}
use Rattle.std.specs.Prelude.{unwrap_or, option_map}
use Rattle.std.specs.List.{AllZip}
use Rattle.edl_interface.specs.declared.Class.{Class}
use Rattle.edl_interface.specs.declared.Class.TheVariants.{Plain as by_value, UserCheck, Buffer, Text, Fixed, Foreign}
use Rattle.edl_interface.specs.declared.Param.{Param}
use Rattle.edl_interface.specs.declared.Function.{Function}
use Rattle.edl_interface.specs.declared.Interface.{Interface}
use Rattle.edl_interface.specs.Parameters.{field_size}
use Rattle.body_vm.specs.declared.Action.{Action}
use Rattle.body_vm.specs.declared.Action.TheVariants.{Cload, Cswap, Cadd, Ccas}
use Rattle.body_vm.specs.declared.Body.{Body}
use Rattle.call_script.specs.declared.CallArg.{CallArg}
use Rattle.call_script.specs.declared.CallArg.TheVariants.{At, Null, Number, Bytes}
use Rattle.call_script.specs.declared.HostAct.{HostAct, Call, Raw, Poke, Peek, Return, Reply, Repeat', Row_of-HostAct, end_of-HostAct, more_of-HostAct}
use Rattle.call_script.specs.Faults.{max_nesting}
use Rattle.call_script.specs.Sound.{IsSoundAction, AreSoundActions, IsSoundBody, temporary_count, Actor, OfThread, OfHandler, IsSoundArgument, IsSoundAct, AreSoundInRow, AreSoundActsIn}
use Rattle.call_machine.specs.declared.Machine.{Machine}
use Rattle.call_machine.specs.Plain.{IsPlainMachine}
use Rattle.call_machine.specs.Reported.{acts_at}
use Rattle.call_machine.proofs.SoundMachines.{plain_sound}
use Rattle.call_machine.specs.Served.{handler_acts}
use Rattle.call_machine.proofs.PlainMachines.{acts_sound, HasHandler, handler_of}
use Rattle.pool_laws.specs.Machines.{IsOnCells, AreOnCells, FillsField, FillFields, IsFittingAct, AreFittingRow, AreFitting, IsBoundedMachine, HasStackFor}

module _ (i : Interface) (count : ℕ) (f : Function) (temporaries : ℕ) where
  on_cells : (left : ℕ) (a : Action) → IsSoundAction i count f temporaries left a → IsOnCells count a
  on_cells left (Cload r cell) h = h.1
  on_cells left (Cswap r cell v) h = h.1
  on_cells left (Cadd r cell v) h = h.1
  on_cells left (Ccas r cell v w) h = h.1
  on_cells left a h = tt

  all_on_cells : (actions : List Action) → AreSoundActions i count f temporaries actions → AreOnCells count actions
  all_on_cells [] h = tt
  all_on_cells (a ∷ actions) h = (on_cells (length actions) a h.0, all_on_cells actions h.1)

-- the body of an ordinal, or none
body_on_cells : (i : Interface) (count : ℕ) (fs : List Function) (bodies : List Body) (ordinal : ℕ)
    → AllZip (IsSoundBody i count) fs bodies
    → AreOnCells count (unwrap_or (option_map (λ (b : Body). b.actions) (slice_get bodies ordinal)) [])
body_on_cells i count [] [] ordinal are = tt
body_on_cells i count [] (b ∷ bodies) ordinal are = absurd are
body_on_cells i count (f ∷ fs) [] ordinal are = absurd are
body_on_cells i count (f ∷ fs) (b ∷ bodies) zero are =
    all_on_cells i count f (temporary_count b) b.actions are.0.actions
body_on_cells i count (f ∷ fs) (b ∷ bodies) (suc n) are = body_on_cells i count fs bodies n are.1

argument_fills : (who : Actor) (p : Param) (class : Class) (arg : CallArg) → p.class ≡ class → IsSoundArgument who class arg → FillsField p arg
argument_fills who p class (At place) e h = tt
argument_fills who p class Null e h = tt
argument_fills who p class (Number n) e h = tt
argument_fills who p (by_value plain) (Bytes bytes) e h = subst (λ c. length bytes ≡ field_size c) (sym e) h.size
argument_fills who p UserCheck (Bytes bytes) e h = absurd h
argument_fills who p (Buffer way size count unit) (Bytes bytes) e h = absurd h
argument_fills who p (Text way unit) (Bytes bytes) e h = absurd h
argument_fills who p (Fixed way n unit) (Bytes bytes) e h = absurd h
argument_fills who p (Foreign way) (Bytes bytes) e h = absurd h

arguments_fill : (who : Actor) (params : List Param) (args : List CallArg) → AllZip (λ p arg. IsSoundArgument who p.class arg) params args → FillFields params args
arguments_fill who [] args h = tt
arguments_fill who (p ∷ params) [] h = tt
arguments_fill who (p ∷ params) (arg ∷ args) h = (argument_fills who p p.class arg refl h.0, arguments_fill who params args h.1)

mutual
  act_fits : (i : Interface) (size : ℕ) (who : Actor) (nesting around : ℕ) (act : HostAct) → IsSoundAct i size who act nesting around → IsFittingAct i act
  act_fits i size who nesting around (Call ordinal args) h = λ f found.
      let same : Some h.function ≡ Some f = sym h.found ∙ found in
      let one : h.function ≡ f = cc in
      subst (λ g. FillFields g.params args) one
      (arguments_fill who h.function.params args h.fits)
  act_fits i size who nesting around (Raw ordinal address) h = tt
  act_fits i size who nesting around (Poke place bytes) h = tt
  act_fits i size who nesting around (Peek place count) h = tt
  act_fits i size who nesting around (Return n) h = tt
  act_fits i size who nesting around (Reply n) h = tt
  act_fits i size who nesting around (Repeat' times shape acts) h = row_fits i size who (nesting - 1) (around * times) acts h.1

  row_fits : (i : Interface) (size : ℕ) (who : Actor) (nesting around : ℕ) {n : _} (row : Row_of-HostAct n)
      → AreSoundInRow i size who row nesting around → AreFittingRow i row
  row_fits i size who nesting around end_of-HostAct h = tt
  row_fits i size who nesting around (more_of-HostAct act rest) h = (
    act_fits i size who nesting around act h.0,
    row_fits i size who nesting around rest h.1,
  )

acts_fit : (i : Interface) (size : ℕ) (who : Actor) (nesting around : ℕ) (acts : List HostAct)
    → AreSoundActsIn i size who acts nesting around → AreFitting i acts
acts_fit i size who nesting around [] h = tt
acts_fit i size who nesting around (act ∷ acts) h = (
  act_fits i size who nesting around act h.0,
  acts_fit i size who nesting around acts h.1,
)

module _ (m : Machine) (plain : IsPlainMachine m) where
  pub plain_pools : IsBoundedMachine m
  plain_pools =
      let ecalls = plain.sound.few_ecalls in
      let ocalls = plain.sound.few_ocalls in
      record {
        sound = plain_sound m plain;
        host = plain.script.settings.host.upto;
        ecalls = omega (arith, ecalls);
        ocalls = omega (arith, ocalls);
        cells = λ ordinal.
            body_on_cells m.interface m.script.settings.cells m.interface.ecalls m.script.bodies ordinal
            plain.script.bodies;
        handlers = λ ordinal f found.
            let h : HasHandler m ordinal f = handler_of m plain ordinal f found in
            let acts_are : h.acts ≡ handler_acts m ordinal = rw h.there refl in
            subst (λ (acts : List HostAct). AreFitting m.interface acts) acts_are
            (acts_fit m.interface m.script.settings.host (OfHandler f) max_nesting 1 h.acts h.sound);
      }

  pub plain_acts : AreFitting m.interface (acts_at m 0)
  plain_acts = acts_fit m.interface m.script.settings.host OfThread max_nesting 1 (acts_at m 0) (acts_sound m plain)

  pub plain_stack : HasStackFor m.script.settings 0
  plain_stack = let fits = plain.script.stack_in_host in omega (arith, fits)
