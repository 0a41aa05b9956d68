-- The acts of the host at a place, as the reader of scripts gives them.
use Rattle.std.proofs.Common.{ℕ, zero, suc, ◌+◌, ◌-◌, ◌*◌, ◌^◌, ◌<◌, ◌≤◌, ◌≡◌, ◌==◌, ◌||◌, Bool, true, false, not, IsTrue, is_some, List, [], ◌∷◌, length, Option, Some, None, slice_get, get_or, refl, ap, sym, ◌∙◌, subst, arith}
use Rattle.std.specs.List.{AllZip}
use Rattle.sgx_base.specs.Ranges.{host_start, is_mapped}
use Rattle.edl_interface.specs.declared.Plain.{Plain}
use Rattle.edl_interface.specs.declared.Class.{Class}
use Rattle.edl_interface.specs.declared.Class.TheVariants.{Plain as by_value, UserCheck, Buffer, Text, Fixed, Foreign}
use Rattle.edl_interface.specs.declared.Param.{Param}
use Rattle.edl_interface.specs.declared.Function.{Function}
use Rattle.edl_interface.specs.declared.Interface.{Interface}
use Rattle.edl_interface.specs.Parameters.{has_frame, return_size}
use Rattle.ocall_frames.proofs.PutLaws.{part_mapped}
use Rattle.call_script.specs.declared.CallArg.{CallArg}
use Rattle.call_script.specs.declared.CallArg.TheVariants.{At, Null, Number, Bytes}
use Rattle.call_script.specs.declared.Place.{Place}
use Rattle.call_script.specs.declared.Place.TheVariants.{At as at_address, InFrame}
use Rattle.call_script.specs.declared.HostAct.{HostAct, Call, Poke, Peek, Return, Repeat, Row_of-HostAct, end_of-HostAct, more_of-HostAct, items-the_row-HostAct, items_hidden-the_row-HostAct-0}
use Rattle.call_script.specs.declared.HostAct.TheBlock.{hidden-the_row-HostAct-0}
use Rattle.call_script.specs.Sound.{Actor, OfThread, OfHandler, OfRacer, HasReturn, IsPointedAt, IsReached, IsSoundPointer, IsSoundArgument, IsSoundAct, AreSoundInRow, AreSoundActsIn, AreSoundActs}
use Rattle.call_script.specs.Faults.{max_nesting}
use Rattle.call_machine.specs.declared.Machine.{Machine}
use Rattle.call_machine.specs.declared.acts.HostPlace.{HostPlace}
use Rattle.call_machine.specs.Acts.{place_address}
use Rattle.call_machine.specs.FramedCalls.{IsPointerArgument, IsArgument, AreArguments}
use Rattle.call_machine.specs.HostActs.{AreThreadActs, IsHandlerPlace, IsPlaceOf, IsHostCall, IsHostAct, AreHostActs}
use Rattle.call_machine.specs.Plain.{IsPlainMachine}

-- ---- addresses

small_host : (m : Machine) → IsPlainMachine m → m.script.settings.host ≤ 65536
small_host m plain = plain.script.settings.host.upto

module _ (host : ℕ) (small : host ≤ 65536) (place : HostPlace) where
  in_frame_fits : (frame offset : ℕ) → frame ≤ host_start + host → offset < 2 ^ 16 → frame + offset < 2 ^ 64
  in_frame_fits frame offset upto below = omega (arith, small, upto, below)

  pointed_fits : (who : Actor) (at : Place) → IsPlaceOf host who place → IsPointedAt who at → place_address place.frame at < 2 ^ 64
  pointed_fits who (at_address address) its h = h
  pointed_fits OfThread (InFrame offset) its h = absurd h.0
  pointed_fits (OfHandler f) (InFrame offset) its h = in_frame_fits place.frame offset its.upto h.1
  pointed_fits OfRacer (InFrame offset) its h = absurd its

  reached_fits : (who : Actor) (at : Place) (count : ℕ) → IsPlaceOf host who place → IsReached who host at count → place_address place.frame at < 2 ^ 64
  reached_fits who (at_address address) count its h = let upto : address + count ≤ host_start + host = h.1 in omega (arith, small, upto)
  reached_fits OfThread (InFrame offset) count its h = absurd h.0
  reached_fits (OfHandler f) (InFrame offset) count its h = in_frame_fits place.frame offset its.upto h.1
  reached_fits OfRacer (InFrame offset) count its h = absurd its

  -- ---- calls

  pointer : (who : Actor) (arg : CallArg) → IsPlaceOf host who place → IsSoundPointer who arg → IsPointerArgument place.frame arg
  pointer who (At at) its h = pointed_fits who at its h
  pointer who Null its h = tt
  pointer who (Number n) its h = absurd h
  pointer who (Bytes bytes) its h = absurd h

  argument : (who : Actor) (class : Class) (arg : CallArg) → IsPlaceOf host who place → IsSoundArgument who class arg → IsArgument place.frame class arg
  argument who (by_value plain) arg its h = h
  argument who UserCheck arg its h = pointer who arg its h
  argument who (Buffer way size count unit) arg its h = pointer who arg its h
  argument who (Text way unit) arg its h = pointer who arg its h
  argument who (Fixed way n unit) arg its h = pointer who arg its h
  argument who (Foreign way) arg its h = pointer who arg its h

  arguments : (who : Actor) (params : List Param) (args : List CallArg) → IsPlaceOf host who place → AllZip (λ p arg. IsSoundArgument who p.class arg) params args → AreArguments place.frame params args
  arguments who [] [] its h = tt
  arguments who [] (arg ∷ args) its h = absurd h
  arguments who (p ∷ params) [] its h = absurd h
  arguments who (p ∷ params) (arg ∷ args) its h = (argument who p.class arg its h.0, arguments who params args its h.1)

-- the arguments of a call fit the parameters of its function
pub call_fits : (m : Machine) (plain : IsPlainMachine m) (place : HostPlace) (ordinal : ℕ) (args : List CallArg) (f : Function)
    → IsHostCall m place ordinal args → slice_get m.interface.ecalls ordinal ≡ Some f → AreArguments place.frame f.params args
call_fits m plain place ordinal args f (who, its, call) at =
    let functions : Some call.function ≡ Some f = sym call.found ∙ at in
    let function : call.function ≡ f = cc in
    subst (λ x. AreArguments place.frame x.params args) function (arguments m.script.settings.host (small_host m plain) place who call.function.params args its call.fits)

-- and there is its function
pub call_found : (m : Machine) (place : HostPlace) (ordinal : ℕ) (args : List CallArg) → IsHostCall m place ordinal args → slice_get m.interface.ecalls ordinal ≡ None → ⊥
call_found m place ordinal args (who, its, call) none =
    let both : Some call.function ≡ None = sym call.found ∙ none in cc

-- ---- acts

row_is : (i : Interface) (size : ℕ) (who : Actor) {n : _} (row : Row_of-HostAct n) (nesting around : ℕ)
    → AreSoundInRow i size who row nesting around ≡ AreSoundActsIn i size who (items-the_row-HostAct _ row) nesting around
row_is i size who end_of-HostAct nesting around = refl
row_is i size who (more_of-HostAct act rest) nesting around = ap (λ P. IsSoundAct i size who act nesting around × P) (row_is i size who rest nesting around)

repeated : (m : Machine) (place : HostPlace) (times : ℕ) (acts : List HostAct) → IsHostAct m place (Repeat times acts) → AreHostActs m place acts
repeated m place times acts (who, its, (nesting, around, sound)) = (
  who,
  its,
  (
    nesting - 1,
    around * times,
    subst (λ P. P) (row_is m.interface m.script.settings.host who (hidden-the_row-HostAct-0 acts) (nesting - 1) (around * times)
        ∙ ap (λ l. AreSoundActsIn m.interface m.script.settings.host who l (nesting - 1) (around * times)) (items_hidden-the_row-HostAct-0 acts)) sound.1,
  ),
)

-- the acts of a repeat
pub acts_repeated : (m : Machine) (place : HostPlace) (times : ℕ) (act : HostAct) (acts given : List HostAct) → given ≡ acts → act ≡ Repeat times acts → IsHostAct m place act → AreHostActs m place given
acts_repeated m place times act acts given given_is act_is sound =
    subst (λ l. AreHostActs m place l) (sym given_is) (repeated m place times acts (subst (λ a. IsHostAct m place a) act_is sound))

each_act : (i : Interface) (size : ℕ) (who : Actor) (nesting around : ℕ) (acts : List HostAct) (k : ℕ) (act : HostAct) → AreSoundActsIn i size who acts nesting around → k < length acts → act ≡ get_or acts k act
    → IsSoundAct i size who act nesting around
each_act i size who nesting around [] k act h below e = absurd (omega (arith, below))
each_act i size who nesting around (a ∷ acts) zero act h below e = subst (λ x. IsSoundAct i size who x nesting around) (sym e) h.0
each_act i size who nesting around (a ∷ acts) (suc k) act h below e = let less : k < length acts = omega (arith, below) in each_act i size who nesting around acts k act h.1 less e

-- one of the acts
pub one_act : (m : Machine) (place : HostPlace) (acts : List HostAct) (k : ℕ) (act : HostAct) → AreHostActs m place acts → k < length acts → act ≡ get_or acts k act → IsHostAct m place act
one_act m place acts k act (who, its, (nesting, around, sound)) below e = (who, its, (nesting, around, each_act m.interface m.script.settings.host who nesting around acts k act sound below e))

sound_call : (m : Machine) (place : HostPlace) (ordinal : ℕ) (args : List CallArg) → IsHostAct m place (Call ordinal args) → IsHostCall m place ordinal args
sound_call m place ordinal args (who, its, (nesting, around, sound)) = (who, its, sound)

-- a call among the acts
pub call_sound : (m : Machine) (place : HostPlace) (ordinal : ℕ) (act : HostAct) (args given : List CallArg) → given ≡ args → act ≡ Call ordinal args → IsHostAct m place act → IsHostCall m place ordinal given
call_sound m place ordinal act args given given_is act_is sound =
    subst (λ l. IsHostCall m place ordinal l) (sym given_is) (sound_call m place ordinal args (subst (λ a. IsHostAct m place a) act_is sound))

poked_at : (m : Machine) (plain : IsPlainMachine m) (place : HostPlace) (at : Place) (bytes : List ℕ) → IsHostAct m place (Poke at bytes) → place_address place.frame at < 2 ^ 64
poked_at m plain place at bytes (who, its, (nesting, around, sound)) = reached_fits m.script.settings.host (small_host m plain) place who at (length bytes) its sound.reached

peeked_at : (m : Machine) (plain : IsPlainMachine m) (place : HostPlace) (at : Place) (count : ℕ) → IsHostAct m place (Peek at count) → place_address place.frame at < 2 ^ 64
peeked_at m plain place at count (who, its, (nesting, around, sound)) = reached_fits m.script.settings.host (small_host m plain) place who at count its sound.reached

-- the addresses of a poke and a peek
pub poke_fits : (m : Machine) (plain : IsPlainMachine m) (place : HostPlace) (at : Place) (bytes : List ℕ) (act : HostAct) → act ≡ Poke at bytes → IsHostAct m place act → place_address place.frame at < 2 ^ 64
poke_fits m plain place at bytes act act_is sound = poked_at m plain place at bytes (subst (λ a. IsHostAct m place a) act_is sound)

pub peek_fits : (m : Machine) (plain : IsPlainMachine m) (place : HostPlace) (at : Place) (count : ℕ) (act : HostAct) → act ≡ Peek at count → IsHostAct m place act → place_address place.frame at < 2 ^ 64
peek_fits m plain place at count act act_is sound = peeked_at m plain place at count (subst (λ a. IsHostAct m place a) act_is sound)

-- ---- the return of a handler

or_some : (x : Bool) (o : Option Plain) (r : Plain) → o ≡ Some r → (x || is_some o) ≡ true
or_some true o r e = refl
or_some false o r e = ap (λ p. is_some p) e

pub record MayReturn (host : ℕ) (place : HostPlace) : Type 0 where
  pub few : place.return_size ≤ 8
  pub mapped : IsTrue (is_mapped host place.frame place.return_size)

handler_returns : (host : ℕ) (f : Function) (place : HostPlace) → IsHandlerPlace host f place → HasReturn (OfHandler f) → MayReturn host place
handler_returns host f place its (r, has) =
    let framed : has_frame f ≡ true = or_some (not (length f.params == 0)) f.ret r has in
    let size : place.return_size ≡ return_size f = its.return_size_is in
    let few : return_size f ≤ 8 = its.plain.runnable.returns in
    let fits : return_size f ≤ f.frame_size = its.plain.runnable.return_fits in
    let here : place.frame ≤ place.frame = omega arith in
    let within : place.frame + return_size f ≤ place.frame + f.frame_size = omega (arith, fits) in
    record {
      few = omega (arith, size, few);
      mapped = subst (λ n. IsTrue (is_mapped host place.frame n)) (sym size) (part_mapped host place.frame f.frame_size place.frame (return_size f) (its.mapped framed) here within);
    }

returned : (host : ℕ) (who : Actor) (place : HostPlace) → IsPlaceOf host who place → HasReturn who → MayReturn host place
returned host OfThread place its h = absurd h
returned host (OfHandler f) place its h = handler_returns host f place its h
returned host OfRacer place its h = absurd h

returns_at : (m : Machine) (place : HostPlace) (n : ℕ) → IsHostAct m place (Return n) → MayReturn m.script.settings.host place
returns_at m place n (who, its, (nesting, around, sound)) = returned m.script.settings.host who place its sound.0

-- where a return is stored
pub may_return : (m : Machine) (place : HostPlace) (n : ℕ) (act : HostAct) → act ≡ Return n → IsHostAct m place act → MayReturn m.script.settings.host place
may_return m place n act act_is sound = returns_at m place n (subst (λ a. IsHostAct m place a) act_is sound)

-- in the host memory of the port
pub return_mapped : (here host : ℕ) (place : HostPlace) → here ≡ host → MayReturn host place → IsTrue (is_mapped here place.frame place.return_size)
return_mapped here host place same may = subst (λ n. IsTrue (is_mapped n place.frame place.return_size)) (sym same) may.mapped

-- ---- a thread

-- the acts of a thread, which has no frame
pub thread_acts : (m : Machine) (place : HostPlace) (acts : List HostAct) → place.frame ≡ 0 → place.return_size ≡ 0 → AreThreadActs m.interface m.script.settings.host acts → AreHostActs m place acts
unfolding AreThreadActs
thread_acts m place acts at size sound = (OfThread, (at, size), sound)

-- the acts of a whole thread, as the reader of scripts gives them
pub acts_of_thread : (i : Interface) (size : ℕ) (acts : List HostAct) → AreSoundActs i size OfThread acts → AreThreadActs i size acts
unfolding AreThreadActs
acts_of_thread i size acts sound = (max_nesting, 1, sound)
