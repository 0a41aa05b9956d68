-- Acts and actions that a script may have, and some that it may not.
use Rattle.std.specs.Prelude.{ℕ, ◌-◌, ◌*◌, List, [], ◌∷◌, Some}
use Rattle.std.proofs.Common.{arith, refl, subst, sym}
use Rattle.body_vm.specs.declared.Action.TheVariants as action
use Rattle.body_vm.specs.declared.Operand.TheVariants.{Number, Value}
use Rattle.body_vm.specs.declared.Pass.TheVariants.{Value as by_number, Bytes as by_block}
use Rattle.call_script.specs.declared.HostAct.{HostAct, Call, Peek, Repeat}
use Rattle.call_script.specs.declared.Place.TheVariants.{At as at_address}
use Rattle.call_script.specs.Sound.{Actor, IsSoundAct, AreSoundActsIn, IsSoundRepeat, AreSoundActions, OfThread}
use Rattle.script_laws.proofs.ActLaws.{IsSoundAct-Repeat}
use Rattle.script_laws.proofs.RowInterfaces.{wide_interface, value_function}

abbrev IsActOf : Actor → HostAct → ℕ → ℕ → Type 0
IsActOf who act nesting around = IsSoundAct wide_interface 4096 who act nesting around

abbrev of_repeat : (who : Actor) (times : ℕ) (acts : List HostAct) (nesting around : ℕ)
    → IsActOf who (Repeat times acts) nesting around → IsSoundRepeat wide_interface 4096 who nesting around times
    × AreSoundActsIn wide_interface 4096 who acts (nesting - 1) (around * times)
of_repeat who times acts nesting around h =
    subst (λ P. P) (IsSoundAct-Repeat wide_interface 4096 who times acts nesting around) h

abbrev repeated : (who : Actor) (times : ℕ) (acts : List HostAct) (nesting around : ℕ)
    → IsSoundRepeat wide_interface 4096 who nesting around times
    → AreSoundActsIn wide_interface 4096 who acts (nesting - 1) (around * times)
    → IsActOf who (Repeat times acts) nesting around
repeated who times acts nesting around count each =
    subst (λ P. P) (sym (IsSoundAct-Repeat wide_interface 4096 who times acts nesting around)) (count, each)

call_of_nothing : IsActOf OfThread (Call 2 []) 2 1048576
call_of_nothing = record { function = _; found = refl; fits = tt; allowed = tt }

-- a repeat in a repeat, of a call, and a peek at the last bytes of host memory
nested : IsActOf OfThread (Repeat 1024 (Repeat 1024 (Call 2 [] ∷ []) ∷ Peek (at_address 0x10ffc) 4 ∷ [])) 4 1
nested =
    repeated OfThread 1024 _ 4 1 (record {
      nested = omega arith;
      from = omega arith;
      upto = omega arith;
      in_all = omega arith;
    }) (
      repeated OfThread 1024 _ 3 1024 (record {
        nested = omega arith;
        from = omega arith;
        upto = omega arith;
        in_all = omega arith;
      }) (call_of_nothing, tt),
      (record { from = omega arith; upto = omega arith; reached = (omega arith, omega arith); allowed = tt }, tt),
    )

-- one count too many
too_often : IsActOf OfThread (Repeat 1024 (Repeat 1025 [] ∷ [])) 4 1 → ⊥
too_often h =
    let inner = (of_repeat OfThread 1024 (Repeat 1025 [] ∷ []) 4 1 h).1.0 in
    let e = (of_repeat OfThread 1025 [] 3 1024 inner).0.in_all in omega arith

-- an OCALL with a parameter's value, a temporary and a number, and a skip past its temporary
actions : AreSoundActions wide_interface 16 value_function 1 (action.Skipz 7 2 ∷ action.Temp 0 4
    ∷ action.Ocall 0 1 3 (by_number (Value 3) ∷ by_block (Some 0) ∷ by_number (Number 5) ∷ []) ∷ [])
actions = (
  (omega arith, omega arith),
  (
    ((omega arith, omega arith), omega arith, omega arith),
    (
      (
        omega arith,
        omega arith,
        record {
          function = _;
          found = refl;
          fits = ((refl, (_, refl, refl)), ((refl, omega arith), ((refl, omega arith), tt)));
        },
      ),
      tt,
    ),
  ),
)
