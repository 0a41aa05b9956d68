-- A store gives one machine.
use Rattle.std.proofs.Common.{ℕ, ◌≡◌, Bool, true, List, Option, Some, Result, Ok, refl, ap, sym, ◌∙◌, subst}
use Rattle.sgx_base.specs.Stores.{Store}
use Rattle.edl_grammar.specs.declared.Gathered.{Gathered}
use Rattle.edl_layout.specs.declared.ForeignTypes.{ForeignTypes}
use Rattle.edl_interface.specs.declared.Interface.{Interface}
use Rattle.edl_reader.specs.Accepted.{IsAccepted}
use Rattle.bridge_program.specs.declared.bridges.Bridges.{Bridges}
use Rattle.bridge_program.specs.Tables.{bridges_of}
use Rattle.call_script.specs.declared.Script.{Script}
use Rattle.call_machine.specs.declared.Machine.{Machine}
use Rattle.call_engine.specs.Plain.{plain_script}
use Rattle.call_engine.specs.Prepared.{Prepares, machine, IsInterface, IsMachineOf}
use Rattle.one_machine.proofs.Tables.{same_shapes, checked_same}

one_value : {A B : Type 0} (x y : A) → ◌≡◌ {A = Result A B} (Ok x) (Ok y) → x ≡ y
one_value x y e = cc

one_content : {A : Type 0} (x y : A) → ◌≡◌ {A = Option A} (Some x) (Some y) → x ≡ y
one_content x y e = cc

-- files have one interface
one_accepted : (g : Gathered) (foreign : ForeignTypes) (runner : Bool) (i other : Interface) → IsAccepted g foreign runner i → IsAccepted g foreign runner other → i ≡ other
one_accepted g foreign runner i other p q =
    one_value i other
    (sym p.accepted ∙ checked_same g p.table q.table (same_shapes g foreign p.table q.table p.laid_out.is_table q.laid_out.is_table) runner ∙ q.accepted)

one_interface : (g : Gathered) (text : List ℕ) (i other : Interface) → IsInterface g text i → IsInterface g text other → i ≡ other
one_interface g text i other p q =
    let foreign_is : q.foreign ≡ p.foreign = one_value q.foreign p.foreign (sym q.declared ∙ p.declared) in
    one_accepted g p.foreign true i other p.accepted (subst (λ (f : ForeignTypes). IsAccepted g f true other) foreign_is q.accepted)

one_of_texts : (racing : Bool) (g : Gathered) (text : List ℕ) (m other : Machine) → IsMachineOf racing g text m → IsMachineOf racing g text other → m ≡ other
one_of_texts racing g text m other p q =
    let interface_is : m.interface ≡ other.interface = one_interface g text m.interface other.interface p.interface q.interface in
    let bridges_are : m.bridges ≡ other.bridges = p.bridges ∙ ap bridges_of interface_is ∙ sym q.bridges in
    let script_is : m.script ≡ other.script = one_script interface_is in
    ap (λ (i : Interface). record { interface = i; bridges = m.bridges; script = m.script }) interface_is
    ∙ ap (λ (b : Bridges). record { interface = other.interface; bridges = b; script = m.script }) bridges_are
    ∙ ap (λ (s : Script). record { interface = other.interface; bridges = other.bridges; script = s }) script_is
  where
    one_script : m.interface ≡ other.interface → m.script ≡ other.script
    one_script same = one_value m.script other.script (sym p.script ∙ ap (λ (i : Interface). plain_script i racing text) same ∙ q.script)

pub one_machine : (racing : Bool) (store : Store) (paths : List (List ℕ)) (edl script : List ℕ) (m other : Machine)
    → Prepares racing store paths edl script (Ok m) → Prepares racing store paths edl script (Ok other) → m ≡ other
one_machine racing store paths edl script m other (machine g text _ root held is) (machine h other_text _ root' held' is') =
    let files : h ≡ g = one_value h g (sym root' ∙ root) in
    let texts : other_text ≡ text = one_content other_text text (sym held' ∙ held) in
    one_of_texts racing g text m other is (subst (λ (x : Gathered). IsMachineOf racing x text other) files (subst (λ (t : List ℕ). IsMachineOf racing h t other) texts is'))
