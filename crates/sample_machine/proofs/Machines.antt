-- The texts of a sample give a machine.
use Rattle.std.proofs.Common.{ℕ, ◌≡◌, ◌≤◌, true, false, List, [], Result, Ok, Err, sym, ap, subst, ◌∙◌}
use Rattle.edl_grammar.specs.declared.Gathered.{Gathered}
use Rattle.edl_layout.specs.declared.ForeignTypes.{ForeignTypes}
use Rattle.edl_interface.specs.declared.Interface.{Interface}
use Rattle.edl_reader.specs.Accepted.{IsAccepted, IsRefused, no_layout, broken}
use Rattle.sgx_base.specs.declared.Fault.{Fault}
use Rattle.call_machine.specs.declared.Machine.{Machine}
use Rattle.call_engine.specs.declared.faults.PrepareFault.{PrepareFault}
use Rattle.call_engine.specs.Plain.{plain_script}
use Rattle.call_engine.specs.Prepared.{HasNoInterface, HasNoScript, in_types, in_script, Prepares, ungathered, no_script, without_interface, faulty, machine}
use Rattle.sample_script.specs.Sample.{sample}
use Rattle.sample_laws.specs.Sampled.{sample_interface}
use Rattle.sample_laws.proofs.Head.{sample_read}
use Rattle.sample_machine.specs.Texts.{edl_name, script_name, texts}
use Rattle.sample_machine.proofs.EdlText.{sample_gathered, gathers, accepts, no_types, layouts_fine}
use Rattle.sample_machine.proofs.Foreign.{no_foreign}

-- the interface is the one that the text has
interface_is : (foreign : ForeignTypes) (i : Interface) → IsAccepted sample_gathered foreign true i → i ≡ sample_interface
interface_is foreign i a = let e : Ok i ≡ Ok sample_interface = sym a.accepted ∙ accepts a.table in cc

not_refused : (f : Fault) → IsRefused sample_gathered no_types true f → ⊥
not_refused f (no_layout e h is) = layouts_fine e h
not_refused f (broken table laid h) = let e = sym (accepts table) ∙ h in absurd cc

has_interface : (n : ℕ) (f : Fault) → HasNoInterface sample_gathered (sample n) f → ⊥
has_interface n f h =
    let e : Ok h.foreign ≡ Ok no_types = sym h.declared ∙ no_foreign n in
    let same : h.foreign ≡ no_types = cc in
    not_refused f (subst (λ (t : ForeignTypes). IsRefused sample_gathered t true f) same h.refused)

has_script : (n line code : ℕ) → n ≤ 8000 → HasNoScript false sample_gathered (sample n) line code → ⊥
has_script n line code few (in_types h) = let e = sym (no_foreign n) ∙ h in absurd cc
has_script n line code few (in_script i is h) =
    let same : i ≡ sample_interface = interface_is is.foreign i is.accepted in
    let e = sym (sample_read n few) ∙ ap (λ (j : Interface). plain_script j false (sample n)) (sym same) ∙ h in absurd cc

abbrev IsGood : Result Machine PrepareFault → Type 0
IsGood (Ok m) = Unit {0}
IsGood (Err fault) = ⊥

good : (n : ℕ) (answer : Result Machine PrepareFault) → n ≤ 8000 → Prepares false (texts (sample n)) [] edl_name script_name answer → IsGood answer
good n answer few (ungathered e unread) = let c = sym (gathers (sample n)) ∙ unread.gathered in absurd cc
good n answer few (no_script g root none) = absurd cc
good n answer few (without_interface g text f root held h) =
    let e : Ok g ≡ Ok sample_gathered = sym root ∙ gathers (sample n) in
    let same : g ≡ sample_gathered = cc in
    let t : text ≡ sample n = cc in
    has_interface n f (subst (λ (s : List ℕ). HasNoInterface sample_gathered s f) t (subst (λ (k : Gathered). HasNoInterface k text f) same h))
good n answer few (faulty g text line code root held h) =
    let e : Ok g ≡ Ok sample_gathered = sym root ∙ gathers (sample n) in
    let same : g ≡ sample_gathered = cc in
    let t : text ≡ sample n = cc in
    has_script n line code few (subst (λ (s : List ℕ). HasNoScript false sample_gathered s line code) t (subst (λ (k : Gathered). HasNoScript false k text line code) same h))
good n answer few (machine g text m root held h) = tt

pub faultless : (n : ℕ) (fault : PrepareFault) → n ≤ 8000 → ¬ Prepares false (texts (sample n)) [] edl_name script_name (Err fault)
faultless n fault few h = good n (Err fault) few h
