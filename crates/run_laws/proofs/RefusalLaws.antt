-- No refusal has the status SUCCESS.
use Rattle.std.proofs.Common.{ℕ, ◌≡◌, ◌≢◌, ◌⊎◌, inl, inr, Bool, true, false, not, if◌then◌else◌, List, [], ◌∷◌, Option, Some, Ok, Err, ap, subst, arith}
use Rattle.sgx_base.specs.Rows.{Row, first_row}
use Rattle.sgx_base.specs.Texts.{terminated_text, has_early_end}
use Rattle.sgx_base.specs.declared.Status.{Status}
use Rattle.sgx_base.specs.declared.TheConstants.Status.{SUCCESS, UNEXPECTED, INVALID_PARAMETER, INVALID_FUNCTION, ECALL_NOT_ALLOWED, STACK_OVERRUN, OUT_OF_MEMORY}
use Rattle.edl_interface.specs.declared.Function.{Function}
use Rattle.edl_interface.specs.declared.Param.{Param}
use Rattle.edl_interface.specs.Lengths.{length_in}
use Rattle.word_port.specs.Events.{Event}
use Rattle.bridge_program.specs.Entry.{entry_rows}
use Rattle.call_copy.specs.declared.Shape.{Shape}
use Rattle.call_copy.specs.Copies.{block_rows}
use Rattle.call_machine.specs.declared.Machine.{Machine}
use Rattle.call_machine.specs.Context.{Context}
use Rattle.call_machine.specs.Refusal.{frame_rows, field_rows}
use Rattle.call_machine.specs.Ecall.{shape_of}
use Rattle.call_laws.specs.Refusing.{IsRefusedParam, IsRefusedLoaded, IsRefusedAfterFrame, IsRefusedFunction, IsRefusedRun}

-- each row has another status
abbrev AreOther : List Row → Type 0
AreOther [] = Unit {0}
AreOther (r ∷ rows) = (r.status ≢ SUCCESS) × AreOther rows

chosen : (b : Bool) (first : Status) (rest : Option Status) (status : Status) → first ≢ SUCCESS → (rest ≡ Some status → status ≢ SUCCESS) → (if b then Some first else rest) ≡ Some status → status ≢ SUCCESS
chosen true first rest status p q e = let same : first ≡ status = cc in subst (λ s. s ≢ SUCCESS) same p
chosen false first rest status p q e = q e

row_other : (rows : List Row) → AreOther rows → (status : Status) → first_row rows ≡ Some status → status ≢ SUCCESS
row_other [] p status e = cc
row_other (r ∷ rows) p status e = chosen r.holds r.status (first_row rows) status p.0 (row_other rows p.1 status) e

unexpected : UNEXPECTED ≢ SUCCESS
unexpected e = let n : 1 ≡ 0 = ap (λ s. s.0) e in omega (arith, n)

parameter : INVALID_PARAMETER ≢ SUCCESS
parameter e = let n : 2 ≡ 0 = ap (λ s. s.0) e in omega (arith, n)

memory : OUT_OF_MEMORY ≢ SUCCESS
memory e = let n : 3 ≡ 0 = ap (λ s. s.0) e in omega (arith, n)

number_of : (s : Status) → ¬ (s.0 ≡ 0) → s ≢ SUCCESS
number_of s h e = h (ap (λ t. t.0) e)

function : INVALID_FUNCTION ≢ SUCCESS
function = number_of INVALID_FUNCTION (λ e. omega (arith, e))

allowed : ECALL_NOT_ALLOWED ≢ SUCCESS
allowed = number_of ECALL_NOT_ALLOWED (λ e. omega (arith, e))

overrun : STACK_OVERRUN ≢ SUCCESS
overrun = number_of STACK_OVERRUN (λ e. omega (arith, e))

checked : (text early : Bool) (unit : ℕ) (bytes : List ℕ) (status : Status)
    → (if not text then Ok bytes else (if early then Err UNEXPECTED else Ok (terminated_text unit bytes))) ≡ Err status → status ≢ SUCCESS
checked false early unit bytes status e = cc
checked true true unit bytes status e = let same : UNEXPECTED ≡ status = cc in subst (λ s. s ≢ SUCCESS) same unexpected
checked true false unit bytes status e = cc

param_other : (f : Function) (frame : List ℕ) (room : ℕ) (p : Param) (events : List Event) (status : Status) → IsRefusedParam f frame room p events status → status ≢ SUCCESS
param_other f frame room p events status (inl h) = row_other (block_rows (shape_of p.class) (length_in f frame p) room) (parameter, (memory, tt)) status h.0
param_other f frame room p events status (inr h) =
    let shape : Shape = shape_of p.class in
    checked shape.text (has_early_end shape.unit (terminated_text shape.unit h.bytes)) shape.unit h.bytes status h.refused

loaded_other : (host : ℕ) (f : Function) (frame : List ℕ) (room : ℕ) (events : List Event) (status : Status) → IsRefusedLoaded host f frame room events status → status ≢ SUCCESS
loaded_other host f frame room events status (inl h) = row_other (field_rows host f frame) (parameter, (parameter, tt)) status h.0
loaded_other host f frame room events status (inr h) = param_other f frame _ h.1.next h.1.ending status h.1.refused

function_other : (m : Machine) (cx : Context) (ordinal address : ℕ) (events : List Event) (status : Status) → IsRefusedFunction m cx ordinal address events status → status ≢ SUCCESS
function_other m cx ordinal address events status h = by_frame h.refused
  where
    by_frame : ((first_row (frame_rows m.script.settings.host h.function address) ≡ Some status) × (events ≡ [])) ⊎ IsRefusedAfterFrame m cx address h.function events status → status ≢ SUCCESS
    by_frame (inl e) = row_other (frame_rows m.script.settings.host h.function address) (parameter, (parameter, tt)) status e.0
    by_frame (inr g) = loaded_other m.script.settings.host h.function g.frame cx.room g.copying status g.refused

-- the status of a refused entry
pub refusal_other : (m : Machine) (cx : Context) (ordinal address : ℕ) (events : List Event) (status : Status) → IsRefusedRun m cx ordinal address events status → status ≢ SUCCESS
refusal_other m cx ordinal address events status (inl h) = row_other (entry_rows m.interface cx.stack ordinal) (function, (allowed, (allowed, (overrun, tt)))) status h.0
refusal_other m cx ordinal address events status (inr h) = function_other m cx ordinal address events status h
