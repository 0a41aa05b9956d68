-- A body that is carried out, and the OCALLs that it asks for.
use Rattle.std.proofs.Common.{ℕ, zero, ◌+◌, ◌≡◌, ◌≤◌, inl, List, [], ◌∷◌, ◌++◌, length, map, Option, refl, ap, sym, ◌∙◌, subst, arith, append-nil, append_assoc, length-append}
use Rattle.std.specs.List.{Contains}
use Rattle.std.proofs.lemmas.List.{map-append}
use Rattle.word_port.specs.declared.Step.{Step}
use Rattle.word_port.specs.Requests.{Request, step_of}
use Rattle.word_port.specs.Events.{made, ticked, placed, steps_of}
use Rattle.word_port.specs.Interaction.{Interaction, ask, map_value}
use Rattle.word_port.proofs.OneRun.{not_ended}
use Rattle.enclave_memory.specs.Arguments.{Argument, argument_of}
use Rattle.body_vm.specs.Execution.{Execution, returned, on_cell, on_ocall, CellRequest, OcallRequest, OcallAnswer}
use Rattle.call_report.specs.declared.CallKind.TheVariants.{Ocall}
use Rattle.call_machine.specs.declared.Machine.{Machine}
use Rattle.call_machine.specs.Context.{Context}
use Rattle.call_machine.specs.Ecall.{Ocalls, OcallOutcome, Finished, answer_of, after_records, interpret}
use Rattle.run_laws.specs.Calls.{Call}
use Rattle.run_laws.specs.Ocalls.{IsOcall}
use Rattle.run_laws.specs.Bodies.{cell_step, IsAnsweredRequest, IsCarriedOut}
use Rattle.run_laws.proofs.Triples.{Ensures, ensures_ret, ensures_then, ensures_map}
use Rattle.run_laws.proofs.FitLaws.{FitOcall, AsksFitting}
use Rattle.run_laws.proofs.Growth.{IsGrown, carried_grown, ocall_grown}
use Rattle.run_laws.proofs.Protects.{NoStep, AreProtected, among_left, among_right, among_tail, protected_both, protected_then, none_protected}

-- what an OCALL in a context did, with its record and those of the calls in it
pub record OcallRan (m : Machine) (cx : Context) (ordinal : ℕ) (arguments : List Argument) (before steps : List Step) (out : OcallOutcome) : Type 0 where
  pub call : Call
  pub inner : List Call
  pub records_are : out.records ≡ map (λ c. c.made) (call ∷ inner)
  pub is_ocall : call.made.kind ≡ Ocall
  pub ordinal_is : call.made.ordinal ≡ ordinal
  pub context_is : call.context ≡ cx
  pub begins : call.made.first ≡ length before
  pub did : IsOcall m (before ++ steps) call arguments steps out
  pub are : AreProtected m (λ c. c ≡ call) NoStep before steps (call ∷ inner)

-- no step on a byte of host memory
abbrev pub IsOffHost : Machine → Step → Type 0
IsOffHost m s = m.script.settings.host ≤ s.index

-- what a body did, with the records of its OCALLs and of the calls in them
pub record BodyRan (m : Machine) (cx : Context) (before steps : List Step) (body : Execution) (done : Finished) : Type 0 where
  pub calls : List Call
  pub records_are : done.records ≡ map (λ c. c.made) calls
  pub asked : List Call
  pub carried : IsCarriedOut m calls (before ++ steps) cx (length before) body asked steps done.value done.blocks
  pub are : AreProtected m (Contains asked) (IsOffHost m) before steps calls

-- a step is asked for
pub ensures_ask : {A : Type 0} (before : List Step) (Q : List Step → A → Type 0) (q : Request) (next : ℕ → Interaction A)
    → ((n : ℕ) → Ensures (before ++ step_of q n ∷ []) (λ more y. Q (step_of q n ∷ more) y) (next n)) → Ensures before Q (ask q next)
ensures_ask before Q q next p [] y h places = absurd (not_ended (ask q next) y h)
ensures_ask before Q q next p (made s ∷ es) y h places =
    let grown : length before + 1 ≡ length (before ++ step_of q s.answer ∷ []) = sym (length-append before (step_of q s.answer ∷ [])) in
    subst (λ v. Q (v ∷ steps_of es) y) (sym h.0) (p s.answer es y h.1 (rw grown at places))
ensures_ask before Q q next p (ticked k ∷ es) y h places = absurd h
ensures_ask before Q q next p (placed n ∷ es) y h places = absurd h

pub at_head : (c : Call) (calls : List Call) → Contains (c ∷ calls) c
at_head c calls = (zero, omega arith, refl)

module _ (m : Machine) (ocalls : Ocalls) (cx : Context)
    (answers : (before : List Step) (room ordinal : ℕ) (arguments : List Argument) → FitOcall m.interface ordinal arguments → Ensures before (λ steps out. OcallRan m (record cx { room = room }) ordinal arguments before steps out) (ocalls (record cx { room = room }) ordinal arguments)) where
  -- a body that has ended
  ended : (value : ℕ) (blocks : List (Option (List ℕ))) (before : List Step) → BodyRan m cx before [] (returned value blocks) (record { value = value; blocks = blocks; records = [] })
  ended value blocks before = record { calls = []; records_are = refl; asked = []; carried = (refl, refl, refl, refl); are = none_protected m (Contains []) (IsOffHost m) before [] tt }

  -- a step on a cell, and what follows
  after_cell : (q : CellRequest) (next : ℕ → Execution) (old : ℕ) (before more : List Step) (done : Finished)
      → BodyRan m cx (before ++ cell_step m q old ∷ []) more (next old) done → BodyRan m cx before (cell_step m q old ∷ more) (on_cell q next) done
  after_cell q next old before more done h =
      let s : Step = cell_step m q old in
      let joined : (before ++ s ∷ []) ++ more ≡ before ++ s ∷ more = append_assoc before (s ∷ []) more in
      let first : AreProtected m (Contains h.asked) (IsOffHost m) before (s ∷ []) [] = none_protected m (Contains h.asked) (IsOffHost m) before (s ∷ []) (λ w. inl (omega arith), tt) in
      let carried : IsCarriedOut m h.calls (before ++ s ∷ more) cx (length (before ++ s ∷ [])) (next old) h.asked more done.value done.blocks =
      subst (λ log. IsCarriedOut m h.calls log cx (length (before ++ s ∷ [])) (next old) h.asked more done.value done.blocks) joined h.carried in
      record {
        calls = h.calls;
        records_are = h.records_are;
        asked = h.asked;
        carried = (old, more, refl, subst (λ n. IsCarriedOut m h.calls (before ++ s ∷ more) cx n (next old) h.asked more done.value done.blocks) (length-append before (s ∷ [])) carried);
        are = protected_then m (Contains h.asked) (IsOffHost m) before (s ∷ []) more [] h.calls first h.are;
      }

  -- an OCALL, and what follows
  after_ocall : (q : OcallRequest) (next : OcallAnswer → Execution) (before first more : List Step) (out : OcallOutcome) (done : Finished)
      → OcallRan m (record cx { room = q.room }) q.ordinal (map (argument_of q.blocks) q.arguments) before first out → BodyRan m cx (before ++ first) more (next (answer_of m.interface q out)) done
      → BodyRan m cx before (first ++ more) (on_ocall q next) (after_records out.records done)
  after_ocall q next before first more out done p r =
      let these : List Call = p.call ∷ p.inner in
      let calls : List Call = these ++ r.calls in
      let body : Execution = next (answer_of m.interface q out) in
      let whole : List Step = before ++ (first ++ more) in
      let joined : (before ++ first) ++ more ≡ whole = append_assoc before first more in
      let grown : IsGrown (before ++ first) whole = record { more = more; new_is = sym joined } in
      let same : IsGrown ((before ++ first) ++ more) whole = record { more = []; new_is = sym joined ∙ sym (append-nil ((before ++ first) ++ more)) } in
      let carried : IsCarriedOut m calls whole cx (length (before ++ first)) body r.asked more done.value done.blocks =
      carried_grown m ((before ++ first) ++ more) whole same r.calls calls (among_right these r.calls) cx (length (before ++ first)) body r.asked more done.value done.blocks r.carried in
      let answered : IsAnsweredRequest m calls whole cx (length before) q p.call first out = record {
        is_call = among_left these r.calls p.call (at_head p.call p.inner);
        is_ocall = p.is_ocall;
        ordinal_is = p.ordinal_is;
        context_is = p.context_is;
        begins = p.begins;
        did = ocall_grown m (before ++ first) whole grown p.call (map (argument_of q.blocks) q.arguments) first out p.did;
      } in
      let here_carried : IsCarriedOut m calls whole cx (length before + length first) body r.asked more done.value done.blocks =
      subst (λ n. IsCarriedOut m calls whole cx n body r.asked more done.value done.blocks) (length-append before first) carried in
      record {
        calls = calls;
        records_are = ap (λ l. l ++ done.records) p.records_are ∙ ap (λ l. map (λ c. c.made) these ++ l) r.records_are ∙ sym (map-append (λ (c : Call). c.made) these r.calls);
        asked = p.call ∷ r.asked;
        carried = (p.call, r.asked, first, more, out, refl, refl, answered, here_carried);
        are = protected_both m (λ c. c ≡ p.call) (Contains r.asked) (Contains (p.call ∷ r.asked)) NoStep (IsOffHost m) (IsOffHost m)
            (λ c e. subst (λ d. Contains (p.call ∷ r.asked) d) (sym e) (at_head p.call r.asked)) (λ c k. among_tail p.call r.asked c k) (λ s t. absurd t) (λ s t. t)
            before first more these r.calls p.are r.are;
      }

  -- a body that is carried out
  pub body_ran : (body : Execution) → AsksFitting m.interface body → (before : List Step) → Ensures before (λ steps done. BodyRan m cx before steps body done) (interpret m ocalls cx body)
  body_ran (returned value blocks) fit before = ensures_ret before (λ steps done. BodyRan m cx before steps (returned value blocks) done) (record { value = value; blocks = blocks; records = [] }) (ended value blocks before)
  body_ran (on_cell q next) fit before =
      ensures_ask before (λ steps done. BodyRan m cx before steps (on_cell q next) done) _ (λ old. interpret m ocalls cx (next old)) (λ old events done h places.
      after_cell q next old before (steps_of events) done (body_ran (next old) (fit old) (before ++ cell_step m q old ∷ []) events done h places))
  body_ran (on_ocall q next) fit before =
      let goes_on : OcallOutcome → Interaction Finished = λ out. map_value (after_records out.records) (interpret m ocalls cx (next (answer_of m.interface q out))) in
      ensures_then before (λ steps out. OcallRan m (record cx { room = q.room }) q.ordinal (map (argument_of q.blocks) q.arguments) before steps out)
      (λ steps done. BodyRan m cx before steps (on_ocall q next) done) (ocalls (record cx { room = q.room }) q.ordinal (map (argument_of q.blocks) q.arguments)) goes_on
      (answers before q.room q.ordinal (map (argument_of q.blocks) q.arguments) fit.0) (λ first out p.
      ensures_map (before ++ first) (λ more done. BodyRan m cx (before ++ first) more (next (answer_of m.interface q out)) done) (λ more done. BodyRan m cx before (first ++ more) (on_ocall q next) done)
      (after_records out.records) (interpret m ocalls cx (next (answer_of m.interface q out))) (body_ran (next (answer_of m.interface q out)) (fit.1 (answer_of m.interface q out)) (before ++ first))
      (λ more done r. after_ocall q next before first more out done p r))
