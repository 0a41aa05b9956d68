-- A refused entry has made loads by the enclave alone, whatever OCALLs do.
use Rattle.std.proofs.Common.{ℕ, zero, suc, ◌+◌, ◌≡◌, ◌==◌, true, false, if◌then◌else◌, List, [], ◌∷◌, replicate, map, All, Option, Some, None, Result, Ok, Err, slice_get, refl, sym, subst}
use Rattle.std.proofs.lemmas.List.Elements.{All-nil, All-cons}
use Rattle.sgx_base.specs.Passing.{is_inward}
use Rattle.sgx_base.specs.Rows.{first_row, unless_refused}
use Rattle.sgx_base.specs.declared.Status.{Status}
use Rattle.sgx_base.specs.declared.TheConstants.Status.{INVALID_FUNCTION}
use Rattle.edl_interface.specs.declared.Function.{Function}
use Rattle.edl_interface.specs.declared.Param.{Param}
use Rattle.edl_interface.specs.Parameters.{marshalled, address_in}
use Rattle.edl_interface.specs.Lengths.{length_in, copied_length}
use Rattle.word_port.specs.declared.Step.{Step}
use Rattle.word_port.specs.declared.Side.TheVariants.{Enclave}
use Rattle.word_port.specs.declared.Kind.TheVariants.{Load}
use Rattle.word_port.specs.Requests.{Request}
use Rattle.word_port.specs.Events.{Event, made, ticked, placed, steps_of}
use Rattle.word_port.specs.Interaction.{Interaction, ret, ask, here, tick, and_then, IsAfter, AllRequests}
use Rattle.word_port.specs.Accesses.{loads}
use Rattle.word_port.specs.Port.{PortState}
use Rattle.word_port.specs.Runs.{Makes}
use Rattle.word_port.proofs.Laws.{steps_of-made}
use Rattle.word_port.proofs.RequestLaws.{AllSteps, all_and_then}
use Rattle.call_copy.specs.declared.Shape.{Shape}
use Rattle.call_copy.specs.Copies.{block_rows, first_bytes, checked_bytes, copy_unless, copy_in}
use Rattle.call_machine.specs.declared.Machine.{Machine}
use Rattle.call_machine.specs.Context.{Context, context_in_ecall}
use Rattle.call_machine.specs.Refusal.{frame_rows, field_rows}
use Rattle.bridge_program.specs.Entry.{entry_rows}
use Rattle.call_machine.specs.Result.{and_then_ok, go_on_if_ok}
use Rattle.call_machine.specs.Thread.{no_ocalls}
use Rattle.call_machine.specs.Ecall.{Copies, with_first, Ocalls, Answered, Finished, copies_in, shape_of, interpret, body_of, put_answer, body_and_answer, loaded_entry, admitted_entry, entry_at, entered}
use Rattle.call_machine.specs.Entry.{IsEnclaveLoad, OnlyLoads, some_copy, copy_of}
use Rattle.call_machine.proofs.Results.{AllResults, results_after, result_of_run}
use Rattle.call_machine.proofs.CopyResults.{room_after, copies_after, copies_in-cons}

-- a load by the enclave
pub record IsLoadRequest (q : Request) : Type 0 where
  pub side : q.side ≡ Enclave
  pub kind : q.kind ≡ Load

-- each run that ends in a refusal has made such loads alone
abbrev pub RefusedLoads : {B : Type 0} → Interaction (Result B Status) → Type 0
RefusedLoads t = (events : List Event) (status : Status) → IsAfter t events (ret (Err status)) → AllSteps IsLoadRequest (steps_of events)

-- loads, and what follows
pub loads_before : {A B : Type 0} (t : Interaction A) (f : A → Interaction (Result B Status))
    → AllRequests IsLoadRequest t → ((x : A) → RefusedLoads (f x)) → RefusedLoads (and_then t f)
loads_before (ret x) f p q events status h = q x events status h
loads_before (ask r next) f p q [] status h = tt
loads_before (ask r next) f p q (made s ∷ es) status h = (subst (λ (v : Step). IsLoadRequest (record { side = v.side; kind = v.kind; index = v.index; first = v.first; second = v.second })) (sym h.0) p.0, loads_before (next s.answer) f (p.1 s.answer) q es status h.1)
loads_before (ask r next) f p q (ticked k ∷ es) status h = absurd h
loads_before (ask r next) f p q (placed n ∷ es) status h = absurd h
loads_before (here next) f p q [] status h = tt
loads_before (here next) f p q (made s ∷ es) status h = absurd h
loads_before (here next) f p q (ticked k ∷ es) status h = absurd h
loads_before (here next) f p q (placed n ∷ es) status h = loads_before (next n) f (p n) q es status h
loads_before (tick k next) f p q [] status h = tt
loads_before (tick k next) f p q (made s ∷ es) status h = absurd h
loads_before (tick k next) f p q (ticked j ∷ es) status h = loads_before next f p q es status h.1
loads_before (tick k next) f p q (placed n ∷ es) status h = absurd h

-- a behaviour that has ended makes no step
ended_loads : {B : Type 0} (r : Result B Status) → RefusedLoads (ret r)
ended_loads r [] status h = tt
ended_loads r (e ∷ es) status h = absurd h

-- what follows where there is no refusal
go_on_loads : {A B : Type 0} (f : A → Interaction (Result B Status)) (r : Result A Status) → ((x : A) → RefusedLoads (f x)) → RefusedLoads (go_on_if_ok f r)
go_on_loads f (Ok x) q = q x
go_on_loads f (Err status) q = ended_loads (Err status)

-- what is never refused
abbrev IsAnswer : {B : Type 0} → Result B Status → Type 0
IsAnswer (Ok x) = Unit {0}
IsAnswer (Err status) = ⊥

never_refused : {B : Type 0} (t : Interaction (Result B Status)) → AllResults IsAnswer t → RefusedLoads t
never_refused t p events status h = absurd (result_of_run IsAnswer t events (Err status) p h)

loads_load : (at n : ℕ) → AllRequests IsLoadRequest (loads Enclave at n)
loads_load at zero = tt
loads_load at (suc n) = (record { side = refl; kind = refl }, λ b. all_and_then IsLoadRequest (loads Enclave (at + 1) n) (λ bytes. ret (b ∷ bytes)) (loads_load (at + 1) n) (λ bytes. tt))

first_loads : (shape : Shape) (at n : ℕ) → AllRequests IsLoadRequest (first_bytes shape at n)
first_loads shape at n =
    elim (is_inward shape.way) as (λ b. AllRequests IsLoadRequest (if b then loads Enclave at n else ret (replicate n 0))) [ true ↦ loads_load at n | false ↦ tt ]

unless_loads : (row : Option Status) (shape : Shape) (at n : ℕ) → AllRequests IsLoadRequest (copy_unless row shape at n)
unless_loads (Some status) shape at n = tt
unless_loads None shape at n = all_and_then IsLoadRequest (first_bytes shape at n) (λ bytes. ret (checked_bytes shape bytes)) (first_loads shape at n) (λ bytes. tt)

copy_loads : (shape : Shape) (at n room : ℕ) → AllRequests IsLoadRequest (copy_in shape at n room)
unfolding copy_in
copy_loads shape at n room = unless_loads (first_row (block_rows shape n room)) shape at n

one_loads : (f : Function) (frame : List ℕ) (room : ℕ) (p : Param) → AllRequests IsLoadRequest (copy_of f frame room p)
one_loads f frame room p =
    let some : Interaction (Result (List ℕ) Status) = copy_in (shape_of p.class) (address_in frame p) (length_in f frame p) room in
    elim (copied_length f frame p == 0) as (λ b. AllRequests IsLoadRequest (if b then ret (Ok None) else and_then some (λ x. ret (some_copy x)))) [
      | true ↦ tt
      | false ↦ all_and_then IsLoadRequest some (λ x. ret (some_copy x)) (copy_loads (shape_of p.class) (address_in frame p) (length_in f frame p) room) (λ x. tt)
    ]

then_copies : (f : Function) (frame : List ℕ) (room : ℕ) (rest : List Param) (copied : Result (Option (List ℕ)) Status)
    → ((left : ℕ) → AllRequests IsLoadRequest (copies_in f frame left rest)) → AllRequests IsLoadRequest (go_on_if_ok (copies_after f frame room rest) copied)
then_copies f frame room rest (Err status) others = tt
then_copies f frame room rest (Ok block) others = all_and_then IsLoadRequest (copies_in f frame (room_after room block) rest) (λ copied. ret (with_first block copied)) (others (room_after room block)) (λ copied. tt)

-- every request of the copies in is a load by the enclave
pub copies_load : (f : Function) (frame : List ℕ) (room : ℕ) (params : List Param) → AllRequests IsLoadRequest (copies_in f frame room params)
copies_load f frame room [] = tt
copies_load f frame room (p ∷ rest) =
    subst (λ t. AllRequests IsLoadRequest t) (sym (copies_in-cons f frame room p rest))
    (all_and_then IsLoadRequest (copy_of f frame room p) (go_on_if_ok (copies_after f frame room rest)) (one_loads f frame room p)
    (λ copied. then_copies f frame room rest copied (λ left. copies_load f frame left rest)))

module _ (m : Machine) (ocalls : Ocalls) (cx : Context) (ordinal address : ℕ) where
  -- what follows the body
  abbrev answer_after : Function → List ℕ → Finished → Interaction (Result Answered Status)
  answer_after f frame done = here (λ turn. and_then (put_answer f address frame done) (λ stored. ret (Ok (record { turn = turn; records = done.records }))))

  answered_loads : (f : Function) (frame : List ℕ) (copies : Copies) → RefusedLoads (body_and_answer m ocalls cx ordinal f address frame copies)
  answered_loads f frame copies =
      never_refused (body_and_answer m ocalls cx ordinal f address frame copies)
      (results_after IsAnswer (interpret m ocalls (context_in_ecall cx ordinal copies.room) (body_of m ordinal f frame copies)) (answer_after f frame)
      (λ done turn. results_after {B = Result Answered Status} IsAnswer (put_answer f address frame done) (λ stored. ret (Ok (record { turn = turn; records = done.records }))) (λ stored. tt)))

  -- what follows the copies
  abbrev body_after : Function → List ℕ → Copies → Interaction (Result Answered Status)
  body_after f frame copies = body_and_answer m ocalls cx ordinal f address frame copies

  abbrev copies_and_body : Function → List ℕ → Unit {0} → Interaction (Result Answered Status)
  copies_and_body f frame allowed = and_then_ok (copies_in f frame cx.room (marshalled f)) (body_after f frame)

  loaded_loads : (f : Function) (frame : List ℕ) → RefusedLoads (loaded_entry m ocalls cx ordinal address f frame)
  loaded_loads f frame =
      go_on_loads (copies_and_body f frame) (unless_refused (first_row (field_rows m.script.settings.host f frame))) (λ allowed.
      loads_before (copies_in f frame cx.room (marshalled f)) (go_on_if_ok (body_after f frame))
      (copies_load f frame cx.room (marshalled f)) (λ copied. go_on_loads (body_after f frame) copied (answered_loads f frame)))

  entry_loads : (found : Option Function) → RefusedLoads (entry_at m ocalls cx ordinal address found)
  entry_loads None = ended_loads (Err INVALID_FUNCTION)
  entry_loads (Some f) =
      go_on_loads (λ allowed. admitted_entry m ocalls cx ordinal address f) (unless_refused (first_row (frame_rows m.script.settings.host f address))) (λ allowed.
      loads_before (loads Enclave address f.frame_size) (loaded_entry m ocalls cx ordinal address f) (loads_load address f.frame_size) (loaded_loads f))

  -- a refused entry has loaded its frame and parameters, or some of them, and no more
  pub refused_loads : RefusedLoads (entered m ocalls cx ordinal address)
  refused_loads =
      go_on_loads (λ allowed. entry_at m ocalls cx ordinal address (slice_get m.interface.ecalls ordinal))
      (unless_refused (first_row (entry_rows m.interface cx.stack ordinal))) (λ allowed. entry_loads (slice_get m.interface.ecalls ordinal))

all_loads : (steps : List Step) → AllSteps IsLoadRequest steps → All IsEnclaveLoad steps
all_loads [] p = All-nil IsEnclaveLoad
all_loads (s ∷ steps) p = All-cons IsEnclaveLoad s steps (p.0.side, p.0.kind) (all_loads steps p.1)

-- the steps of a refused entry
pub refused_only : (m : Machine) (cx : Context) (ordinal address : ℕ) (old new : PortState) (status : Status)
    → ((ocalls : Ocalls) → Makes (entered m ocalls cx ordinal address) old new (Err status)) → OnlyLoads old new
refused_only m cx ordinal address old new status runs =
    let r : Makes (entered m no_ocalls cx ordinal address) old new (Err status) = runs no_ocalls in
    let same : steps_of (map made r.steps) ≡ r.steps = steps_of-made r.steps in
    record {
      steps = r.steps;
      grown = r.grown;
      loads = subst (λ steps. All IsEnclaveLoad steps) same (all_loads (steps_of (map made r.steps)) (refused_loads m no_ocalls cx ordinal address (map made r.steps) status r.after));
    }
