-- The behaviours of a machine's participants come to slots by roles alone.
use Rattle.std.proofs.Common.{ℕ, zero, suc, ◌+◌, ◌≡◌, ◌<◌, ◌≤◌, ◌&&◌, ◌==◌, not, nat_le, Bool, true, false, if◌then◌else◌, List, [], ◌∷◌, length, Option, Some, None, slice_get, refl, subst, arith}
use Rattle.std.specs.List.{AllByRecursion}
use Rattle.std.proofs.lemmas.Bool.{leb-false, ne_eqb}
use Rattle.std.proofs.lemmas.List.Elements.{recursion_from_All}
use Rattle.sgx_base.specs.Ranges.{is_mapped}
use Rattle.sgx_base.specs.Rows.{first_row}
use Rattle.sgx_base.specs.declared.TheConstants.Status.{UNEXPECTED}
use Rattle.edl_interface.specs.declared.Function.{Function}
use Rattle.edl_interface.specs.declared.Interface.{Interface}
use Rattle.edl_interface.specs.Parameters.{has_frame, return_size}
use Rattle.edl_interface.specs.Runnable.{IsRunnableFunction}
use Rattle.word_port.specs.Interaction.{ret, here}
use Rattle.switchless_laws.specs.Moments.{IsSlotOf}
use Rattle.call_script.specs.declared.HostAct.{HostAct, Call, Raw, Poke, Peek, Return, Reply, Repeat', Row_of-HostAct, end_of-HostAct, more_of-HostAct}
use Rattle.call_script.specs.Words.{ecall_slots}
use Rattle.call_report.specs.declared.Way.{Way}
use Rattle.bridge_program.specs.Entry.{entry_rows, is_empty}
use Rattle.call_machine.specs.declared.Machine.{Machine}
use Rattle.call_machine.specs.Context.{Context, context_in_ecall, first_context}
use Rattle.call_machine.specs.Acts.{acts_of, racer_actor}
use Rattle.call_machine.specs.Calls.{ecall_pool}
use Rattle.call_machine.specs.Ocall.{Handlers, ocall_pool, handler_context, ocall_by}
use Rattle.call_machine.specs.Served.{handler_acts, serving_actor, handler_run, served_record, served_ocall}
use Rattle.call_machine.specs.Thread.{host_actor, handlers_by, no_ocalls, ecalls_to, ecall, thread, racer_acts}
use Rattle.call_laws.proofs.OcallLaws.{ocalls_keep}
use Rattle.run_laws.proofs.HostStack.{IsOnHost}
use Rattle.run_laws.proofs.InHost.{rows_fail}
use Rattle.pool_laws.specs.Machines.{IsFittingAct, AreFittingRow, AreFitting, IsBoundedMachine, HasStackFor}
use Rattle.pool_laws.proofs.ByRoles.{ByRoles, roles_ret, roles_then, roles_here, roles_record}
use Rattle.pool_laws.proofs.Transfers.{AreFirst, fewer_first, mapped_first, host_beside, racer_beside}
use Rattle.pool_laws.proofs.Acts.{acts_by_roles}
use Rattle.pool_laws.proofs.HostCalls.{calls_by_roles, raw_by_roles}
use Rattle.pool_laws.proofs.Ecalls.{ecall_by_roles}
use Rattle.pool_laws.proofs.Ocalls.{ocall_by_roles}

-- an entry that the rows allow finds room on the call stack
has_place : (m : Machine) (cx : Context) (ordinal : ℕ) → first_row (entry_rows m.interface cx.stack ordinal) ≡ None
    → length cx.stack < 16
has_place m cx ordinal e =
    let last : nat_le 16 (length cx.stack) ≡ false = (rows_fail (entry_rows m.interface cx.stack ordinal) e).1.1.1.0 in
    leb-false 16 (length cx.stack) last

function_at : (P : Function → Type 0) (fs : List Function) → AllByRecursion P fs → (k : ℕ) (f : Function)
    → slice_get fs k ≡ Some f → P f
function_at P [] h k f e = cc
function_at P (g ∷ fs) h zero f e = let same : g ≡ f = cc in subst P same h.0
function_at P (g ∷ fs) h (suc k) f e = function_at P fs h.1 k f e

-- the handler's stack has the entry that made the OCALL
handler_depth : (b : Bool) (cx : Context) (frame : ℕ) → length
    (if b then record cx { top = frame } else cx).stack ≡ length cx.stack
handler_depth true cx frame = refl
handler_depth false cx frame = refl

nothing_first : (limit address : ℕ) → AreFirst limit address 0
nothing_first limit address index (x, inside, e) =
    let low : address ≤ x = inside.0 in
    let high : x < address + 0 = inside.1 in
    absurd (omega (arith, low, high))

module _ (m : Machine) (fit : IsBoundedMachine m) where
  runnable_ecall : (ordinal : ℕ) (f : Function) → slice_get m.interface.ecalls ordinal ≡ Some f
      → IsRunnableFunction true f
  runnable_ecall ordinal f found = function_at (IsRunnableFunction true) m.interface.ecalls
      (recursion_from_All (IsRunnableFunction true) m.interface.ecalls fit.sound.runnable.ecalls) ordinal f found

  runnable_ocall : (ordinal : ℕ) (f : Function) → slice_get m.interface.ocalls ordinal ≡ Some f
      → IsRunnableFunction false f
  runnable_ocall ordinal f found = function_at (IsRunnableFunction false) m.interface.ocalls
      (recursion_from_All (IsRunnableFunction false) m.interface.ocalls fit.sound.runnable.ocalls) ordinal f found

module _ (m : Machine) (fit : IsBoundedMachine m) (Among : ℕ → Type 0) (slot : ℕ)
    (among : (i : ℕ) → IsSlotOf (ocall_pool m.script.settings) i → Among i) where
  abbrev limit : ℕ
  limit = ecall_slots m.script.settings

  abbrev EntriesVisit : ℕ → Type 0
  EntriesVisit depth = (cx : Context) (ordinal address : ℕ) (way : Way) → 16 ≤ length cx.stack + depth
      → IsOnHost m.script.settings.host cx → ByRoles limit Among slot (ecalls_to m depth cx ordinal address way)

  -- the host's acts, where entries come to slots by roles alone
  host_acts : (depth : ℕ) → EntriesVisit depth → (cx : Context) → 16 ≤ length cx.stack + depth
      → IsOnHost m.script.settings.host cx
      → (is_empty cx.stack ≡ true → (i : ℕ) → IsSlotOf (ecall_pool m.script.settings) i → Among i) → (frame size : ℕ)
      → AreFirst limit frame size
      → (acts : List HostAct) → AreFitting m.interface acts → ByRoles limit Among slot
      (acts_of (host_actor m (ecalls_to m depth) cx frame size) acts)
  host_acts depth entries cx deep on ecalls_among frame size first acts fits =
      acts_by_roles limit Among slot m.interface (host_actor m (ecalls_to m depth) cx frame size) host_beside
      (omega arith) first
      (calls_by_roles m fit Among slot (ecalls_to m depth) depth
      (runnable_ecall m fit) entries cx deep on ecalls_among frame)
      (raw_by_roles m fit Among slot (ecalls_to m depth) depth
      (runnable_ecall m fit) entries cx deep on ecalls_among) acts fits

  -- entries, by how many more fit
  entries_visits : (depth : ℕ) → EntriesVisit depth
  entries_visits zero cx ordinal address way deep on =
      let full : first_row (entry_rows m.interface cx.stack ordinal) ≡ None
      → ⊥ = λ may. let place : length cx.stack < 16 = has_place m cx ordinal may in omega (arith, place, deep) in
      ecall_by_roles m fit Among slot no_ocalls cx ordinal address way (runnable_ecall m fit ordinal)
      (λ may. absurd (full may)) (λ may. absurd (full may))
  entries_visits (suc depth) cx ordinal address way deep on =
      let handlers : Handlers = handlers_by m (ecalls_to m depth) in
      ecall_by_roles m fit Among slot (ocall_by m handlers) cx ordinal address way (runnable_ecall m fit ordinal)
      (λ may room o arguments blocks.
      let inside : Context = context_in_ecall cx ordinal room in
      ocall_by_roles m fit Among slot among handlers inside o arguments on (runnable_ocall m fit o) blocks
      (λ f found frame handler_on first.
      let stack : length (handler_context inside o f frame).stack ≡ suc (length cx.stack) = handler_depth
      (has_frame f) _ frame in
      host_acts depth (entries_visits depth) (handler_context inside o f frame) (omega (arith, stack, deep)) handler_on
      (λ empty. absurd (not_empty (length (handler_context inside o f frame).stack)
      (length cx.stack) stack empty)) frame (return_size f) first (handler_acts m o) (fit.handlers o f found)))
      (λ may. ocalls_keep m handlers)
    where
      not_empty : (n k : ℕ) → n ≡ suc k → (n == 0) ≡ true → ⊥
      not_empty n k e empty = let no : (n == 0) ≡ false = ne_eqb n 0 (λ z. omega (arith, z, e)) in cc

  first_on : (participant : ℕ) → HasStackFor m.script.settings participant
      → IsOnHost m.script.settings.host (first_context m.script.settings participant)
  first_on participant room = (omega (arith, room), omega (arith, room))

  -- an ECALL with no call in progress
  pub served_by_roles : (participant ordinal address : ℕ) (way : Way) → HasStackFor m.script.settings participant
      → ByRoles (ecall_slots m.script.settings) Among slot (ecall m
      (first_context m.script.settings participant) ordinal address way)
  unfolding ecall
  served_by_roles participant ordinal address way room =
      roles_record limit Among slot _
      (entries_visits 16 (first_context m.script.settings participant) ordinal address way (omega arith)
      (first_on participant room))

  -- a host thread
  pub thread_by_roles : ((i : ℕ) → IsSlotOf (ecall_pool m.script.settings) i → Among i)
      → (participant : ℕ) (acts : List HostAct) → HasStackFor m.script.settings participant
      → AreFitting m.interface acts
      → ByRoles (ecall_slots m.script.settings) Among slot (thread m (first_context m.script.settings participant) acts)
  unfolding thread
  thread_by_roles ecalls_among participant acts room fits =
      host_acts 16 (entries_visits 16) (first_context m.script.settings participant) (omega arith)
      (first_on participant room) (λ empty. ecalls_among) 0 0 (nothing_first limit 0) acts fits

-- where no function can be called, each act is fitting
mutual
  act_fitting : (i : Interface) (act : HostAct) → IsFittingAct (record i { ecalls = [] }) act
  act_fitting i (Call ordinal args) = λ f found. cc
  act_fitting i (Raw ordinal address) = tt
  act_fitting i (Poke place bytes) = tt
  act_fitting i (Peek place count) = tt
  act_fitting i (Return n) = tt
  act_fitting i (Reply n) = tt
  act_fitting i (Repeat' times shape acts) = row_fitting i acts

  row_fitting : {n : _} (i : Interface) (row : Row_of-HostAct n) → AreFittingRow (record i { ecalls = [] }) row
  row_fitting i end_of-HostAct = tt
  row_fitting i (more_of-HostAct act rest) = (act_fitting i act, row_fitting i rest)

all_fitting : (i : Interface) (acts : List HostAct) → AreFitting (record i { ecalls = [] }) acts
all_fitting i [] = tt
all_fitting i (act ∷ acts) = (act_fitting i act, all_fitting i acts)

-- what makes no call
module _ (m : Machine) (fit : IsBoundedMachine m) (Among : ℕ → Type 0) (slot : ℕ) where
  abbrev bound : ℕ
  bound = ecall_slots m.script.settings

  -- the handler of an OCALL that a worker serves
  handler_visits : (ordinal frame : ℕ) (o : Option Function) → slice_get m.interface.ocalls ordinal ≡ o
      → ByRoles bound Among slot (handler_run m ordinal frame o)
  handler_visits ordinal frame None e = roles_ret bound Among slot _
  handler_visits ordinal frame (Some f) e = by_rows (f.switchless && not
      (has_frame f && not (is_mapped m.script.settings.host frame f.frame_size))) refl
    where
      plain : IsRunnableFunction false f
      plain = runnable_ocall m fit ordinal f e

      in_frame : (has mapped marked : Bool) → has_frame f ≡ has
          → is_mapped m.script.settings.host frame f.frame_size ≡ mapped → (marked && not (has && not mapped)) ≡ true
          → AreFirst bound frame (return_size f)
      in_frame true true marked is_has is_in h = fewer_first bound frame f.frame_size (return_size f) plain.return_fits
          (mapped_first m.script.settings.host bound frame f.frame_size (omega arith) is_in)
      in_frame true false true is_has is_in h = cc
      in_frame true false false is_has is_in h = cc
      in_frame false mapped marked is_has is_in h =
          let none : f.frame_size ≡ 0 = plain.no_frame is_has in
          let field : return_size f ≤ f.frame_size = plain.return_fits in
          fewer_first bound frame 0 (return_size f) (omega (arith, none, field)) (nothing_first bound frame)

      by_rows : (b : Bool) → (f.switchless && not (has_frame f && not
          (is_mapped m.script.settings.host frame f.frame_size))) ≡ b
          → ByRoles bound Among slot (if b then acts_of (serving_actor m f frame) (handler_acts m ordinal) else ret
          (record { status = UNEXPECTED; records = [] }))
      by_rows true is =
          acts_by_roles bound Among slot m.interface (serving_actor m f frame) host_beside (omega arith)
          (in_frame (has_frame f) (is_mapped m.script.settings.host frame f.frame_size) f.switchless refl refl is)
          (λ ordinal args fits. roles_ret bound Among slot []) (λ ordinal address. roles_ret bound Among slot [])
          (handler_acts m ordinal) (fit.handlers ordinal f e)
      by_rows false is = roles_ret bound Among slot _

  pub handler_by_roles : (ordinal frame : ℕ) → ByRoles (ecall_slots m.script.settings) Among slot
      (served_ocall m ordinal frame)
  unfolding served_ocall
  handler_by_roles ordinal frame =
      roles_record bound Among slot _ (roles_here bound Among slot _ (λ first.
      roles_then bound Among slot (handler_run m ordinal frame (slice_get m.interface.ocalls ordinal))
      (λ out. here (λ last. ret (record {
        status = out.status;
        records =
            served_record ordinal frame out.status first last ∷ out.records;
      })))
      (handler_visits ordinal frame (slice_get m.interface.ocalls ordinal) refl)
      (λ out. roles_here bound Among slot _ (λ last. roles_ret bound Among slot _))))

  -- a racer
  pub racer_by_roles : (acts : List HostAct) → ByRoles (ecall_slots m.script.settings) Among slot
      (racer_acts m.script.settings.host acts)
  unfolding racer_acts
  racer_by_roles acts =
      acts_by_roles bound Among slot (record m.interface { ecalls = [] })
      (racer_actor _ m.script.settings.host) racer_beside (omega arith) (nothing_first bound 0)
      (λ ordinal args fits. roles_ret bound Among slot []) (λ ordinal address. roles_ret bound Among slot []) acts
      (all_fitting m.interface acts)
