-- The host's calls come to slots by roles alone, where entries do.
use Rattle.std.proofs.Common.{ℕ, ◌+◌, ◌-◌, ◌^◌, ◌≡◌, ◌<◌, ◌≤◌, ◌&&◌, ◌==◌, nat_lt, IsTrue, Bool, true, false, if◌then◌else◌, List, [], ◌∷◌, length, replicate, zip, Option, Some, None, slice_get, refl, sym, ◌∙◌, subst, arith}
use Rattle.std.specs.Prelude.{fold}
use Rattle.std.specs.List.{AllByRecursion}
use Rattle.std.proofs.lemmas.List.{length-replicate}
use Rattle.std.proofs.lemmas.List.Elements.{recursion_from_All}
use Rattle.std.proofs.lemmas.Option.{slice_get_within}
use Rattle.sgx_base.specs.Bytes.{low_bytes, with_bytes_at}
use Rattle.edl_interface.specs.declared.Class.{Class}
use Rattle.edl_interface.specs.declared.Class.TheVariants.{Plain as by_value, UserCheck, Buffer, Text, Fixed, Foreign}
use Rattle.edl_interface.specs.declared.Function.{Function}
use Rattle.edl_interface.specs.declared.Param.{Param}
use Rattle.edl_interface.specs.Parameters.{is_text, field_size, has_frame, return_size}
use Rattle.edl_interface.specs.Runnable.{field_end, IsRunnableFunction}
use Rattle.word_port.specs.declared.Side.TheVariants.{Host}
use Rattle.word_port.specs.Interaction.{Interaction, ret, here, and_then, map_value}
use Rattle.word_port.specs.Accesses.{loads, stores}
use Rattle.enclave_memory.proofs.Layouts.{length-with}
use Rattle.ocall_frames.specs.Stack.{frame_below}
use Rattle.switchless.specs.Slots.{place_of_frame, offered_word, is_offered}
use Rattle.switchless.specs.Caller.{caller}
use Rattle.switchless_laws.specs.Moments.{IsSlotOf}
use Rattle.switchless_laws.proofs.Words.{offered_of}
use Rattle.call_script.specs.declared.CallArg.{CallArg}
use Rattle.call_script.specs.declared.CallArg.TheVariants.{At, Null, Number, Bytes}
use Rattle.call_script.specs.Words.{ecall_slots}
use Rattle.call_report.specs.declared.Way.{Way}
use Rattle.call_report.specs.declared.Way.TheVariants.{Ordinary, Fallback}
use Rattle.bridge_program.specs.Entry.{is_empty}
use Rattle.call_machine.specs.declared.Machine.{Machine}
use Rattle.call_machine.specs.Context.{Context}
use Rattle.call_machine.specs.Result.{Outcome, is_success}
use Rattle.call_machine.specs.Ecall.{Ecalls}
use Rattle.call_machine.specs.Calls.{field_bytes, with_field, with_lengths, call_frame, string_lengths, ecall_pool, unless_taken, entry, with_return, call_in_frame, call_where, call_to, host_call, raw_call, with_record}
use Rattle.run_laws.proofs.HostStack.{IsOnHost, frame_fits, with_frame}
use Rattle.pool_laws.specs.Machines.{FillsField, FillFields, IsBoundedMachine}
use Rattle.pool_laws.proofs.ByRoles.{ByRoles, roles_ret, roles_then, roles_map, roles_here, roles_record, roles_below, roles_caller}
use Rattle.pool_laws.proofs.Transfers.{AreFirst, fewer_first, stack_first, host_beside, loads_below, stores_below, lengths_below, low_length}

-- the frame of a call is as long as its function's structure
bytes_length : (handler : ℕ) (p : Param) (arg : CallArg) → FillsField p arg
    → length (field_bytes handler (field_size p.class) arg) ≡ field_size p.class
bytes_length handler p (At place) fill = low_length (field_size p.class) _
bytes_length handler p Null fill = low_length (field_size p.class) 0
bytes_length handler p (Number n) fill = low_length (field_size p.class) n
bytes_length handler p (Bytes bytes) fill = fill

text_field : (class : Class) → is_text class ≡ true → field_size class ≡ 8
text_field (by_value plain) e = cc
text_field UserCheck e = cc
text_field (Buffer way size count unit) e = cc
text_field (Text way unit) e = refl
text_field (Fixed way n unit) e = cc
text_field (Foreign way) e = cc

text_written : (size : ℕ) (p : Param) (filled : List ℕ) (n : ℕ) (b : Bool) → is_text p.class ≡ b → length filled ≡ size
    → p.offset + field_size p.class + (if b then 8 else 0) ≤ size
    → length (if b then with_bytes_at filled (p.offset + 8) (low_bytes 8 n) else filled) ≡ size
text_written size p filled n true is whole fits =
    let eight : length (low_bytes 8 n) ≡ 8 = low_length 8 n in
    let field : field_size p.class ≡ 8 = text_field p.class is in
    let end : p.offset + field_size p.class + 8 ≤ size = fits in
    length-with filled (p.offset + 8) (low_bytes 8 n) (omega (arith, eight, field, end, whole)) ∙ whole
text_written size p filled n false is whole fits = whole

field_written : (handler size : ℕ) (structure : List ℕ) (p : Param) (arg : CallArg) (n : ℕ) → length structure ≡ size
    → FillsField p arg → field_end true p ≤ size
    → length (with_field handler structure (p, arg, n)) ≡ size
field_written handler size structure p arg n whole fill fits =
    let bytes : List ℕ = field_bytes handler (field_size p.class) arg in
    let many : length bytes ≡ field_size p.class = bytes_length handler p arg fill in
    let end : p.offset + field_size p.class + (if is_text p.class then 8 else 0) ≤ size = fits in
    let filled : length (with_bytes_at structure p.offset bytes) ≡ size = length-with structure p.offset bytes
    (omega (arith, many, end, whole)) ∙ whole in
    text_written size p (with_bytes_at structure p.offset bytes) n (is_text p.class) refl filled fits

fields_written : (handler size : ℕ) (params : List Param) (args : List CallArg) (lengths structure : List ℕ)
    → length structure ≡ size → FillFields params args
    → AllByRecursion (λ p. field_end true p ≤ size) params → length
    (fold (with_field handler) structure (with_lengths (zip params args) lengths)) ≡ size
fields_written handler size [] args lengths structure whole fill fits = whole
fields_written handler size (p ∷ params) [] lengths structure whole fill fits = whole
fields_written handler size (p ∷ params) (arg ∷ args) [] structure whole fill fits = whole
fields_written handler size (p ∷ params) (arg ∷ args) (n ∷ lengths) structure whole fill fits =
    fields_written handler size params args lengths (with_field handler structure (p, arg, n))
    (field_written handler size structure p arg n whole fill.0 fits.0) fill.1 fits.1

frame_length : (f : Function) (handler : ℕ) (args : List CallArg) (lengths : List ℕ) → IsRunnableFunction true f
    → FillFields f.params args → length (call_frame f handler args lengths) ≡ f.frame_size
frame_length f handler args lengths runnable fill =
    fields_written handler f.frame_size f.params args lengths (replicate f.frame_size 0)
    (length-replicate f.frame_size 0) fill
    (recursion_from_All (λ (p : Param). field_end true p ≤ f.frame_size) f.params runnable.fields)

-- the word of a call counts as offered
place_small : (frame : ℕ) → frame ≤ 0x20000 → place_of_frame frame < 2 ^ 17
place_small frame le = by_null (frame == 0)
  where
    by_null : (b : Bool) → (if b then 0 else frame - 0x10000 + 1) < 2 ^ 17
    by_null true = omega arith
    by_null false = omega (arith, le)

pub word_offered : {F : Type 0} (functions : List F) (ordinal : ℕ) (f : F) (frame : ℕ) → length functions ≤ 65536
    → slice_get functions ordinal ≡ Some f → frame ≤ 0x20000 → IsTrue (is_offered (offered_word ordinal frame))
word_offered functions ordinal f frame few found le =
    let place : ordinal < length functions = slice_get_within functions ordinal f found in
    offered_of ordinal (place_of_frame frame) (omega (arith, place, few)) (place_small frame le)

both_true : (a b : Bool) → (a && b) ≡ true → a ≡ true
both_true true b e = refl
both_true false b e = cc

module _ (m : Machine) (fit : IsBoundedMachine m) (Among : ℕ → Type 0) (slot : ℕ) (ecalls : Ecalls) (room : ℕ)
    (runnable : (ordinal : ℕ) (f : Function) → slice_get m.interface.ecalls ordinal ≡ Some f
    → IsRunnableFunction true f)
    (entries : (cx : Context) (ordinal address : ℕ) (way : Way) → 16 ≤ length cx.stack + room
    → IsOnHost m.script.settings.host cx → ByRoles (ecall_slots m.script.settings) Among slot
    (ecalls cx ordinal address way)) where
  abbrev limit : ℕ
  limit = ecall_slots m.script.settings

  abbrev Visits : {A : Type 0} → Interaction A → Type 0
  Visits t = ByRoles limit Among slot t

  host_first : m.script.settings.host ≤ limit
  host_first = omega arith

  module _ (cx : Context) (deep : 16 ≤ length cx.stack + room)
      (among : is_empty cx.stack ≡ true → (i : ℕ) → IsSlotOf (ecall_pool m.script.settings) i → Among i) where
    after_role : (on : IsOnHost m.script.settings.host cx) (ordinal frame first : ℕ) (status : Option ℕ)
        → Visits (unless_taken ecalls cx ordinal frame first status)
    after_role on ordinal frame first None = entries cx ordinal frame Fallback deep on
    after_role on ordinal frame first (Some status) = roles_here limit Among slot _
        (λ last. roles_ret limit Among slot _)

    enters : (on : IsOnHost m.script.settings.host cx) (ordinal frame : ℕ) (f : Function)
        → slice_get m.interface.ecalls ordinal ≡ Some f → frame ≤ 0x20000 → Visits (entry m ecalls cx ordinal f frame)
    enters on ordinal frame f found le =
        roles_record limit Among slot _ (by_pool (is_empty cx.stack &&
        (f.switchless && nat_lt 0 m.script.settings.tworkers))
        (both_true (is_empty cx.stack) (f.switchless && nat_lt 0 m.script.settings.tworkers)))
      where
        by_pool : (b : Bool) → (b ≡ true → is_empty cx.stack ≡ true)
            → Visits (if b then here (λ first. and_then (caller (ecall_pool m.script.settings)
            (offered_word ordinal frame))
            (unless_taken ecalls cx ordinal frame first)) else ecalls cx ordinal frame Ordinary)
        by_pool false empty = entries cx ordinal frame Ordinary deep on
        by_pool true empty =
            roles_here limit Among slot _ (λ first.
            roles_then limit Among slot (caller (ecall_pool m.script.settings) (offered_word ordinal frame))
            (unless_taken ecalls cx ordinal frame first)
            (roles_caller limit Among slot (ecall_pool m.script.settings) (offered_word ordinal frame)
            (word_offered m.interface.ecalls ordinal f frame fit.ecalls found le) (among (empty refl)))
            (λ status. after_role on ordinal frame first status))

  module _ (cx : Context) (deep : 16 ≤ length cx.stack + room) (on : IsOnHost m.script.settings.host cx)
      (among : is_empty cx.stack ≡ true → (i : ℕ) → IsSlotOf (ecall_pool m.script.settings) i → Among i) where
    return_loaded : (f : Function) (frame : ℕ) (out : Outcome) → AreFirst limit frame (return_size f)
        → Visits (with_return f frame out)
    return_loaded f frame out first = by_status (is_success out.status)
      where
        by_status : (b : Bool) → Visits (if b then map_value (λ bytes. out.records)
            (loads Host frame (return_size f)) else ret out.records)
        by_status true = roles_map limit Among slot (λ bytes. out.records) (loads Host frame (return_size f))
            (roles_below limit Among slot (loads Host frame (return_size f))
            (loads_below Host host_beside limit frame (return_size f) first))
        by_status false = roles_ret limit Among slot out.records

    in_frame : (ordinal : ℕ) (f : Function) (bytes : List ℕ) (frame : ℕ)
        → slice_get m.interface.ecalls ordinal ≡ Some f → length bytes ≡ f.frame_size
        → frame_below cx.base cx.top f.frame_size ≡ Some frame
        → Visits (call_in_frame m ecalls cx ordinal f bytes frame)
    in_frame ordinal f bytes frame found whole fits =
        let place : (cx.base ≤ frame) × (frame + f.frame_size ≤ cx.top) =
        frame_fits cx.base cx.top f.frame_size frame fits in
        let first : AreFirst limit frame f.frame_size =
        stack_first m.script.settings.host limit cx.base cx.top frame f.frame_size host_first on.0
        place.0 place.1 on.1 in
        let end : frame + f.frame_size ≤ cx.top = place.1 in
        let top : cx.top ≤ 0x10000 + m.script.settings.host = on.1 in
        let small : m.script.settings.host ≤ 65536 = fit.host in
        roles_then limit Among slot (stores Host frame bytes)
        (λ stored. and_then (entry m ecalls (record cx { top = frame }) ordinal f frame) (with_return f frame))
        (roles_below limit Among slot (stores Host frame bytes)
        (stores_below Host host_beside limit frame bytes (subst (λ n. AreFirst limit frame n) (sym whole) first)))
        (λ stored.
        roles_then limit Among slot (entry m ecalls (record cx { top = frame }) ordinal f frame) (with_return f frame)
        (enters (record cx { top = frame }) deep among
        (with_frame m.script.settings.host cx f.frame_size frame on fits) ordinal frame f found
        (omega (arith, end, top, small)))
        (λ out. return_loaded f frame out (fewer_first limit frame f.frame_size (return_size f)
        (runnable ordinal f found).return_fits first)))

    where_it_fits : (ordinal : ℕ) (f : Function) (bytes : ℕ → List ℕ) → slice_get m.interface.ecalls ordinal ≡ Some f
        → ((frame : ℕ) → length (bytes frame) ≡ f.frame_size)
        → (o : Option ℕ) → frame_below cx.base cx.top f.frame_size ≡ o
        → Visits (call_where m ecalls cx ordinal f bytes o)
    where_it_fits ordinal f bytes found whole None e = roles_record limit Among slot _
        (roles_here limit Among slot _ (λ place. roles_ret limit Among slot _))
    where_it_fits ordinal f bytes found whole (Some frame) e = in_frame ordinal f (bytes frame) frame found
        (whole frame) e

    call_found : (handler ordinal : ℕ) (args : List CallArg) (o : Option Function)
        → slice_get m.interface.ecalls ordinal ≡ o
        → ((f : Function) → slice_get m.interface.ecalls ordinal ≡ Some f → FillFields f.params args)
        → Visits (call_to m ecalls cx handler ordinal args o)
    call_found handler ordinal args None e fill = roles_ret limit Among slot []
    call_found handler ordinal args (Some f) e fill = by_frame (has_frame f)
      where
        by_frame : (b : Bool) → Visits (if b then and_then (string_lengths m.script.settings.host handler
            (zip f.params args)) (λ lengths.
            call_where m ecalls cx ordinal f (λ frame. call_frame f handler args lengths)
            (frame_below cx.base cx.top f.frame_size)) else map_value (λ out. out.records)
            (entry m ecalls cx ordinal f 0))
        by_frame true =
            roles_then limit Among slot (string_lengths m.script.settings.host handler (zip f.params args)) (λ lengths.
            call_where m ecalls cx ordinal f (λ frame. call_frame f handler args lengths)
            (frame_below cx.base cx.top f.frame_size))
            (roles_below limit Among slot (string_lengths m.script.settings.host handler (zip f.params args))
            (lengths_below m.script.settings.host limit host_first handler (zip f.params args))) (λ lengths.
            where_it_fits ordinal f (λ frame. call_frame f handler args lengths) e
            (λ frame. frame_length f handler args lengths (runnable ordinal f e) (fill f e))
            (frame_below cx.base cx.top f.frame_size) refl)
        by_frame false = roles_map limit Among slot (λ out. out.records) (entry m ecalls cx ordinal f 0)
            (enters cx deep among on ordinal 0 f e (omega arith))

    -- a call by its ordinal
    pub calls_by_roles : (handler ordinal : ℕ) (args : List CallArg)
        → ((f : Function) → slice_get m.interface.ecalls ordinal ≡ Some f → FillFields f.params args)
        → ByRoles (ecall_slots m.script.settings) Among slot (host_call m ecalls cx handler ordinal args)
    calls_by_roles handler ordinal args fill = call_found handler ordinal args
        (slice_get m.interface.ecalls ordinal) refl fill

    -- a call at an address of the script's own
    pub raw_by_roles : (ordinal address : ℕ) → ByRoles (ecall_slots m.script.settings) Among slot
        (raw_call ecalls cx ordinal address)
    raw_by_roles ordinal address =
        roles_map limit Among slot (λ out. out.records) (with_record (ecalls cx ordinal address Ordinary))
        (roles_record limit Among slot (ecalls cx ordinal address Ordinary)
        (entries cx ordinal address Ordinary deep on))
