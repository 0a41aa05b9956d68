-- A caller's role and the loads of strings touch no host byte for the enclave.
use Rattle.std.proofs.Common.{ℕ, zero, suc, ◌+◌, ◌≡◌, ◌==◌, ◌&&◌, not, Bool, true, false, if◌then◌else◌, List, [], ◌∷◌, Option, Some, None}
use Rattle.sgx_base.specs.Ranges.{is_mapped}
use Rattle.sgx_base.specs.Texts.{is_zero_unit}
use Rattle.edl_interface.specs.declared.Class.{Class}
use Rattle.edl_interface.specs.declared.Param.{Param}
use Rattle.edl_interface.specs.Parameters.{is_text, unit_of}
use Rattle.word_port.specs.declared.Side.TheVariants.{Enclave, Host, Pool}
use Rattle.word_port.specs.Interaction.{Interaction, ret, and_then, map_value, AllRequests}
use Rattle.word_port.specs.Accesses.{loads}
use Rattle.word_port.proofs.RequestLaws.{all_and_then}
use Rattle.switchless.specs.declared.Pool.{Pool as Slots}
use Rattle.switchless.specs.Caller.{offer, look, withdraw, collect, looks, waiting_looks, collected_status, unless_withdrawn, after_looks, after_offer, caller_within, caller, more_than_any}
use Rattle.call_script.specs.declared.CallArg.{CallArg}
use Rattle.call_machine.specs.Calls.{string_loads, argument_address, string_length, string_lengths}
use Rattle.run_laws.proofs.Protects.{IsElsewhere}
use Rattle.run_laws.proofs.ActLaws.{host_loads}

pub host_other : ¬ (Host ≡ Enclave)
host_other e = cc

pool_other : ¬ (Pool ≡ Enclave)
pool_other e = cc

offers : (slot count word : ℕ) → AllRequests IsElsewhere (offer slot count word)
unfolding offer
offers slot zero word = tt
offers slot (suc count) word = (record { not_enclave = pool_other }, λ found. elim (found == 0) as (λ b. AllRequests IsElsewhere (if b then ret (Some slot) else offer (slot + 1) count word)) [ true ↦ tt | false ↦ offers (slot + 1) count word ])

looking : (slot : ℕ) → AllRequests IsElsewhere (look slot)
unfolding look
looking slot = (record { not_enclave = pool_other }, λ n. tt)

withdraws : (slot word : ℕ) → AllRequests IsElsewhere (withdraw slot word)
unfolding withdraw
withdraws slot word = (record { not_enclave = pool_other }, λ n. tt)

collects : (slot : ℕ) → AllRequests IsElsewhere (collected_status slot)
unfolding collect
collects slot = (record { not_enclave = pool_other }, λ n. tt)

all_looks : (slot count : ℕ) → AllRequests IsElsewhere (looks slot count)
unfolding looks
all_looks slot zero = tt
all_looks slot (suc count) =
    all_and_then IsElsewhere (look slot) (λ done. if done then ret true else looks slot count) (looking slot)
    (λ done. elim done as (λ b. AllRequests IsElsewhere (if b then ret true else looks slot count)) [ true ↦ tt | false ↦ all_looks slot count ])

waits : (slot count : ℕ) → AllRequests IsElsewhere (waiting_looks slot count)
unfolding waiting_looks
waits slot zero = tt
waits slot (suc count) =
    all_and_then IsElsewhere (look slot) (λ done. if done then ret tt else waiting_looks slot count) (looking slot)
    (λ done. elim done as (λ b. AllRequests IsElsewhere (if b then ret tt else waiting_looks slot count)) [ true ↦ tt | false ↦ waits slot count ])

withdrawn : (most slot : ℕ) (won : Bool) → AllRequests IsElsewhere (unless_withdrawn most slot won)
withdrawn most slot true = tt
withdrawn most slot false = all_and_then IsElsewhere (waiting_looks slot most) (λ done. collected_status slot) (waits slot most) (λ done. collects slot)

looked : (most slot word : ℕ) (done : Bool) → AllRequests IsElsewhere (after_looks most slot word done)
looked most slot word true = collects slot
looked most slot word false = all_and_then IsElsewhere (withdraw slot word) (unless_withdrawn most slot) (withdraws slot word) (withdrawn most slot)

offered : (most : ℕ) (pool : Slots) (word : ℕ) (slot : Option ℕ) → AllRequests IsElsewhere (after_offer most pool word slot)
offered most pool word None = tt
offered most pool word (Some slot) = all_and_then IsElsewhere (looks slot pool.retries) (after_looks most slot word) (all_looks slot pool.retries) (looked most slot word)

within : (most : ℕ) (pool : Slots) (word : ℕ) → AllRequests IsElsewhere (caller_within most pool word)
unfolding caller_within
within most pool word = all_and_then IsElsewhere (offer pool.from pool.slots word) (after_offer most pool word) (offers pool.from pool.slots word) (offered most pool word)

-- a caller's role
pub caller_elsewhere : (pool : Slots) (word : ℕ) → AllRequests IsElsewhere (caller pool word)
caller_elsewhere pool word = within more_than_any pool word

string_elsewhere : (units host unit address : ℕ) → AllRequests IsElsewhere (string_loads units host unit address)
string_elsewhere zero host unit address = tt
string_elsewhere (suc units) host unit address =
    let next : List ℕ → Interaction ℕ = λ bytes. if is_zero_unit bytes then ret unit else map_value (λ n. n + unit) (string_loads units host unit (address + unit)) in
    elim (is_mapped host address unit) as (λ b. AllRequests IsElsewhere (if b then and_then (loads Host address unit) next else ret unit)) [
      | true ↦ all_and_then IsElsewhere (loads Host address unit) next (host_loads Host host_other address unit) (λ bytes.
          elim (is_zero_unit bytes) as (λ b. AllRequests IsElsewhere (if b then ret unit else map_value (λ n. n + unit) (string_loads units host unit (address + unit)))) [
            | true ↦ tt
            | false ↦ all_and_then IsElsewhere (string_loads units host unit (address + unit)) (λ n. ret (n + unit)) (string_elsewhere units host unit (address + unit)) (λ n. tt)
          ])
      | false ↦ tt
    ]

length_elsewhere : (host frame : ℕ) (class : Class) (arg : CallArg) → AllRequests IsElsewhere (string_length host frame class arg)
length_elsewhere host frame class arg =
    elim (is_text class && not (argument_address frame arg == 0)) as (λ b. AllRequests IsElsewhere (if b then string_loads host host (unit_of class) (argument_address frame arg) else ret 0)) [
      | true ↦ string_elsewhere host host (unit_of class) (argument_address frame arg)
      | false ↦ tt
    ]

-- the lengths of the arguments of a call
pub lengths_elsewhere : (host frame : ℕ) (args : List (Param × CallArg)) → AllRequests IsElsewhere (string_lengths host frame args)
lengths_elsewhere host frame [] = tt
lengths_elsewhere host frame ((p, arg) ∷ rest) =
    all_and_then IsElsewhere (string_length host frame p.class arg) (λ n. map_value (λ lengths. n ∷ lengths) (string_lengths host frame rest)) (length_elsewhere host frame p.class arg) (λ n.
    all_and_then IsElsewhere (string_lengths host frame rest) (λ lengths. ret (n ∷ lengths)) (lengths_elsewhere host frame rest) (λ lengths. tt))
