-- Loads and stores in host memory are below the slots.
use Rattle.std.proofs.Common.{ℕ, zero, suc, ◌+◌, ◌-◌, ◌≡◌, ◌≢◌, ◌<◌, ◌≤◌, ◌&&◌, ◌==◌, not, Bool, true, false, if◌then◌else◌, List, [], ◌∷◌, length, refl, ap, arith}
use Rattle.sgx_base.specs.Bytes.{low_bytes}
use Rattle.sgx_base.specs.Ranges.{is_mapped}
use Rattle.sgx_base.specs.Texts.{is_zero_unit}
use Rattle.sgx_base.proofs.RangesAgree.{mapped_agrees}
use Rattle.edl_interface.specs.declared.Class.{Class}
use Rattle.edl_interface.specs.declared.Param.{Param}
use Rattle.edl_interface.specs.Parameters.{is_text, unit_of}
use Rattle.word_port.specs.declared.Side.{Side}
use Rattle.word_port.specs.declared.Side.TheVariants.{Host, Enclave, Racer, Pool as by_pool}
use Rattle.word_port.specs.Interaction.{ret, and_then, map_value, AllRequests}
use Rattle.word_port.specs.Accesses.{word_at, loads, stores}
use Rattle.word_port.proofs.RequestLaws.{all_and_then}
use Rattle.call_laws.specs.Within.{IsWordIn}
use Rattle.call_script.specs.declared.CallArg.{CallArg}
use Rattle.call_machine.specs.Calls.{string_loads, argument_address, string_length, string_lengths}
use Rattle.pool_laws.proofs.ByRoles.{IsBelow}

pub host_beside : Host ≢ by_pool
host_beside e = cc

pub enclave_beside : Enclave ≢ by_pool
enclave_beside e = cc

pub racer_beside : Racer ≢ by_pool
racer_beside e = cc

-- each word of the range is one of the first, so many
abbrev pub AreFirst : ℕ → ℕ → ℕ → Type 0
AreFirst limit address count = (index : ℕ) → IsWordIn address count index → index < limit

pub fewer_first : (limit address count less : ℕ) → less ≤ count → AreFirst limit address count
    → AreFirst limit address less
fewer_first limit address count less le first index (x, inside, e) =
    let high : x < address + less = inside.1 in
    first index (x, (inside.0, omega (arith, high, le)), e)

next_first : (limit address count : ℕ) → AreFirst limit address (suc count) → AreFirst limit (address + 1) count
next_first limit address count first index (x, inside, e) =
    let low : address + 1 ≤ x = inside.0 in
    let high : x < (address + 1) + count = inside.1 in
    first index (x, (omega (arith, low), omega (arith, high)), e)

head_first : (limit address count : ℕ) → AreFirst limit address (suc count) → word_at address < limit
head_first limit address count first = first (word_at address) (address, (omega arith, omega arith), refl)

-- a range of host memory
pub mapped_first : (host limit address count : ℕ) → host ≤ limit → is_mapped host address count ≡ true
    → AreFirst limit address count
mapped_first host limit address count le mapped index (x, inside, e) =
    let at : (0x10000 ≤ x) × (x < 0x10000 + host) = (mapped_agrees host address count).0 mapped x inside in
    let low : 0x10000 ≤ x = at.0 in
    let high : x < 0x10000 + host = at.1 in
    let same : index ≡ x - 0x10000 = e in
    omega (arith, low, high, same, le)

-- a range on the host stack
pub stack_first : (host limit base top address count : ℕ) → host ≤ limit → 0x10000 ≤ base → base ≤ address
    → address + count ≤ top → top ≤ 0x10000 + host → AreFirst limit address count
stack_first host limit base top address count le from low end upto index (x, inside, e) =
    let begin : address ≤ x = inside.0 in
    let high : x < address + count = inside.1 in
    let same : index ≡ x - 0x10000 = e in
    omega (arith, le, from, low, end, upto, begin, high, same)

pub loads_below : (side : Side) → side ≢ by_pool → (limit address count : ℕ) → AreFirst limit address count
    → AllRequests (IsBelow limit) (loads side address count)
loads_below side beside limit address zero first = tt
loads_below side beside limit address (suc count) first = (
  (beside, head_first limit address count first),
  λ b. all_and_then (IsBelow limit) (loads side (address + 1) count) (λ bytes. ret (b ∷ bytes))
      (loads_below side beside limit (address + 1) count (next_first limit address count first)) (λ bytes. tt),
)

pub stores_below : (side : Side) → side ≢ by_pool → (limit address : ℕ) (bytes : List ℕ)
    → AreFirst limit address (length bytes) → AllRequests (IsBelow limit) (stores side address bytes)
stores_below side beside limit address [] first = tt
stores_below side beside limit address (b ∷ bytes) first = (
  (beside, head_first limit address (length bytes) first),
  λ old. stores_below side beside limit (address + 1) bytes
      (next_first limit address (length bytes) first),
)

pub low_length : (size n : ℕ) → length (low_bytes size n) ≡ size
low_length zero n = refl
low_length (suc size) n = ap (λ k. suc k) (low_length size _)

-- the loads of strings
module _ (host limit : ℕ) (le : host ≤ limit) where
  string_below : (units unit address : ℕ) → AllRequests (IsBelow limit) (string_loads units host unit address)
  string_below zero unit address = tt
  string_below (suc units) unit address = by_mapped (string_below units unit (address + unit))
      (is_mapped host address unit) refl
    where
      by_mapped : AllRequests (IsBelow limit) (string_loads units host unit (address + unit)) → (b : Bool)
          → is_mapped host address unit ≡ b
          → AllRequests (IsBelow limit) (if b then and_then (loads Host address unit)
          (λ bytes. if is_zero_unit bytes then ret unit else map_value (λ n. n + unit)
          (string_loads units host unit (address + unit))) else ret unit)
      by_mapped more false is = tt
      by_mapped more true is =
          all_and_then (IsBelow limit) (loads Host address unit)
          (λ bytes. if is_zero_unit bytes then ret unit else map_value (λ n. n + unit)
          (string_loads units host unit (address + unit)))
          (loads_below Host host_beside limit address unit (mapped_first host limit address unit le is)) (λ bytes.
          elim (is_zero_unit bytes) as (λ b. AllRequests (IsBelow limit)
          (if b then ret unit else map_value (λ n. n + unit) (string_loads units host unit (address + unit)))) [
            | true ↦ tt
            | false ↦ all_and_then (IsBelow limit) (string_loads units host unit (address + unit))
                (λ n. ret (n + unit)) more (λ n. tt)
          ])

  length_below : (frame : ℕ) (class : Class) (arg : CallArg) → AllRequests (IsBelow limit)
      (string_length host frame class arg)
  length_below frame class arg =
      elim (is_text class && not (argument_address frame arg == 0)) as
      (λ b. AllRequests (IsBelow limit) (if b then string_loads host host (unit_of class)
      (argument_address frame arg) else ret 0)) [
        | true ↦ string_below host (unit_of class) (argument_address frame arg)
        | false ↦ tt
      ]

  pub lengths_below : (frame : ℕ) (args : List (Param × CallArg))
      → AllRequests (IsBelow limit) (string_lengths host frame args)
  lengths_below frame [] = tt
  lengths_below frame ((p, arg) ∷ rest) =
      all_and_then (IsBelow limit) (string_length host frame p.class arg)
      (λ n. map_value (λ lengths. n ∷ lengths) (string_lengths host frame rest)) (length_below frame p.class arg)
      (λ n.
      all_and_then (IsBelow limit) (string_lengths host frame rest) (λ lengths. ret (n ∷ lengths))
      (lengths_below frame rest) (λ lengths. tt))
