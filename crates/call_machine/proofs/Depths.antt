-- The measure of the engine's calls: the entries that the call stack still takes, and then the size of the acts.
use Rattle.std.proofs.Common.{ℕ, zero, suc, ◌≡◌, ◌+◌, ◌-◌, ◌*◌, ◌<◌, ◌≤◌, List, [], ◌∷◌, length, get_or, unwrap_or, slice_get, Option, Some, None, refl, ap, sym, ◌∙◌, subst, arith, mul-suc}
use Rattle.std.specs.Prelude.{max}
use Rattle.std.proofs.lemmas.Option.{get_or_from_slice_get, slice_get_within}
use denote.Param.Weighed.{most, at_most}
use Rattle.bridge_program.specs.Entry.{Entered}
use Rattle.call_script.specs.declared.HostAct.{HostAct, Repeat}
use Rattle.call_script.specs.declared.HostAct.TheViews.{sized-Repeat}
use Rattle.call_script.proofs.HostAct.TheLaws.{the_size}
use Rattle.call_machine.specs.declared.Machine.{Machine}
use Rattle.call_machine.specs.Served.{handler_acts}

-- the size of acts
abbrev pub size_of : List HostAct → ℕ
size_of acts = most the_size acts

-- the size of the largest acts of a handler
abbrev pub largest : Machine → ℕ
largest m = most size_of m.script.handlers

-- what one entry more outweighs
abbrev pub weight : Machine → ℕ
weight m = 3 * largest m + 12

-- with this call stack, and so much beside
abbrev pub depth : Machine → List Entered → ℕ → ℕ
depth m stack rest = weight m * (16 - length stack) + rest

flat : (m : ℕ) → max 0 (max m 0) ≡ m
flat m = omega arith

size_of_repeat : (times : ℕ) (acts : List HostAct) → the_size (Repeat times acts) ≡ size_of acts + 1
size_of_repeat times acts = sized-Repeat times acts ∙ ap (λ n. n + 1) (flat (size_of acts))

-- what is less beside is less
pub less : (m : Machine) (old now : List Entered) (t a b : ℕ) → depth m old b ≡ t → length now ≡ length old → a < b → depth m now a < t
less m old now t a b at same below =
    let here : weight m * (16 - length now) ≡ weight m * (16 - length old) = ap (λ n. weight m * (16 - n)) same in
    omega (arith, at, here, below)

-- an entry more is less, whatever is beside it up to its weight
pub deeper : (m : Machine) (old now : List Entered) (t a b : ℕ) → depth m old b ≡ t → length now ≡ suc (length old) → length old < 16 → a < weight m + b → depth m now a < t
deeper m old now t a b at more room below =
    let one : 16 - length old ≡ suc (16 - length now) = omega (arith, more, room) in
    let all : weight m * (16 - length old) ≡ weight m * suc (16 - length now) = ap (λ n. weight m * n) one in
    omega (arith, at, all, below, mul-suc (weight m) (16 - length now))

-- an act is smaller than the acts
pub act_smaller : (acts : List HostAct) (k : ℕ) (act : HostAct) → k < length acts → act ≡ get_or acts k act → the_size act ≤ size_of acts
act_smaller acts k act below act_is = subst (λ a. the_size a ≤ size_of acts) (sym act_is) (at_most the_size acts k act below)

-- the acts of a repeat are smaller than it
pub repeat_larger : (act : HostAct) (times : ℕ) (acts given : List HostAct) → act ≡ Repeat times acts → given ≡ acts → the_size act ≡ size_of given + 1
repeat_larger act times acts given act_is given_is = ap (λ a. the_size a) act_is ∙ size_of_repeat times acts ∙ ap (λ l. size_of l + 1) (sym given_is)

found_smaller : (handlers : List (List HostAct)) (ordinal : ℕ) (found : Option (List HostAct)) → slice_get handlers ordinal ≡ found → size_of (unwrap_or found []) ≤ most size_of handlers
found_smaller handlers ordinal None e = omega arith
found_smaller handlers ordinal (Some acts) e =
    let within : ordinal < length handlers = slice_get_within handlers ordinal acts e in
    let same : get_or handlers ordinal acts ≡ acts = get_or_from_slice_get handlers ordinal acts acts e in
    subst (λ l. size_of l ≤ most size_of handlers) same (at_most size_of handlers ordinal acts within)

-- no handler's acts are larger than the largest
pub handler_smaller : (m : Machine) (ordinal : ℕ) → size_of (handler_acts m ordinal) ≤ largest m
handler_smaller m ordinal = found_smaller m.script.handlers ordinal (slice_get m.script.handlers ordinal) refl
