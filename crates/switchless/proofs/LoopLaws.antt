-- Offers in one slot after another, and looks one after another.
use Rattle.std.proofs.Common.{ℕ, zero, suc, ◌+◌, ◌-◌, ◌<◌, ◌≡◌, ◌==◌, Bool, true, false, if◌then◌else◌, Some, None, refl, sym, subst, arith}
use Rattle.word_port.specs.declared.Side.TheVariants.{Pool}
use Rattle.word_port.specs.Port.{PortState}
use Rattle.word_port.specs.Interaction.{Interaction, ret}
use Rattle.word_port.specs.Accesses.{cas}
use Rattle.word_port.specs.Runs.{Leads, Makes, StopsFull}
use Rattle.word_port.proofs.Laws.{leads_nothing, leads_on, leads_then, full_on, full_first}
use Rattle.switchless.specs.declared.Pool.{Pool as Slots}
use Rattle.switchless.specs.Tasks.{HasSlots}
use Rattle.switchless.specs.Caller.{offer, look, looks}

pub offer_begin : (slot count word : ℕ) (now : PortState) → Leads (offer slot count word) now now (offer (slot + 0) (count - 0) word)
offer_begin slot count word now =
    let a : slot ≡ slot + 0 = omega arith in let b : count ≡ count - 0 = omega arith in
    subst (λ n. Leads (offer slot count word) now now (offer n (count - 0) word)) a
    (subst (λ n. Leads (offer slot count word) now now (offer slot n word)) b (leads_nothing (offer slot count word) now))

-- the offer in one slot, where so many are to come
offer_one : (slot count word found : ℕ) (mid new : PortState) → 0 < count → Makes (cas Pool slot 0 word) mid new found
    → Leads (offer slot count word) mid new (if found == 0 then ret (Some slot) else offer (slot + 1) (count - 1) word)
unfolding offer
offer_one slot zero word found mid new h m = absurd (omega (arith, h))
offer_one slot (suc count) word found mid new h m =
    let e : count ≡ suc count - 1 = omega arith in
    subst (λ n. Leads (offer slot (suc count) word) mid new (if found == 0 then ret (Some slot) else offer (slot + 1) n word)) e
    (leads_then (cas Pool slot 0 word) (λ n. if n == 0 then ret (Some slot) else offer (slot + 1) count word)
    (if found == 0 then ret (Some slot) else offer (slot + 1) count word) mid new new found m
    (leads_nothing (if found == 0 then ret (Some slot) else offer (slot + 1) count word) new))

offer_full_one : (slot count word : ℕ) (mid new : PortState) → 0 < count → StopsFull (cas Pool slot 0 word) mid new → StopsFull (offer slot count word) mid new
unfolding offer
offer_full_one slot zero word mid new h m = absurd (omega (arith, h))
offer_full_one slot (suc count) word mid new h m = full_first (cas Pool slot 0 word) (λ n. if n == 0 then ret (Some slot) else offer (slot + 1) count word) mid new m

pub offer_more : (slot count word i found : ℕ) (old mid new : PortState) → Leads (offer slot count word) old mid (offer (slot + i) (count - i) word) → i < count
    → Makes (cas Pool (slot + i) 0 word) mid new found → (found == 0) ≡ false → Leads (offer slot count word) old new (offer (slot + (i + 1)) (count - (i + 1)) word)
offer_more slot count word i found old mid new p h m e =
    let a : (slot + i) + 1 ≡ slot + (i + 1) = omega arith in
    let b : (count - i) - 1 ≡ count - (i + 1) = omega arith in
    let some : 0 < count - i = omega (arith, h) in
    subst (λ n. Leads (offer slot count word) old new (offer n (count - (i + 1)) word)) a
    (subst (λ n. Leads (offer slot count word) old new (offer ((slot + i) + 1) n word)) b
    (leads_on (offer slot count word) (offer (slot + i) (count - i) word) (offer ((slot + i) + 1) ((count - i) - 1) word) old mid new p
    (subst (λ b. Leads (offer (slot + i) (count - i) word) mid new (if b then ret (Some (slot + i)) else offer ((slot + i) + 1) ((count - i) - 1) word)) e
    (offer_one (slot + i) (count - i) word found mid new some m))))

pub offer_won : (slot count word i found : ℕ) (old mid new : PortState) → Leads (offer slot count word) old mid (offer (slot + i) (count - i) word) → i < count
    → Makes (cas Pool (slot + i) 0 word) mid new found → (found == 0) ≡ true → Makes (offer slot count word) old new (Some (slot + i))
offer_won slot count word i found old mid new p h m e =
    let some : 0 < count - i = omega (arith, h) in
    leads_on (offer slot count word) (offer (slot + i) (count - i) word) (ret (Some (slot + i))) old mid new p
    (subst (λ b. Leads (offer (slot + i) (count - i) word) mid new (if b then ret (Some (slot + i)) else offer ((slot + i) + 1) ((count - i) - 1) word)) e
    (offer_one (slot + i) (count - i) word found mid new some m))

offer_nothing : (slot count word : ℕ) → count ≡ 0 → offer slot count word ≡ ret None
unfolding offer
offer_nothing slot zero word e = refl
offer_nothing slot (suc count) word e = absurd (omega (arith, e))

pub offer_none : (slot count word i : ℕ) (old new : PortState) → Leads (offer slot count word) old new (offer (slot + i) (count - i) word) → i ≡ count → Makes (offer slot count word) old new None
offer_none slot count word i old new p e =
    let none : count - i ≡ 0 = omega (arith, e) in
    subst (λ t. Leads (offer slot count word) old new t) (offer_nothing (slot + i) (count - i) word none) p

pub offer_full : (slot count word i : ℕ) (old mid new : PortState) → Leads (offer slot count word) old mid (offer (slot + i) (count - i) word) → i < count
    → StopsFull (cas Pool (slot + i) 0 word) mid new → StopsFull (offer slot count word) old new
offer_full slot count word i old mid new p h m =
    let some : 0 < count - i = omega (arith, h) in
    full_on (offer slot count word) (offer (slot + i) (count - i) word) old mid new p (offer_full_one (slot + i) (count - i) word mid new some m)

pub looks_begin : (slot count : ℕ) (now : PortState) → Leads (looks slot count) now now (looks slot (count - 0))
looks_begin slot count now = let b : count ≡ count - 0 = omega arith in subst (λ n. Leads (looks slot count) now now (looks slot n)) b (leads_nothing (looks slot count) now)

looks_one : (slot count : ℕ) (done : Bool) (mid new : PortState) → 0 < count → Makes (look slot) mid new done → Leads (looks slot count) mid new (if done then ret true else looks slot (count - 1))
unfolding looks
looks_one slot zero done mid new h m = absurd (omega (arith, h))
looks_one slot (suc count) done mid new h m =
    let e : count ≡ suc count - 1 = omega arith in
    subst (λ n. Leads (looks slot (suc count)) mid new (if done then ret true else looks slot n)) e
    (leads_then (look slot) (λ d. if d then ret true else looks slot count) (if done then ret true else looks slot count) mid new new done m
    (leads_nothing (if done then ret true else looks slot count) new))

looks_full_one : (slot count : ℕ) (mid new : PortState) → 0 < count → StopsFull (look slot) mid new → StopsFull (looks slot count) mid new
unfolding looks
looks_full_one slot zero mid new h m = absurd (omega (arith, h))
looks_full_one slot (suc count) mid new h m = full_first (look slot) (λ d. if d then ret true else looks slot count) mid new m

pub looks_more : (slot count i : ℕ) (done : Bool) (old mid new : PortState) → Leads (looks slot count) old mid (looks slot (count - i)) → i < count
    → Makes (look slot) mid new done → done ≡ false → Leads (looks slot count) old new (looks slot (count - (i + 1)))
looks_more slot count i done old mid new p h m e =
    let b : (count - i) - 1 ≡ count - (i + 1) = omega arith in
    let some : 0 < count - i = omega (arith, h) in
    subst (λ n. Leads (looks slot count) old new (looks slot n)) b
    (leads_on (looks slot count) (looks slot (count - i)) (looks slot ((count - i) - 1)) old mid new p
    (subst (λ d. Leads (looks slot (count - i)) mid new (if d then ret true else looks slot ((count - i) - 1))) e (looks_one slot (count - i) done mid new some m)))

pub looks_seen : (slot count i : ℕ) (done : Bool) (old mid new : PortState) → Leads (looks slot count) old mid (looks slot (count - i)) → i < count
    → Makes (look slot) mid new done → done ≡ true → Makes (looks slot count) old new true
looks_seen slot count i done old mid new p h m e =
    let some : 0 < count - i = omega (arith, h) in
    leads_on (looks slot count) (looks slot (count - i)) (ret true) old mid new p
    (subst (λ d. Leads (looks slot (count - i)) mid new (if d then ret true else looks slot ((count - i) - 1))) e (looks_one slot (count - i) done mid new some m))

looks_nothing : (slot count : ℕ) → count ≡ 0 → looks slot count ≡ ret false
unfolding looks
looks_nothing slot zero e = refl
looks_nothing slot (suc count) e = absurd (omega (arith, e))

pub looks_none : (slot count i : ℕ) (old new : PortState) → Leads (looks slot count) old new (looks slot (count - i)) → i ≡ count → Makes (looks slot count) old new false
looks_none slot count i old new p e =
    let none : count - i ≡ 0 = omega (arith, e) in
    subst (λ t. Leads (looks slot count) old new t) (looks_nothing slot (count - i) none) p

pub looks_full : (slot count i : ℕ) (old mid new : PortState) → Leads (looks slot count) old mid (looks slot (count - i)) → i < count → StopsFull (look slot) mid new → StopsFull (looks slot count) old new
looks_full slot count i old mid new p h m =
    let some : 0 < count - i = omega (arith, h) in
    full_on (looks slot count) (looks slot (count - i)) old mid new p (looks_full_one slot (count - i) mid new some m)

-- the step at a slot that is told by another number
pub made_at : (a slot b word : ℕ) (found : ℕ) (old new : PortState) → a ≡ slot → b ≡ word → Makes (cas Pool a 0 b) old new found → Makes (cas Pool slot 0 word) old new found
made_at a slot b word found old new e f h = subst (λ n. Makes (cas Pool n 0 word) old new found) e (subst (λ n. Makes (cas Pool a 0 n) old new found) f h)

pub full_at : (a slot b word : ℕ) (old new : PortState) → a ≡ slot → b ≡ word → StopsFull (cas Pool a 0 b) old new → StopsFull (cas Pool slot 0 word) old new
full_at a slot b word old new e f h = subst (λ n. StopsFull (cas Pool n 0 word) old new) e (subst (λ n. StopsFull (cas Pool a 0 n) old new) f h)

-- the slots stay words past the host bytes
pub has_slots_on : {A : Type 0} (t rest : Interaction A) (pool : Slots) (old new : PortState) → Leads t old new rest → HasSlots old pool → HasSlots new pool
has_slots_on t rest pool old new h p = subst (λ s. HasSlots s pool) (sym h.grown) p
