-- Pokes and peeks, byte after byte.
use Rattle.std.proofs.Common.{ℕ, zero, suc, ◌+◌, ◌-◌, ◌<◌, ◌≤◌, ◌≡◌, true, false, if◌then◌else◌, List, [], ◌∷◌, drop, length, slice_index, refl, ap, sym, ◌∙◌, subst, arith}
use Rattle.sgx_base.specs.Ranges.{is_mapped}
use Rattle.word_port.specs.declared.Side.{Side}
use Rattle.word_port.specs.Port.{PortState}
use Rattle.word_port.specs.Interaction.{Interaction, ret, and_then}
use Rattle.word_port.specs.Accesses.{word_at, load, swap, loads, stores}
use Rattle.word_port.specs.Runs.{Leads, Makes, StopsFull}
use Rattle.word_port.proofs.Laws.{leads_nothing, leads_on, leads_then, makes_ret, makes_then, full_on, full_first}
use Rattle.call_machine.specs.Acts.{mapped_stores, mapped_loads}

-- ---- one byte

-- a byte outside host memory makes no step
pub poke_passed : (side : Side) (host at b : ℕ) (now : PortState) → is_mapped host at 1 ≡ false → Makes (mapped_stores side host at (b ∷ [])) now now tt
poke_passed side host at b now e = rw e (makes_ret tt now)

pub peek_passed : (side : Side) (host at : ℕ) (now : PortState) → is_mapped host at 1 ≡ false → Makes (mapped_loads side host at 1) now now tt
peek_passed side host at now e = rw e (makes_ret tt now)

-- one in host memory is written
poke_is : (side : Side) (host at b : ℕ) → is_mapped host at 1 ≡ true → stores side at (b ∷ []) ≡ mapped_stores side host at (b ∷ [])
poke_is side host at b e = rw e refl

pub poke_made : (side : Side) (host at b : ℕ) (old new : PortState) → is_mapped host at 1 ≡ true → Makes (stores side at (b ∷ [])) old new tt
    → Makes (mapped_stores side host at (b ∷ [])) old new tt
poke_made side host at b old new e made = subst (λ t. Makes t old new tt) (poke_is side host at b e) made

pub poke_full : (side : Side) (host at b : ℕ) (old new : PortState) → is_mapped host at 1 ≡ true → StopsFull (stores side at (b ∷ [])) old new
    → StopsFull (mapped_stores side host at (b ∷ [])) old new
poke_full side host at b old new e stopped = subst (λ t. StopsFull t old new) (poke_is side host at b e) stopped

-- or loaded
peek_is : (side : Side) (host at : ℕ) → is_mapped host at 1 ≡ true → and_then (loads side at 1) (λ bytes. ret tt) ≡ mapped_loads side host at 1
peek_is side host at e = rw e refl

pub peek_made : (side : Side) (host at : ℕ) (bytes : List ℕ) (old new : PortState) → is_mapped host at 1 ≡ true → Makes (loads side at 1) old new bytes
    → Makes (mapped_loads side host at 1) old new tt
peek_made side host at bytes old new e made =
    subst (λ t. Makes t old new tt) (peek_is side host at e) (makes_then (loads side at 1) (λ bytes. ret tt) old new new bytes tt made (makes_ret tt new))

pub peek_full : (side : Side) (host at : ℕ) (old new : PortState) → is_mapped host at 1 ≡ true → StopsFull (loads side at 1) old new
    → StopsFull (mapped_loads side host at 1) old new
peek_full side host at old new e stopped =
    subst (λ t. StopsFull t old new) (peek_is side host at e) (full_first (loads side at 1) (λ bytes. ret tt) old new stopped)

-- the address that was found for a byte
mapped_at : (host size at past given address : ℕ) → address ≡ at + given → given ≡ past → size ≡ host → is_mapped size address 1 ≡ true → (address ≡ at + past) × (is_mapped host (at + past) 1 ≡ true)
mapped_at host size at past given address a g h m =
    let there : address ≡ at + past = a ∙ ap (λ k. at + k) g in
    (there, subst (λ x. is_mapped host x 1 ≡ true) there (subst (λ n. is_mapped n address 1 ≡ true) h m))

pub peek_found : (side : Side) (host size at past given address : ℕ) (bytes : List ℕ) (old new : PortState) → address ≡ at + given → given ≡ past → size ≡ host
    → is_mapped size address 1 ≡ true → Makes (loads side address 1) old new bytes → Makes (mapped_loads side host (at + past) 1) old new tt
peek_found side host size at past given address bytes old new a g h m made =
    let found = mapped_at host size at past given address a g h m in
    peek_made side host (at + past) bytes old new found.1 (subst (λ x. Makes (loads side x 1) old new bytes) found.0 made)

pub peek_stopped : (side : Side) (host size at past given address : ℕ) (old new : PortState) → address ≡ at + given → given ≡ past → size ≡ host
    → is_mapped size address 1 ≡ true → StopsFull (loads side address 1) old new → StopsFull (mapped_loads side host (at + past) 1) old new
peek_stopped side host size at past given address old new a g h m stopped =
    let found = mapped_at host size at past given address a g h m in
    peek_full side host (at + past) old new found.1 (subst (λ x. StopsFull (loads side x 1) old new) found.0 stopped)

-- ---- byte after byte

module _ (side : Side) (host : ℕ) where
  stores-cons : (at b : ℕ) (rest : List ℕ)
      → mapped_stores side host at (b ∷ rest) ≡ and_then (mapped_stores side host at (b ∷ [])) (λ done. mapped_stores side host (at + 1) rest)
  stores-cons at b rest =
      elim (is_mapped host at 1) as (λ c. (if c then and_then (swap side (word_at at) b) (λ old. mapped_stores side host (at + 1) rest) else mapped_stores side host (at + 1) rest)
      ≡ and_then (if c then and_then (swap side (word_at at) b) (λ old. ret tt) else ret tt) (λ done. mapped_stores side host (at + 1) rest)) [
        | true ↦ refl
        | false ↦ refl
      ]

  loads-suc : (at n : ℕ) → mapped_loads side host at (suc n) ≡ and_then (mapped_loads side host at 1) (λ done. mapped_loads side host (at + 1) n)
  loads-suc at n =
      elim (is_mapped host at 1) as (λ c. (if c then and_then (load side (word_at at)) (λ b. mapped_loads side host (at + 1) n) else mapped_loads side host (at + 1) n)
      ≡ and_then (if c then and_then (load side (word_at at)) (λ b. ret tt) else ret tt) (λ done. mapped_loads side host (at + 1) n)) [
        | true ↦ refl
        | false ↦ refl
      ]

  drop_one : (bytes : List ℕ) (i : ℕ) → i < length bytes → drop i bytes ≡ slice_index bytes i ∷ drop (i + 1) bytes
  drop_one [] i h = absurd (omega (arith, h))
  drop_one (b ∷ bytes) zero h = refl
  drop_one (b ∷ bytes) (suc i) h =
      let below : i < length bytes = omega (arith, h) in
      let on : suc (i + 1) ≡ suc i + 1 = omega arith in
      drop_one bytes i below ∙ ap (λ k. slice_index bytes i ∷ drop k (b ∷ bytes)) on

  drop_none : (bytes : List ℕ) (i : ℕ) → length bytes ≤ i → drop i bytes ≡ []
  drop_none [] zero h = refl
  drop_none [] (suc i) h = refl
  drop_none (b ∷ bytes) zero h = absurd (omega (arith, h))
  drop_none (b ∷ bytes) (suc i) h = let below : length bytes ≤ i = omega (arith, h) in drop_none bytes i below

  loads-next : (at n : ℕ) → 0 < n → mapped_loads side host at n ≡ and_then (mapped_loads side host at 1) (λ done. mapped_loads side host (at + 1) (n - 1))
  loads-next at zero h = absurd (omega (arith, h))
  loads-next at (suc n) h =
      let one : n ≡ suc n - 1 = omega arith in
      loads-suc at n ∙ ap (λ k. and_then (mapped_loads side host at 1) (λ done. mapped_loads side host (at + 1) k)) one

-- the port is still of the same host memory
same_host : {A : Type 0} (t rest : Interaction A) (old now : PortState) → Leads t old now rest → now.host ≡ old.host
same_host t rest old now p = ap (λ (s : PortState). s.host) p.grown

-- ---- pokes

pub pokes_begin : (side : Side) (at : ℕ) (bytes : List ℕ) (now : PortState)
    → Leads (mapped_stores side now.host at bytes) now now (mapped_stores side now.host (at + 0) (drop 0 bytes))
pokes_begin side at bytes now =
    let a : at + 0 ≡ at = omega arith in
    subst (λ x. Leads (mapped_stores side now.host at bytes) now now (mapped_stores side now.host x bytes)) (sym a) (leads_nothing (mapped_stores side now.host at bytes) now)

module _ (side : Side) (at i : ℕ) (bytes : List ℕ) (old mid new : PortState)
    (p : Leads (mapped_stores side old.host at bytes) old mid (mapped_stores side old.host (at + i) (drop i bytes))) where
  abbrev poke_next : ℕ → Interaction (Unit {0})
  poke_next b = mapped_stores side old.host (at + i) (b ∷ [])

  next_poke : i < length bytes
      → mapped_stores side old.host (at + i) (drop i bytes) ≡ and_then (poke_next (slice_index bytes i)) (λ done. mapped_stores side old.host (at + (i + 1)) (drop (i + 1) bytes))
  next_poke h =
      let a : (at + i) + 1 ≡ at + (i + 1) = omega arith in
      ap (λ l. mapped_stores side old.host (at + i) l) (drop_one side old.host bytes i h)
      ∙ stores-cons side old.host (at + i) (slice_index bytes i) (drop (i + 1) bytes)
      ∙ ap (λ x. and_then (poke_next (slice_index bytes i)) (λ done. mapped_stores side old.host x (drop (i + 1) bytes))) a

  so_far : i < length bytes → Leads (mapped_stores side old.host at bytes) old mid (and_then (poke_next (slice_index bytes i)) (λ done. mapped_stores side old.host (at + (i + 1)) (drop (i + 1) bytes)))
  so_far h = subst (λ t. Leads (mapped_stores side old.host at bytes) old mid t) (next_poke h) p

  -- one more byte
  pub pokes_more : i < length bytes → Makes (mapped_stores side mid.host (at + i) (slice_index bytes i ∷ [])) mid new tt
      → Leads (mapped_stores side old.host at bytes) old new (mapped_stores side old.host (at + (i + 1)) (drop (i + 1) bytes))
  pokes_more h made =
      let here_made : Makes (poke_next (slice_index bytes i)) mid new tt =
      subst (λ n. Makes (mapped_stores side n (at + i) (slice_index bytes i ∷ [])) mid new tt) (same_host _ _ old mid p) made in
      let rest : Interaction (Unit {0}) = mapped_stores side old.host (at + (i + 1)) (drop (i + 1) bytes) in
      leads_on (mapped_stores side old.host at bytes) (and_then (poke_next (slice_index bytes i)) (λ done. rest)) rest old mid new (so_far h)
      (leads_then (poke_next (slice_index bytes i)) (λ done. rest) rest mid new new tt here_made (leads_nothing rest new))

  -- the log is full
  pub pokes_full : i < length bytes → StopsFull (mapped_stores side mid.host (at + i) (slice_index bytes i ∷ [])) mid new → StopsFull (mapped_stores side old.host at bytes) old new
  pokes_full h stopped =
      let here_stopped : StopsFull (poke_next (slice_index bytes i)) mid new =
      subst (λ n. StopsFull (mapped_stores side n (at + i) (slice_index bytes i ∷ [])) mid new) (same_host _ _ old mid p) stopped in
      let rest : Interaction (Unit {0}) = mapped_stores side old.host (at + (i + 1)) (drop (i + 1) bytes) in
      full_on (mapped_stores side old.host at bytes) (and_then (poke_next (slice_index bytes i)) (λ done. rest)) old mid new (so_far h)
      (full_first (poke_next (slice_index bytes i)) (λ done. rest) mid new here_stopped)

  -- all bytes
  pub pokes_end : length bytes ≤ i → Makes (mapped_stores side old.host at bytes) old mid tt
  pokes_end h = subst (λ l. Leads (mapped_stores side old.host at bytes) old mid (mapped_stores side old.host (at + i) l)) (drop_none side old.host bytes i h) p

-- ---- peeks

pub peeks_begin : (side : Side) (at count : ℕ) (now : PortState)
    → Leads (mapped_loads side now.host at count) now now (mapped_loads side now.host (at + 0) (count - 0))
peeks_begin side at count now =
    let a : at + 0 ≡ at = omega arith in
    let n : count - 0 ≡ count = omega arith in
    subst (λ x. Leads (mapped_loads side now.host at count) now now (mapped_loads side now.host x (count - 0))) (sym a)
    (subst (λ k. Leads (mapped_loads side now.host at count) now now (mapped_loads side now.host at k)) (sym n) (leads_nothing (mapped_loads side now.host at count) now))

module _ (side : Side) (at i count : ℕ) (old mid new : PortState)
    (p : Leads (mapped_loads side old.host at count) old mid (mapped_loads side old.host (at + i) (count - i))) where
  abbrev peek_next : Interaction (Unit {0})
  peek_next = mapped_loads side old.host (at + i) 1

  abbrev peeks_left : Interaction (Unit {0})
  peeks_left = mapped_loads side old.host (at + (i + 1)) (count - (i + 1))

  next_peek : i < count → mapped_loads side old.host (at + i) (count - i) ≡ and_then peek_next (λ done. peeks_left)
  next_peek h =
      let a : (at + i) + 1 ≡ at + (i + 1) = omega arith in
      let n : (count - i) - 1 ≡ count - (i + 1) = omega arith in
      let some : 0 < count - i = omega (arith, h) in
      loads-next side old.host (at + i) (count - i) some
      ∙ ap (λ x. and_then peek_next (λ done. mapped_loads side old.host x ((count - i) - 1))) a
      ∙ ap (λ k. and_then peek_next (λ done. mapped_loads side old.host (at + (i + 1)) k)) n

  loaded_so_far : i < count → Leads (mapped_loads side old.host at count) old mid (and_then peek_next (λ done. peeks_left))
  loaded_so_far h = subst (λ t. Leads (mapped_loads side old.host at count) old mid t) (next_peek h) p

  -- one more byte
  pub peeks_more : i < count → Makes (mapped_loads side mid.host (at + i) 1) mid new tt → Leads (mapped_loads side old.host at count) old new peeks_left
  peeks_more h made =
      let here_made : Makes peek_next mid new tt = subst (λ n. Makes (mapped_loads side n (at + i) 1) mid new tt) (same_host _ _ old mid p) made in
      leads_on (mapped_loads side old.host at count) (and_then peek_next (λ done. peeks_left)) peeks_left old mid new (loaded_so_far h)
      (leads_then peek_next (λ done. peeks_left) peeks_left mid new new tt here_made (leads_nothing peeks_left new))

  -- the log is full
  pub peeks_full : i < count → StopsFull (mapped_loads side mid.host (at + i) 1) mid new → StopsFull (mapped_loads side old.host at count) old new
  peeks_full h stopped =
      let here_stopped : StopsFull peek_next mid new = subst (λ n. StopsFull (mapped_loads side n (at + i) 1) mid new) (same_host _ _ old mid p) stopped in
      full_on (mapped_loads side old.host at count) (and_then peek_next (λ done. peeks_left)) old mid new (loaded_so_far h)
      (full_first peek_next (λ done. peeks_left) mid new here_stopped)

  -- all bytes
  pub peeks_end : count ≤ i → Makes (mapped_loads side old.host at count) old mid tt
  peeks_end h =
      let none : count - i ≡ 0 = omega (arith, h) in
      subst (λ n. Leads (mapped_loads side old.host at count) old mid (mapped_loads side old.host (at + i) n)) none p
