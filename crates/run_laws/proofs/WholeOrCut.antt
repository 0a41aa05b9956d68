-- A run of a machine is whole, or it is cut by one limit.
use Rattle.std.proofs.Common.{ℕ, zero, suc, ◌+◌, ◌/◌, ◌≡◌, ◌≤◌, ◌⊎◌, inl, inr, nat_le, Bool, true, false, List, [], ◌∷◌, ◌++◌, length, take, drop, slice_set, refl, ap, sym, ◌∙◌, subst, arith}
use Rattle.std.proofs.lemmas.Bool.{leb-true, leb-false}
use Rattle.std.proofs.lemmas.List.{length-append, length-take-le, take-append-drop}
use Rattle.word_port.specs.declared.Race.{Race}
use Rattle.word_port.specs.declared.RunFull.{RunFull}
use Rattle.word_port.specs.declared.RunFull.TheVariants.{Steps, Records, Waited}
use Rattle.word_port.specs.Port.{PortState}
use Rattle.word_port.specs.Events.{Event, made, ticked, placed, new_record, waiting_look, steps_of, records_in, waits_in, HasPlaces}
use Rattle.word_port.specs.Interaction.{Interaction, ret, ask, here, tick, IsAfter, IsRun}
use Rattle.word_port.specs.Limits.{Progress, WantsNext, IsUsedUp}
use Rattle.word_port.specs.Runs.{Reaches}
use Rattle.word_port.specs.History.{Operation, step, race_write, words_after, IsLegal, accesses_in, with_races_from, with_races}
use Rattle.word_port.proofs.HistoryLaws.{races_append}
use Rattle.word_port.proofs.Laws.{steps_of-append}
use Rattle.word_port.proofs.OneLegalRun.{one_legal_run}
use Rattle.call_machine.specs.declared.Machine.{Machine}
use Rattle.call_machine.specs.Result.{Outcome}
use Rattle.call_machine.specs.Reported.{IsReportOf, IsCutBy, step_limit, record_limit, beginning, first_thread}

-- what a behaviour does for so many events, with what is left of it as the value
abbrev begun : {A : Type 0} → ℕ → Interaction A → Interaction (Interaction A)
begun zero t = ret t
begun (suc n) (ret x) = ret (ret x)
begun (suc n) (ask q next) = ask q (λ a. begun n (next a))
begun (suc n) (here next) = here (λ a. begun n (next a))
begun (suc n) (tick k next) = tick k (begun n next)

begun_run : {A : Type 0} (t : Interaction A) (events : List Event) (rest : Interaction A) → IsAfter t events rest → IsRun (begun (length events) t) events rest
begun_run t [] rest h = ap (λ u. ret u) h
begun_run (ret x) (e ∷ events) rest h = absurd h
begun_run (ask q next) (made s ∷ events) rest h = (h.0, begun_run (next s.answer) events rest h.1)
begun_run (ask q next) (ticked k ∷ events) rest h = absurd h
begun_run (ask q next) (placed n ∷ events) rest h = absurd h
begun_run (here next) (made s ∷ events) rest h = absurd h
begun_run (here next) (ticked k ∷ events) rest h = absurd h
begun_run (here next) (placed n ∷ events) rest h = begun_run (next n) events rest h
begun_run (tick k next) (made s ∷ events) rest h = absurd h
begun_run (tick k next) (ticked j ∷ events) rest h = (h.0, begun_run next events rest h.1)
begun_run (tick k next) (placed n ∷ events) rest h = absurd h

-- a run in two parts
parts : {A : Type 0} (t : Interaction A) (xs ys : List Event) (end : Interaction A) → IsAfter t (xs ++ ys) end → (mid : Interaction A) × IsAfter t xs mid × IsAfter mid ys end
parts t [] ys end h = (t, refl, h)
parts (ret x) (e ∷ xs) ys end h = absurd h
parts (ask q next) (made s ∷ xs) ys end h = let r = parts (next s.answer) xs ys end h.1 in (r.0, (h.0, r.1), r.2)
parts (ask q next) (ticked k ∷ xs) ys end h = absurd h
parts (ask q next) (placed n ∷ xs) ys end h = absurd h
parts (here next) (made s ∷ xs) ys end h = absurd h
parts (here next) (ticked k ∷ xs) ys end h = absurd h
parts (here next) (placed n ∷ xs) ys end h = let r = parts (next n) xs ys end h in (r.0, r.1, r.2)
parts (tick k next) (made s ∷ xs) ys end h = absurd h
parts (tick k next) (ticked j ∷ xs) ys end h = let r = parts next xs ys end h.1 in (r.0, (h.0, r.1), r.2)
parts (tick k next) (placed n ∷ xs) ys end h = absurd h

first_places : (n : ℕ) (xs ys : List Event) → HasPlaces n (xs ++ ys) → HasPlaces n xs
first_places n [] ys h = tt
first_places n (made s ∷ xs) ys h = first_places (n + 1) xs ys h
first_places n (ticked k ∷ xs) ys h = first_places n xs ys h
first_places n (placed k ∷ xs) ys h = (h.0, first_places n xs ys h.1)

first_legal : (words : List ℕ) (xs ys : List Operation) → IsLegal words (xs ++ ys) → IsLegal words xs
first_legal words [] ys h = tt
first_legal words (step s ∷ xs) ys h = (h.0, first_legal (words_after words s) xs ys h.1)
first_legal words (race_write i n ∷ xs) ys h = first_legal (slice_set words i n) xs ys h

first_steps_legal : (host : ℕ) (races : List Race) (words : List ℕ) (xs ys : List Event)
    → IsLegal words (with_races host races (steps_of (xs ++ ys))) → IsLegal words (with_races host races (steps_of xs))
first_steps_legal host races words xs ys h =
    first_legal words (with_races_from host 0 races (steps_of xs)) (with_races_from host (0 + accesses_in host (steps_of xs)) races (steps_of ys))
    (subst (λ l. IsLegal words l) (ap (λ s. with_races_from host 0 races s) (steps_of-append xs ys) ∙ races_append host 0 races (steps_of xs) (steps_of ys)) h)

-- the events of the machine's thread, up to what is left of it, are legal on its words
record IsLegalUpTo (m : Machine) (events : List Event) (rest : Interaction Outcome) : Type 0 where
  begins : IsAfter (first_thread m) events rest
  places : HasPlaces 0 events
  legal : IsLegal m.script.words (with_races m.script.settings.host m.script.races (steps_of events))

-- of two that are legal, one goes on where the other ends
goes_on : (m : Machine) (xs ys : List Event) (rest end : Interaction Outcome) → IsLegalUpTo m xs rest → IsLegalUpTo m ys end → length xs ≤ length ys
    → (more : List Event) × (ys ≡ xs ++ more) × IsAfter rest more end
goes_on m xs ys rest end a b short =
    let first : List Event = take (length xs) ys in
    let more : List Event = drop (length xs) ys in
    let whole : first ++ more ≡ ys = take-append-drop (length xs) ys in
    let size : length first ≡ length xs = length-take-le (length xs) ys short in
    let p = parts (first_thread m) first more end (subst (λ l. IsAfter (first_thread m) l end) (sym whole) b.begins) in
    let same : (rest ≡ p.0) × (xs ≡ first) =
    one_legal_run (begun (length xs) (first_thread m)) 0 m.script.settings.host 0 m.script.races m.script.words xs first rest p.0
    (begun_run (first_thread m) xs rest a.begins) (subst (λ n. IsRun (begun n (first_thread m)) first p.0) size (begun_run (first_thread m) first p.0 p.1))
    a.places (first_places 0 first more (subst (λ l. HasPlaces 0 l) (sym whole) b.places))
    a.legal (first_steps_legal m.script.settings.host m.script.races m.script.words first more
    (subst (λ l. IsLegal m.script.words (with_races m.script.settings.host m.script.races (steps_of l))) (sym whole) b.legal)) in
    (more, sym whole ∙ ap (λ l. l ++ more) (sym same.1), subst (λ u. IsAfter u more end) (sym same.0) p.2)

-- how many of the events a limit counts, and how many it allows
abbrev counted : RunFull → List Event → ℕ
counted Steps events = length (steps_of events)
counted Records events = records_in events
counted Waited events = waits_in events

abbrev allowed : RunFull → ℕ
allowed Steps = step_limit
allowed Records = record_limit
allowed Waited = step_limit / 4

counted-append : (full : RunFull) (xs ys : List Event) → counted full (xs ++ ys) ≡ counted full xs + counted full ys
counted-append Steps xs ys = ap length (steps_of-append xs ys) ∙ length-append (steps_of xs) (steps_of ys)
counted-append Records [] ys = omega arith
counted-append Records (made s ∷ xs) ys = counted-append Records xs ys
counted-append Records (ticked new_record ∷ xs) ys = let more : records_in (xs ++ ys) ≡ records_in xs + records_in ys = counted-append Records xs ys in omega (arith, more)
counted-append Records (ticked waiting_look ∷ xs) ys = counted-append Records xs ys
counted-append Records (placed n ∷ xs) ys = counted-append Records xs ys
counted-append Waited [] ys = omega arith
counted-append Waited (made s ∷ xs) ys = counted-append Waited xs ys
counted-append Waited (ticked new_record ∷ xs) ys = counted-append Waited xs ys
counted-append Waited (ticked waiting_look ∷ xs) ys = let more : waits_in (xs ++ ys) ≡ waits_in xs + waits_in ys = counted-append Waited xs ys in omega (arith, more)
counted-append Waited (placed n ∷ xs) ys = counted-append Waited xs ys

-- where one is wanted and the run goes on, one more is counted
wanted_one : {A : Type 0} (full : RunFull) (t end : Interaction A) (e : Event) (events : List Event) → WantsNext full t → IsAfter t (e ∷ events) end → 1 ≤ counted full (e ∷ events)
wanted_one Steps (ask q next) end (made s) events w h = omega arith
wanted_one Steps (ask q next) end (ticked k) events w h = absurd h
wanted_one Steps (ask q next) end (placed n) events w h = absurd h
wanted_one Records (tick new_record next) end (made s) events w h = absurd h
wanted_one Records (tick new_record next) end (ticked new_record) events w h = omega arith
wanted_one Records (tick new_record next) end (ticked waiting_look) events w h = let same : waiting_look ≡ new_record = h.0 in cc
wanted_one Records (tick new_record next) end (placed n) events w h = absurd h
wanted_one Waited (tick waiting_look next) end (made s) events w h = absurd h
wanted_one Waited (tick waiting_look next) end (ticked waiting_look) events w h = omega arith
wanted_one Waited (tick waiting_look next) end (ticked new_record) events w h = let same : new_record ≡ waiting_look = h.0 in cc
wanted_one Waited (tick waiting_look next) end (placed n) events w h = absurd h
wanted_one full t end e events w h = absurd w

-- a behaviour wants one kind of event next
one_wanted : {A : Type 0} (full other : RunFull) (t : Interaction A) → WantsNext full t → WantsNext other t → full ≡ other
one_wanted Steps Steps t w v = refl
one_wanted Records Records t w v = refl
one_wanted Waited Waited t w v = refl
one_wanted Steps other (ask q next) w v = absurd v
one_wanted Records other (tick new_record next) w v = absurd v
one_wanted Waited other (tick waiting_look next) w v = absurd v
one_wanted full other t w v = absurd w

-- what a run of the machine's thread counts is within each limit, and is all of one that is used up
module _ (m : Machine) (after : Progress) (rest : Interaction Outcome) (r : Reaches (first_thread m) (beginning m step_limit) after rest) where
  within_limit : length after.port.log ≤ step_limit → (full : RunFull) → counted full r.events ≤ allowed full
  within_limit h Steps = subst (λ (p : PortState). length p.log ≤ step_limit) r.grown h
  within_limit h Records = let records : record_limit ≡ after.records + records_in r.events = r.records in omega (arith, records)
  within_limit h Waited = let waits : step_limit / 4 ≡ after.waits + waits_in r.events = r.waits in omega (arith, waits)

  at_limit : (full : RunFull) → IsUsedUp full after → counted full r.events ≡ allowed full
  at_limit Steps h = subst (λ (p : PortState). length p.log ≡ p.limit) r.grown h
  at_limit Records h = let records : record_limit ≡ after.records + records_in r.events = r.records in omega (arith, records, h)
  at_limit Waited h = let waits : step_limit / 4 ≡ after.waits + waits_in r.events = r.waits in omega (arith, waits, h)

  legal_up_to : IsLegal m.script.words (with_races m.script.settings.host m.script.races after.port.log) → IsLegalUpTo m r.events rest
  legal_up_to h = record {
    begins = r.begun;
    places = r.places;
    legal = subst (λ (p : PortState). IsLegal m.script.words (with_races m.script.settings.host m.script.races p.log)) r.grown h;
  }

-- no run goes past a cut
no_more : {A : Type 0} (full : RunFull) (t end : Interaction A) (xs ys : List Event) (e : Event) (events : List Event) → WantsNext full t → IsAfter t (e ∷ events) end
    → counted full xs ≡ allowed full → ys ≡ xs ++ e ∷ events → counted full ys ≤ allowed full → ⊥
no_more full t end xs ys e events w h all is within =
    let one : 1 ≤ counted full (e ∷ events) = wanted_one full t end e events w h in
    let sum : counted full ys ≡ counted full xs + counted full (e ∷ events) = ap (λ l. counted full l) is ∙ counted-append full xs (e ∷ events) in
    omega (arith, one, sum, all, within)

-- a cut, by its events
record IsCutAfter (m : Machine) (full : RunFull) (events : List Event) (rest : Interaction Outcome) : Type 0 where
  legal : IsLegalUpTo m events rest
  within : (other : RunFull) → counted other events ≤ allowed other
  used_up : counted full events ≡ allowed full
  wants : WantsNext full rest

cut_after : (m : Machine) (full : RunFull) (c : IsCutBy m full) → IsCutAfter m full c.stops.reaches.events c.stops.rest
cut_after m full c = record {
  legal = legal_up_to m c.stops.after c.stops.rest c.stops.reaches
      (subst (λ (p : PortState). IsLegal m.script.words (with_races m.script.settings.host m.script.races p.log)) (sym c.stops.port) c.legal);
  within = within_limit m c.stops.after c.stops.rest c.stops.reaches (subst (λ (p : PortState). length p.log ≤ step_limit) (sym c.stops.port) c.within);
  used_up = at_limit m c.stops.after c.stops.rest c.stops.reaches full c.stops.used_up;
  wants = c.stops.wants;
}

one_limit_by : (m : Machine) (full other : RunFull) (xs ys more : List Event) (rest end : Interaction Outcome) → IsCutAfter m full xs rest → IsCutAfter m other ys end
    → ys ≡ xs ++ more → IsAfter rest more end → full ≡ other
one_limit_by m full other xs ys [] rest end a b is h = one_wanted full other end (subst (λ t. WantsNext full t) h a.wants) b.wants
one_limit_by m full other xs ys (e ∷ more) rest end a b is h = absurd (no_more full rest end xs ys e more a.wants h a.used_up is (b.within full))

one_limit_after : (m : Machine) (full other : RunFull) (xs ys : List Event) (rest end : Interaction Outcome) → IsCutAfter m full xs rest → IsCutAfter m other ys end
    → length xs ≤ length ys → full ≡ other
one_limit_after m full other xs ys rest end a b short =
    let on = goes_on m xs ys rest end a.legal b.legal short in one_limit_by m full other xs ys on.0 rest end a b on.1 on.2

shorter : (a b : ℕ) → (a ≤ b) ⊎ (b ≤ a)
shorter a b = by_test (nat_le a b) refl
  where
    by_test : (t : Bool) → nat_le a b ≡ t → (a ≤ b) ⊎ (b ≤ a)
    by_test true e = inl (leb-true a b e)
    by_test false e = let less : b ≤ a = omega (arith, leb-false a b e) in inr less

-- two cuts name the same limit
pub one_limit : (m : Machine) (full other : RunFull) → IsCutBy m full → IsCutBy m other → full ≡ other
one_limit m full other c d =
    let xs : List Event = c.stops.reaches.events in
    let ys : List Event = d.stops.reaches.events in
    elim (shorter (length xs) (length ys)) [
      | inl short ↦ one_limit_after m full other xs ys c.stops.rest d.stops.rest (cut_after m full c) (cut_after m other d) short
      | inr short ↦ sym (one_limit_after m other full ys xs d.stops.rest c.stops.rest (cut_after m other d) (cut_after m full c) short)
    ]

-- what has ended wants nothing, and does not go on
ended_wants : (full : RunFull) (x : Outcome) (t : Interaction Outcome) → ret x ≡ t → WantsNext full t → ⊥
ended_wants full x t e w = wants_nothing full (subst (λ u. WantsNext full u) (sym e) w)
  where
    wants_nothing : (f : RunFull) → WantsNext f (ret x) → ⊥
    wants_nothing Steps v = v
    wants_nothing Records v = v
    wants_nothing Waited v = v

whole_first : (full : RunFull) (x : Outcome) (more : List Event) (end : Interaction Outcome) → IsAfter (ret x) more end → WantsNext full end → ⊥
whole_first full x [] end h w = ended_wants full x end h w
whole_first full x (e ∷ more) end h w = h

cut_first : (m : Machine) (full : RunFull) (xs ys more : List Event) (rest : Interaction Outcome) (x : Outcome) → IsCutAfter m full xs rest → counted full ys ≤ allowed full
    → ys ≡ xs ++ more → IsAfter rest more (ret x) → ⊥
cut_first m full xs ys [] rest x a within is h = ended_wants full x rest (sym h) a.wants
cut_first m full xs ys (e ∷ more) rest x a within is h = no_more full rest (ret x) xs ys e more a.wants h a.used_up is within

-- what has a report is not cut
pub whole_or_cut : (m : Machine) (text : List ℕ) (full : RunFull) → IsReportOf m text → IsCutBy m full → ⊥
whole_or_cut m text full p c =
    let ys : List Event = p.run.events in
    let xs : List Event = c.stops.reaches.events in
    let whole : IsLegalUpTo m ys (ret p.outcome) = legal_up_to m p.after (ret p.outcome) p.run p.legal in
    let cut : IsCutAfter m full xs c.stops.rest = cut_after m full c in
    elim (shorter (length xs) (length ys)) [
      | inl short ↦ let on = goes_on m xs ys c.stops.rest (ret p.outcome) cut.legal whole short in
          cut_first m full xs ys on.0 c.stops.rest p.outcome cut (within_limit m p.after (ret p.outcome) p.run p.within full) on.1 on.2
      | inr short ↦ let on = goes_on m ys xs (ret p.outcome) c.stops.rest whole cut.legal short in whole_first full p.outcome on.0 c.stops.rest on.2 cut.wants
    ]
