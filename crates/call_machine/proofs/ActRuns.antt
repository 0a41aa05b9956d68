-- What the acts of the host come to, one after another.
use Rattle.std.proofs.Common.{ℕ, zero, suc, ◌+◌, ◌-◌, ◌<◌, ◌≤◌, ◌≡◌, List, [], ◌∷◌, ◌++◌, length, drop, get_or, refl, ap, sym, ◌∙◌, subst, append_assoc, append-nil, arith}
use Rattle.sgx_base.specs.declared.Status.{Status}
use Rattle.sgx_base.specs.declared.TheConstants.Status.{SUCCESS}
use Rattle.word_port.specs.declared.RunFull.{RunFull}
use Rattle.word_port.specs.declared.RunFull.TheVariants.{Steps}
use Rattle.word_port.specs.Port.{PortState}
use Rattle.word_port.specs.Interaction.{Interaction, ret, and_then, map_value}
use Rattle.word_port.specs.Limits.{Progress}
use Rattle.word_port.specs.Runs.{Makes, StopsFull, Reaches, Runs, StopsAt}
use Rattle.word_port.proofs.Laws.{and_then-assoc, and_then-ret, reaches_nothing, reaches_on, reaches_first, runs_ret, stops_on, stops_first}
use Rattle.word_port.proofs.EventLaws.{steps_reach, steps_stop}
use Rattle.word_port.specs.declared.Side.TheVariants.{Host}
use Rattle.call_script.specs.declared.Place.{Place}
use Rattle.call_script.specs.declared.HostAct.{HostAct, Poke, Peek, Reply}
use Rattle.call_report.specs.declared.CallRecord.{CallRecord}
use Rattle.call_report.specs.RecordList.{RecordList, with_records}
use Rattle.bridge_program.specs.Entry.{MayEnter}
use Rattle.call_machine.specs.declared.Machine.{Machine}
use Rattle.call_machine.specs.declared.acts.HostPlace.{HostPlace}
use Rattle.call_machine.specs.Acts.{Actor, place_address, mapped_stores, peek, with_status, no_records, then_acts, repeat, act_of, acts_from, acts_of}
use Rattle.call_machine.specs.Context.{Context, depth_of}
use Rattle.call_machine.specs.HostActs.{actor_at}
use Rattle.call_machine.specs.Made.{MakesCalls, MakesOutcome}
use Rattle.call_machine.specs.Result.{Outcome}
use Rattle.call_machine.specs.Tcs.{TcsState, context_of, moment, HasStackInHost, IsPortOf}
use Rattle.call_machine.specs.Thread.{ecalls, host_actor, thread}
use std.Path.{fun_ext}

-- ---- one act

-- calls, with the reply's status beside them
pub calls_done : (status : Status) (calls : Interaction (List CallRecord)) (old new : PortState) (before after : RecordList) (first last : TcsState) → MakesCalls calls old new before after first last
    → MakesOutcome (with_status status calls) old new before after first last status
calls_done status calls old new before after first last (made, run, grown, kept) = (
  record { status = status; records = made },
  refl,
  reaches_first calls (ret made) (λ records. ret (record { status = status; records = records })) (moment old before first) (moment new after last) run,
  grown,
  kept,
)

pub calls_cut : (status : Status) (full : RunFull) (calls : Interaction (List CallRecord)) (old new : PortState) (before : RecordList) (first : TcsState) → StopsAt full calls (moment old before first) new
    → StopsAt full (with_status status calls) (moment old before first) new
calls_cut status full calls old new before first stopped = stops_first full calls (λ records. ret (record { status = status; records = records })) (moment old before first) new stopped

-- steps alone, with no record
pub steps_done : (status : Status) (steps : Interaction (Unit {0})) (old new : PortState) (records : RecordList) (t : TcsState) → Makes steps old new tt
    → MakesOutcome (with_status status (map_value no_records steps)) old new records records t t status
steps_done status steps old new records t made =
    calls_done status (map_value no_records steps) old new records records t t (
      [],
      reaches_first steps (ret tt) (λ done. ret (no_records done)) (moment old records t) (moment new records t) (steps_reach steps (ret tt) old new _ _ made),
      ap (λ l. record records { list = l }) (sym (append-nil records.list)),
      refl,
    )

pub steps_cut : (status : Status) (steps : Interaction (Unit {0})) (old new : PortState) (records : RecordList) (t : TcsState) → StopsFull steps old new
    → StopsAt Steps (with_status status (map_value no_records steps)) (moment old records t) new
steps_cut status steps old new records t stopped =
    calls_cut status Steps (map_value no_records steps) old new records t
    (stops_first Steps steps (λ done. ret (no_records done)) (moment old records t) new (steps_stop steps old new _ _ stopped))

-- a reply makes no step
pub reply_done : (actor : Actor) (n : ℕ) (status : Status) (now : PortState) (records : RecordList) (t : TcsState)
    → MakesOutcome (act_of actor (Reply n) status) now now records records t t (record { 0 = n })
reply_done actor n status now records t = (
  record { status = record { 0 = n }; records = [] },
  refl,
  runs_ret (record { status = record { 0 = n }; records = [] }) (moment now records t),
  ap (λ l. record records { list = l }) (sym (append-nil records.list)),
  refl,
)

-- what the acts are
pub poke_is : (m : Machine) (cx : Context) (here : HostPlace) (status : Status) (place : Place) (bytes given : List ℕ) (host at : ℕ) → host ≡ m.script.settings.host → at ≡ place_address here.frame place → given ≡ bytes
    → act_of (actor_at m cx here) (Poke place bytes) status ≡ with_status status (map_value no_records (mapped_stores Host host at given))
poke_is m cx here status place bytes given host at h a g = rw (h, a, g) refl

pub peek_is : (m : Machine) (cx : Context) (here : HostPlace) (status : Status) (place : Place) (count host at : ℕ) → host ≡ m.script.settings.host → at ≡ place_address here.frame place
    → act_of (actor_at m cx here) (Peek place count) status ≡ with_status status (peek Host host (depth_of cx) at count)
peek_is m cx here status place count host at h a =
    ap (λ n. with_status status (peek Host n (depth_of cx) (place_address here.frame place) count)) (sym h) ∙ ap (λ n. with_status status (peek Host host (depth_of cx) n count)) (sym a)

-- ---- act after act

-- what is left, after these records
abbrev pub left_after : List CallRecord → Interaction Outcome → Interaction Outcome
left_after made rest = and_then rest (λ more. ret (record { status = more.status; records = made ++ more.records }))

-- some acts of the whole are done, and the rest is still to come
pub record IsUnderWay (whole rest : Interaction Outcome) (old now : PortState) (before after : RecordList) (first last : TcsState) : Type 0 where
  pub made : List CallRecord
  pub so_far : Reaches whole (moment old before first) (moment now after last) (left_after made rest)
  pub grown : after ≡ with_records before made
  pub kept : last ≡ record first { waits = last.waits }

pub acts_begin : (whole : Interaction Outcome) (now : PortState) (records : RecordList) (t : TcsState) → IsUnderWay whole whole now now records records t t
acts_begin whole now records t = record {
  made = [];
  so_far = subst (λ rest. Reaches whole (moment now records t) (moment now records t) rest) (sym (and_then-ret whole)) (reaches_nothing whole (moment now records t));
  grown = ap (λ l. record records { list = l }) (sym (append-nil records.list));
  kept = refl;
}

-- what stays as it was at the beginning
module _ (whole rest : Interaction Outcome) (old now : PortState) (before after : RecordList) (first last : TcsState) (p : IsUnderWay whole rest old now before after first last) where
  pub same_context : context_of last ≡ context_of first
  same_context = ap (λ (t : TcsState). context_of t) p.kept

  pub same_stack : last.stack ≡ first.stack
  same_stack = ap (λ (t : TcsState). t.stack) p.kept

  pub may_enter : (m : Machine) → MayEnter m.interface first.stack → MayEnter m.interface last.stack
  may_enter m may = subst (λ stack. MayEnter m.interface stack) (sym same_stack) may

  pub stack_in_host : (m : Machine) → HasStackInHost m first → HasStackInHost m last
  stack_in_host m within = subst (λ (t : TcsState). HasStackInHost m t) (sym p.kept) within

  pub port_of : (m : Machine) → IsPortOf m old → IsPortOf m now
  port_of m is = record {
    host_is = ap (λ (s : PortState). s.host) p.so_far.grown ∙ is.host_is;
    words_are = ap (λ (s : PortState). s.words) p.so_far.grown ∙ is.words_are;
  }

-- what the host at a place does in the same context
module _ (m : Machine) (place : HostPlace) (doing : Actor → Interaction Outcome) where
  pub in_context : (old new : PortState) (before after : RecordList) (first last : TcsState) (status : Status) (cx : Context) → context_of first ≡ cx
      → MakesOutcome (doing (actor_at m (context_of first) place)) old new before after first last status → MakesOutcome (doing (actor_at m cx place)) old new before after first last status
  in_context old new before after first last status cx same made =
      subst (λ x. MakesOutcome (doing (actor_at m x place)) old new before after first last status) same made

  pub in_context_cut : (full : RunFull) (before : Progress) (new : PortState) (first cx : Context) → first ≡ cx
      → StopsAt full (doing (actor_at m first place)) before new → StopsAt full (doing (actor_at m cx place)) before new
  in_context_cut full before new first cx same stopped = subst (λ x. StopsAt full (doing (actor_at m x place)) before new) same stopped

module _ (whole act : Interaction Outcome) (next : Status → Interaction Outcome) (old now : PortState) (before between : RecordList) (first mid : TcsState)
    (p : IsUnderWay whole (then_acts act next) old now before between first mid) where
  abbrev then_next : Outcome → Interaction Outcome
  then_next out = map_value (λ more. record { status = more.status; records = out.records ++ more.records }) (next out.status)

  abbrev after_made : Outcome → Interaction Outcome
  after_made more = ret (record { status = more.status; records = p.made ++ more.records })

  next_is : (out : Outcome) → and_then (then_next out) after_made ≡ left_after (p.made ++ out.records) (next out.status)
  next_is out =
      and_then-assoc (next out.status) (λ more. ret (record { status = more.status; records = out.records ++ more.records })) after_made
      ∙ ap (λ k. and_then (next out.status) k)
      (fun_ext (λ (more : Outcome). ap (λ l. ret (record { status = more.status; records = l })) (sym (append_assoc p.made out.records more.records))))

  -- one more act is done
  pub acts_on : (status : Status) (new : PortState) (after : RecordList) (last : TcsState) → MakesOutcome act now new between after mid last status → IsUnderWay whole (next status) old new before after first last
  acts_on status new after last (out, its, run, longer, same) =
      let step : Reaches (left_after p.made (then_acts act next)) (moment now between mid) (moment new after last) (left_after (p.made ++ out.records) (next out.status)) =
      subst (λ t. Reaches (left_after p.made (then_acts act next)) (moment now between mid) (moment new after last) t) (next_is out)
      (reaches_first (then_acts act next) (then_next out) after_made (moment now between mid) (moment new after last)
      (reaches_first act (ret out) then_next (moment now between mid) (moment new after last) run)) in
      record {
        made = p.made ++ out.records;
        so_far = subst (λ s. Reaches whole (moment old before first) (moment new after last) (left_after (p.made ++ out.records) (next s))) its
            (reaches_on whole (left_after p.made (then_acts act next)) (left_after (p.made ++ out.records) (next out.status)) (moment old before first) (moment now between mid) (moment new after last) p.so_far step);
        grown = longer ∙ ap (λ r. with_records r out.records) p.grown ∙ ap (λ l. record before { list = l }) (append_assoc before.list p.made out.records);
        kept = same ∙ ap {A = TcsState} (λ (u : TcsState). record u { waits = last.waits }) p.kept;
      }

  -- the act is cut
  pub acts_cut : (full : RunFull) (new : PortState) → StopsAt full act (moment now between mid) new → StopsAt full whole (moment old before first) new
  acts_cut full new stopped =
      stops_on full whole (left_after p.made (then_acts act next)) (moment old before first) (moment now between mid) new p.so_far
      (stops_first full (then_acts act next) after_made (moment now between mid) new (stops_first full act then_next (moment now between mid) new stopped))

-- all acts are done
pub acts_end : (whole : Interaction Outcome) (status : Status) (old now : PortState) (before after : RecordList) (first last : TcsState)
    → IsUnderWay whole (ret (record { status = status; records = [] })) old now before after first last → MakesOutcome whole old now before after first last status
acts_end whole status old now before after first last p = (
  record { status = status; records = p.made },
  refl,
  subst (λ l. Reaches whole (moment old before first) (moment now after last) (ret (record { status = status; records = l }))) (append-nil p.made) p.so_far,
  p.grown,
  p.kept,
)

-- ---- a list of acts

drop_act : (acts : List HostAct) (i : ℕ) (act : HostAct) → i < length acts → act ≡ get_or acts i act → drop i acts ≡ act ∷ drop (i + 1) acts
drop_act [] i act h e = absurd (omega (arith, h))
drop_act (a ∷ acts) zero act h e = ap (λ x. x ∷ acts) (sym e)
drop_act (a ∷ acts) (suc i) act h e =
    let below : i < length acts = omega (arith, h) in
    let on : suc (i + 1) ≡ suc i + 1 = omega arith in
    drop_act acts i act below e ∙ ap (λ k. act ∷ drop k (a ∷ acts)) on

drop_acts : (acts : List HostAct) (i : ℕ) → length acts ≤ i → drop i acts ≡ []
drop_acts [] zero h = refl
drop_acts [] (suc i) h = refl
drop_acts (a ∷ acts) zero h = absurd (omega (arith, h))
drop_acts (a ∷ acts) (suc i) h = let below : length acts ≤ i = omega (arith, h) in drop_acts acts i below

module _ (whole : Interaction Outcome) (actor : Actor) (acts : List HostAct) (status : Status) (old now : PortState) (before between : RecordList) (first mid : TcsState) (i : ℕ)
    (p : IsUnderWay whole (acts_from actor (drop i acts) status) old now before between first mid) where
  pub list_end : length acts ≤ i → MakesOutcome whole old now before between first mid status
  list_end all =
      acts_end whole status old now before between first mid
      (subst (λ l. IsUnderWay whole (acts_from actor l status) old now before between first mid) (drop_acts acts i all) p)

  module _ (act : HostAct) (below : i < length acts) (act_is : act ≡ get_or acts i act) where
    at_act : IsUnderWay whole (then_acts (act_of actor act status) (acts_from actor (drop (i + 1) acts))) old now before between first mid
    at_act = subst (λ l. IsUnderWay whole (acts_from actor l status) old now before between first mid) (drop_act acts i act below act_is) p

    pub list_on : (next : Status) (new : PortState) (after : RecordList) (last : TcsState) → MakesOutcome (act_of actor act status) now new between after mid last next
        → IsUnderWay whole (acts_from actor (drop (i + 1) acts) next) old new before after first last
    list_on next new after last made = acts_on whole (act_of actor act status) (acts_from actor (drop (i + 1) acts)) old now before between first mid at_act next new after last made

    pub list_cut : (full : RunFull) (new : PortState) → StopsAt full (act_of actor act status) (moment now between mid) new → StopsAt full whole (moment old before first) new
    list_cut full new stopped = acts_cut whole (act_of actor act status) (acts_from actor (drop (i + 1) acts)) old now before between first mid at_act full new stopped

-- ---- a repeat

pub repeat_begin : (act : Status → Interaction Outcome) (times : ℕ) (status : Status) (now : PortState) (records : RecordList) (t : TcsState)
    → IsUnderWay (repeat times act status) (repeat (times - 0) act status) now now records records t t
repeat_begin act times status now records t =
    let all : times ≡ times - 0 = omega arith in
    subst (λ n. IsUnderWay (repeat times act status) (repeat n act status) now now records records t t) all (acts_begin (repeat times act status) now records t)

module _ (whole : Interaction Outcome) (act : Status → Interaction Outcome) (times : ℕ) (status : Status) (old now : PortState) (before between : RecordList) (first mid : TcsState) (i : ℕ)
    (p : IsUnderWay whole (repeat (times - i) act status) old now before between first mid) where
  pub repeat_end : times ≤ i → MakesOutcome whole old now before between first mid status
  repeat_end all =
      let none : times - i ≡ 0 = omega (arith, all) in
      acts_end whole status old now before between first mid (subst (λ n. IsUnderWay whole (repeat n act status) old now before between first mid) none p)

  at_turn : i < times → IsUnderWay whole (then_acts (act status) (repeat (times - (i + 1)) act)) old now before between first mid
  at_turn below =
      let one : times - i ≡ suc (times - (i + 1)) = omega (arith, below) in
      subst (λ n. IsUnderWay whole (repeat n act status) old now before between first mid) one p

  pub repeat_on : i < times → (next : Status) (new : PortState) (after : RecordList) (last : TcsState) → MakesOutcome (act status) now new between after mid last next
      → IsUnderWay whole (repeat (times - (i + 1)) act next) old new before after first last
  repeat_on below next new after last made = acts_on whole (act status) (repeat (times - (i + 1)) act) old now before between first mid (at_turn below) next new after last made

  pub repeat_cut : i < times → (full : RunFull) (new : PortState) → StopsAt full (act status) (moment now between mid) new → StopsAt full whole (moment old before first) new
  repeat_cut below full new stopped = acts_cut whole (act status) (repeat (times - (i + 1)) act) old now before between first mid (at_turn below) full new stopped

-- ---- a thread

module _ (m : Machine) (acts : List HostAct) (place : HostPlace) (at : place.frame ≡ 0) (size : place.return_size ≡ 0) where
  thread_is : (cx : Context) → acts_from (actor_at m cx place) acts SUCCESS ≡ thread m cx acts
  unfolding thread acts_of
  thread_is cx = ap (λ n. acts_from (host_actor m (ecalls m cx) cx n place.return_size) acts SUCCESS) at ∙ ap (λ n. acts_from (host_actor m (ecalls m cx) cx 0 n) acts SUCCESS) size

  pub thread_done : (status : Status) (old new : PortState) (before after : RecordList) (first last : TcsState)
      → MakesOutcome (acts_from (actor_at m (context_of first) place) acts SUCCESS) old new before after first last status
      → (out : Outcome) × Runs (thread m (context_of first) acts) (moment old before first) (moment new after last) out × (after ≡ with_records before out.records) × (last ≡ record first { waits = last.waits })
  thread_done status old new before after first last (out, its, run, grown, kept) =
      (out, subst (λ t. Runs t (moment old before first) (moment new after last) out) (thread_is (context_of first)) run, grown, kept)

  pub thread_cut : (full : RunFull) (old new : PortState) (before : RecordList) (first : TcsState)
      → StopsAt full (acts_from (actor_at m (context_of first) place) acts SUCCESS) (moment old before first) new → StopsAt full (thread m (context_of first) acts) (moment old before first) new
  thread_cut full old new before first stopped = subst (λ t. StopsAt full t (moment old before first) new) (thread_is (context_of first)) stopped
