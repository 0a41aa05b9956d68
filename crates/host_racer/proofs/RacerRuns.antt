-- What a racer's acts come to, one after another.
use Rattle.std.proofs.Common.{ℕ, suc, ◌+◌, ◌-◌, ◌<◌, ◌≤◌, ◌≡◌, true, IsTrue, List, [], ◌∷◌, ◌++◌, length, drop, get_or, refl, ap, sym, ◌∙◌, subst, arith}
use Rattle.std.proofs.lemmas.List.{drop_more, drop_all}
use Rattle.sgx_base.specs.Ranges.{is_mapped}
use Rattle.sgx_base.specs.declared.Status.{Status}
use Rattle.sgx_base.specs.declared.TheConstants.Status.{SUCCESS}
use Rattle.word_port.specs.declared.RunFull.{RunFull}
use Rattle.word_port.specs.declared.Side.TheVariants.{Racer}
use Rattle.word_port.specs.Accesses.{word_at, stores}
use Rattle.word_port.specs.Port.{PortState}
use Rattle.word_port.specs.Requests.{swap_of}
use Rattle.word_port.specs.Interaction.{Interaction, ret, ask, map_value}
use Rattle.word_port.specs.Runs.{Leads, Makes, StopsFull}
use Rattle.word_port.proofs.Laws.{and_then-ret, leads_nothing, leads_on, leads_then, makes_ret, makes_then, full_on, full_first}
use Rattle.call_copy.specs.Stops.{IsCutShort}
use Rattle.call_script.specs.declared.Place.{Place}
use Rattle.call_script.specs.declared.Place.TheVariants.{At}
use Rattle.call_script.specs.declared.HostAct.{HostAct, Poke}
use Rattle.call_report.specs.declared.CallRecord.{CallRecord}
use Rattle.call_machine.specs.Acts.{mapped_stores, no_records, then_acts, repeat, act_of, acts_from, acts_of}
use Rattle.call_machine.specs.Thread.{racer_acts}
use Rattle.call_machine.specs.Result.{Outcome}
use Rattle.host_racer.specs.Racing.{IsAimed, racer, raced}

-- the port is still of the same host memory
pub same_host : {A : Type 0} (t rest : Interaction A) (old now : PortState) → Leads t old now rest → now.host ≡ old.host
same_host t rest old now p = ap (λ (s : PortState). s.host) p.grown

-- ---- pokes

-- where all bytes are in host memory none is passed over
pub all_mapped : (host at : ℕ) (bytes : List ℕ) → IsTrue (is_mapped host at (length bytes)) → stores Racer at bytes ≡ mapped_stores Racer host at bytes
all_mapped host at [] h = refl
all_mapped host at (b ∷ bytes) h =
    let first : is_mapped host at 1 ≡ true = grind arith in
    let more : IsTrue (is_mapped host (at + 1) (length bytes)) = grind arith in
    rw first (ap (λ t. ask (swap_of Racer (word_at at) b) (λ old. t)) (all_mapped host (at + 1) bytes more))

module _ (host address : ℕ) (place : Place) (bytes : List ℕ) (old new : PortState) (is : place ≡ At address) (aimed : IsAimed host place (length bytes)) where
  bytes_stored : stores Racer address bytes ≡ mapped_stores Racer host address bytes
  bytes_stored = all_mapped host address bytes (subst (λ p. IsAimed host p (length bytes)) is aimed)

  abbrev poke_at : Place → Interaction Outcome
  poke_at p = act_of (racer host) (Poke p bytes) SUCCESS

  abbrev with_success : List CallRecord → Interaction Outcome
  with_success records = ret (record { status = SUCCESS; records = records })

  abbrev unrecorded : Unit {0} → Interaction (List CallRecord)
  unrecorded done = ret (no_records done)

  pub poke_made : Makes (stores Racer address bytes) old new tt → Makes (act_of (racer host) (Poke place bytes) SUCCESS) old new raced
  poke_made made =
      let here : Makes (mapped_stores Racer host address bytes) old new tt = subst (λ t. Makes t old new tt) bytes_stored made in
      subst (λ p. Makes (poke_at p) old new raced) (sym is)
      (makes_then (map_value no_records (mapped_stores Racer host address bytes)) with_success old new new [] raced
      (makes_then (mapped_stores Racer host address bytes) unrecorded old new new tt [] here (makes_ret [] new)) (makes_ret raced new))

  pub poke_cut : (full : RunFull) → IsCutShort (stores Racer address bytes) old new full → IsCutShort (act_of (racer host) (Poke place bytes) SUCCESS) old new full
  poke_cut full (steps, stopped) =
      let here : StopsFull (mapped_stores Racer host address bytes) old new = subst (λ t. StopsFull t old new) bytes_stored stopped in (
        steps,
        subst (λ p. StopsFull (poke_at p) old new) (sym is)
            (full_first (map_value no_records (mapped_stores Racer host address bytes)) with_success old new (full_first (mapped_stores Racer host address bytes) unrecorded old new here)),
      )

-- ---- act after act

module _ (whole act : Interaction Outcome) (next : Status → Interaction Outcome) (old mid new : PortState) (p : Leads whole old mid (then_acts act next)) where
  abbrev then_next : Outcome → Interaction Outcome
  then_next out = map_value (λ more. record { status = more.status; records = out.records ++ more.records }) (next out.status)

  -- one more act is done
  acts_on : Makes act mid new raced → Leads whole old new (next SUCCESS)
  acts_on made =
      leads_on whole (then_acts act next) (next SUCCESS) old mid new p
      (leads_then act then_next (next SUCCESS) mid new new raced made (subst (λ t. Leads t new new (next SUCCESS)) (sym (and_then-ret (next SUCCESS))) (leads_nothing (next SUCCESS) new)))

  -- the act is cut
  acts_cut : (full : RunFull) → IsCutShort act mid new full → IsCutShort whole old new full
  acts_cut full (steps, stopped) = (steps, full_on whole (then_acts act next) old mid new p (full_first act then_next mid new stopped))

-- ---- a list of acts

module _ (acts : List HostAct) (old mid : PortState) (i : ℕ)
    (p : Leads (acts_from (racer old.host) acts SUCCESS) old mid (acts_from (racer old.host) (drop i acts) SUCCESS)) where
  abbrev whole_list : Interaction Outcome
  whole_list = acts_from (racer old.host) acts SUCCESS

  pub list_end : length acts ≤ i → Makes (acts_from (racer old.host) acts SUCCESS) old mid raced
  list_end all = subst (λ l. Leads whole_list old mid (acts_from (racer old.host) l SUCCESS)) (drop_all i acts all) p

  module _ (act : HostAct) (new : PortState) (below : i < length acts) (act_is : act ≡ get_or acts i act) where
    at_act : Leads whole_list old mid (then_acts (act_of (racer old.host) act SUCCESS) (acts_from (racer old.host) (drop (i + 1) acts)))
    at_act =
        subst (λ l. Leads whole_list old mid (acts_from (racer old.host) l SUCCESS)) (drop_more acts i act below ∙ ap (λ a. a ∷ drop (i + 1) acts) (sym act_is)) p

    pub list_on : Makes (act_of (racer mid.host) act SUCCESS) mid new raced → Leads (acts_from (racer old.host) acts SUCCESS) old new (acts_from (racer old.host) (drop (i + 1) acts) SUCCESS)
    list_on made =
        acts_on whole_list (act_of (racer old.host) act SUCCESS) (acts_from (racer old.host) (drop (i + 1) acts)) old mid new at_act
        (subst (λ host. Makes (act_of (racer host) act SUCCESS) mid new raced) (same_host _ _ old mid p) made)

    pub list_cut : (full : RunFull) → IsCutShort (act_of (racer mid.host) act SUCCESS) mid new full → IsCutShort (acts_from (racer old.host) acts SUCCESS) old new full
    list_cut full stopped =
        acts_cut whole_list (act_of (racer old.host) act SUCCESS) (acts_from (racer old.host) (drop (i + 1) acts)) old mid new at_act full
        (subst (λ host. IsCutShort (act_of (racer host) act SUCCESS) mid new full) (same_host _ _ old mid p) stopped)

-- the acts are those of the racer
pub racer_is : (host : ℕ) (acts : List HostAct) → acts_from (racer host) acts SUCCESS ≡ racer_acts host acts
unfolding racer_acts acts_of
racer_is host acts = refl

-- ---- a repeat

module _ (acts : List HostAct) (times : ℕ) (old mid : PortState) (i : ℕ)
    (p : Leads (repeat times (acts_from (racer old.host) acts) SUCCESS) old mid (repeat (times - i) (acts_from (racer old.host) acts) SUCCESS)) where
  abbrev whole_repeat : Interaction Outcome
  whole_repeat = repeat times (acts_from (racer old.host) acts) SUCCESS

  pub repeat_end : times ≤ i → Makes (repeat times (acts_from (racer old.host) acts) SUCCESS) old mid raced
  repeat_end all =
      let none : times - i ≡ 0 = omega (arith, all) in
      subst (λ n. Leads whole_repeat old mid (repeat n (acts_from (racer old.host) acts) SUCCESS)) none p

  module _ (new : PortState) (below : i < times) where
    at_turn : Leads whole_repeat old mid (then_acts (acts_from (racer old.host) acts SUCCESS) (repeat (times - (i + 1)) (acts_from (racer old.host) acts)))
    at_turn =
        let one : times - i ≡ suc (times - (i + 1)) = omega (arith, below) in
        subst (λ n. Leads whole_repeat old mid (repeat n (acts_from (racer old.host) acts) SUCCESS)) one p

    turn_is : racer_acts mid.host acts ≡ acts_from (racer old.host) acts SUCCESS
    turn_is = sym (racer_is mid.host acts) ∙ ap (λ host. acts_from (racer host) acts SUCCESS) (same_host _ _ old mid p)

    pub repeat_on : Makes (racer_acts mid.host acts) mid new raced
        → Leads (repeat times (acts_from (racer old.host) acts) SUCCESS) old new (repeat (times - (i + 1)) (acts_from (racer old.host) acts) SUCCESS)
    repeat_on made =
        acts_on whole_repeat (acts_from (racer old.host) acts SUCCESS) (repeat (times - (i + 1)) (acts_from (racer old.host) acts)) old mid new at_turn
        (subst (λ t. Makes t mid new raced) turn_is made)

    pub repeat_cut : (full : RunFull) → IsCutShort (racer_acts mid.host acts) mid new full → IsCutShort (repeat times (acts_from (racer old.host) acts) SUCCESS) old new full
    repeat_cut full stopped =
        acts_cut whole_repeat (acts_from (racer old.host) acts SUCCESS) (repeat (times - (i + 1)) (acts_from (racer old.host) acts)) old mid new at_turn full
        (subst (λ t. IsCutShort t mid new full) turn_is stopped)
