-- A racer does the writes of its acts, whatever is answered.
use Rattle.std.proofs.Common.{ℕ, zero, suc, ◌+◌, ◌≡◌, List, [], ◌∷◌, ◌++◌, refl, ap, sym, ◌∙◌, length}
use Rattle.sgx_base.specs.declared.Status.{Status}
use Rattle.sgx_base.specs.declared.TheConstants.Status.{SUCCESS}
use Rattle.word_port.specs.declared.Side.TheVariants.{Racer}
use Rattle.word_port.specs.Accesses.{word_at, stores}
use Rattle.word_port.specs.Requests.{Request, swap_of}
use Rattle.word_port.specs.Interaction.{Interaction, ask, and_then, map_value}
use Rattle.call_script.specs.declared.Place.{Place}
use Rattle.call_script.specs.declared.Place.TheVariants.{At, InFrame}
use Rattle.call_script.specs.declared.HostAct.{HostAct, Call, Raw, Poke, Peek, Return, Reply, Repeat', Row_of-HostAct, end_of-HostAct, more_of-HostAct}
use Rattle.call_machine.specs.Acts.{with_status, no_records, then_acts, repeat, act_of, row_of, acts_from, acts_of}
use Rattle.call_machine.specs.Result.{Outcome}
use Rattle.call_machine.specs.Thread.{racer_acts}
use Rattle.host_racer.specs.Racing.{IsAimed, IsRacerAct, AreRacerRow, AreRacerActs, racer, raced}
use Rattle.host_racer.specs.Writes.{byte_writes, place_writes, times_over, act_writes, row_writes, writes_of, asks_all}
use Rattle.host_racer.proofs.RacerRuns.{all_mapped}

-- one after another
then_asks : {A B : Type 0} (first second : List Request) (x : A) (y : B) (f : A → Interaction B) → f x ≡ asks_all second y → and_then (asks_all first x) f ≡ asks_all (first ++ second) y
then_asks [] second x y f h = h
then_asks (q ∷ first) second x y f h = ap (λ t. ask q (λ n. t)) (then_asks first second x y f h)

map_asks : {A B : Type 0} (requests : List Request) (x : A) (f : A → B) → map_value f (asks_all requests x) ≡ asks_all requests (f x)
map_asks [] x f = refl
map_asks (q ∷ requests) x f = ap (λ t. ask q (λ n. t)) (map_asks requests x f)

stores_ask : (address : ℕ) (bytes : List ℕ) → stores Racer address bytes ≡ asks_all (byte_writes address bytes) tt
stores_ask address [] = refl
stores_ask address (b ∷ bytes) = ap (λ t. ask (swap_of Racer (word_at address) b) (λ n. t)) (stores_ask (address + 1) bytes)

-- acts that leave the reply's status as it is, and make no record
abbrev Asks : Interaction Outcome → List Request → Type 0
Asks t requests = t ≡ asks_all requests raced

acts_ask : (act : Interaction Outcome) (next : Status → Interaction Outcome) (first second : List Request) → Asks act first → Asks (next SUCCESS) second → Asks (then_acts act next) (first ++ second)
acts_ask act next first second p q =
    ap (λ t. then_acts t next) p
    ∙ then_asks first second raced raced (λ out. map_value (λ more. record { status = more.status; records = out.records ++ more.records }) (next out.status))
    (ap (λ t. map_value (λ more. record { status = more.status; records = more.records }) t) q ∙ map_asks second raced (λ more. record { status = more.status; records = more.records }))

repeat_asks : (times : ℕ) (act : Status → Interaction Outcome) (requests : List Request) → Asks (act SUCCESS) requests → Asks (repeat times act SUCCESS) (times_over times requests)
repeat_asks zero act requests h = refl
repeat_asks (suc times) act requests h = acts_ask (act SUCCESS) (repeat times act) requests (times_over times requests) h (repeat_asks times act requests h)

module _ (host : ℕ) where
  poke_asks : (place : Place) (bytes : List ℕ) → IsAimed host place (length bytes) → Asks (act_of (racer host) (Poke place bytes) SUCCESS) (place_writes place bytes)
  poke_asks (At address) bytes h =
      ap (λ t. with_status SUCCESS (map_value no_records t)) (sym (all_mapped host address bytes h) ∙ stores_ask address bytes)
      ∙ ap (λ t. with_status SUCCESS t) (map_asks (byte_writes address bytes) tt no_records)
      ∙ map_asks (byte_writes address bytes) [] (λ records. record { status = SUCCESS; records = records })
  poke_asks (InFrame offset) bytes h = absurd h

  mutual
    act_asks : (act : HostAct) → IsRacerAct host act → Asks (act_of (racer host) act SUCCESS) (act_writes act)
    act_asks (Poke place bytes) h = poke_asks place bytes h
    act_asks (Repeat' times shape acts) h = repeat_asks times (row_of (racer host) acts) (row_writes acts) (row_asks acts h)
    act_asks (Call ordinal args) h = absurd h
    act_asks (Raw ordinal address) h = absurd h
    act_asks (Peek place count) h = absurd h
    act_asks (Return n) h = absurd h
    act_asks (Reply n) h = absurd h

    row_asks : {n : _} (row : Row_of-HostAct n) → AreRacerRow host row → Asks (row_of (racer host) row SUCCESS) (row_writes row)
    row_asks end_of-HostAct h = refl
    row_asks (more_of-HostAct act rest) h = acts_ask (act_of (racer host) act SUCCESS) (row_of (racer host) rest) (act_writes act) (row_writes rest) (act_asks act h.0) (row_asks rest h.1)

  list_asks : (acts : List HostAct) → AreRacerActs host acts → Asks (acts_from (racer host) acts SUCCESS) (writes_of acts)
  list_asks [] h = refl
  list_asks (act ∷ acts) h = acts_ask (act_of (racer host) act SUCCESS) (acts_from (racer host) acts) (act_writes act) (writes_of acts) (act_asks act h.0) (list_asks acts h.1)

-- what a racer does
pub racer_asks : (host : ℕ) (acts : List HostAct) → AreRacerActs host acts → racer_acts host acts ≡ asks_all (writes_of acts) raced
unfolding racer_acts acts_of
racer_asks host acts h = list_asks host acts h
