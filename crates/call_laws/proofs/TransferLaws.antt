-- The runs of loads and stores, as events.
use Rattle.std.proofs.Common.{ℕ, zero, suc, ◌+◌, ◌≡◌, Bool, true, false, if◌then◌else◌, List, [], ◌∷◌, length, replicate, ap, sym, ◌∙◌}
use Rattle.std.proofs.lemmas.List.{length-replicate}
use Rattle.word_port.specs.declared.Side.TheVariants.{Enclave}
use Rattle.word_port.specs.Requests.{step_of, load_of}
use Rattle.word_port.specs.Events.{Event, made, ticked, placed}
use Rattle.word_port.specs.Interaction.{ret, IsRun}
use Rattle.word_port.specs.Accesses.{word_at, loads, stores}
use Rattle.word_port.proofs.OneRun.{not_ended}
use Rattle.call_laws.specs.Transfers.{loads_of, AreStores, AreFirstBytes}
use Rattle.call_laws.proofs.RunParts.{ret_run, IsMappedRun, mapped_run}

pub loads_run : (address n : ℕ) (events : List Event) (bytes : List ℕ) → IsRun (loads Enclave address n) events bytes → (length bytes ≡ n) × (events ≡ loads_of address bytes)
loads_run address zero events bytes h =
    let end : (events ≡ []) × ([] ≡ bytes) = ret_run [] events bytes h in
    (ap (λ l. length l) (sym end.1), end.0 ∙ ap (λ l. loads_of address l) end.1)
loads_run address (suc n) [] bytes h = absurd (not_ended (loads Enclave address (suc n)) bytes h)
loads_run address (suc n) (made s ∷ es) bytes h =
    let r : IsMappedRun (λ l. s.answer ∷ l) (loads Enclave (address + 1) n) es bytes = mapped_run (λ l. s.answer ∷ l) (loads Enclave (address + 1) n) es bytes h.1 in
    let rest : (length r.value ≡ n) × (es ≡ loads_of (address + 1) r.value) = loads_run (address + 1) n es r.value r.run in (
      ap (λ l. length l) (sym r.value_is) ∙ ap (λ k. suc k) rest.0,
      ap (λ v. made v ∷ es) h.0 ∙ ap (λ l. made (step_of (load_of Enclave (word_at address)) s.answer) ∷ l) rest.1 ∙ ap (λ l. loads_of address l) r.value_is,
    )
loads_run address (suc n) (ticked k ∷ es) bytes h = absurd h
loads_run address (suc n) (placed k ∷ es) bytes h = absurd h

pub stores_run : (address : ℕ) (bytes : List ℕ) (events : List Event) (u : Unit {0}) → IsRun (stores Enclave address bytes) events u → AreStores address bytes events
stores_run address [] [] u h = tt
stores_run address [] (e ∷ es) u h = absurd h
stores_run address (b ∷ bytes) [] u h = absurd (not_ended (stores Enclave address (b ∷ bytes)) u h)
stores_run address (b ∷ bytes) (made s ∷ es) u h = (h.0, stores_run (address + 1) bytes es u h.1)
stores_run address (b ∷ bytes) (ticked k ∷ es) u h = absurd h
stores_run address (b ∷ bytes) (placed k ∷ es) u h = absurd h

pub first_run : (inward : Bool) (address n : ℕ) (events : List Event) (bytes : List ℕ)
    → IsRun (if inward then loads Enclave address n else ret (replicate n 0)) events bytes → (length bytes ≡ n) × AreFirstBytes inward address bytes events
first_run true address n events bytes h = loads_run address n events bytes h
first_run false address n events bytes h =
    let end : (events ≡ []) × (replicate n 0 ≡ bytes) = ret_run (replicate n 0) events bytes h in
    let whole : length bytes ≡ n = ap (λ l. length l) (sym end.1) ∙ length-replicate n 0 in
    (whole, (sym end.1 ∙ ap (λ k. replicate k 0) (sym whole), end.0))
