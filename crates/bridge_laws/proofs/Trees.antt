-- Laws of behaviours that may refuse.
use Rattle.std.proofs.Common.{ℕ, zero, suc, ◌+◌, ◌≡◌, List, [], ◌∷◌, length, Result, Ok, Err, refl, ap, sym, ◌∙◌}
use Rattle.sgx_base.specs.declared.Status.{Status}
use Rattle.word_port.specs.declared.Side.TheVariants.{Enclave}
use Rattle.word_port.specs.Requests.{load_of}
use Rattle.word_port.specs.Interaction.{Interaction, ret, ask, and_then, map_value}
use Rattle.word_port.specs.Accesses.{word_at, loads}
use Rattle.word_port.proofs.Laws.{and_then-assoc, and_then-ret}
use Rattle.call_machine.specs.Result.{go_on_if_ok, and_then_ok}
use std.Path.{fun_ext}

-- the same behaviour, gone on with in the same way
pub same_next : {A B : Type 0} (t : Interaction A) (g h : A → Interaction B) → ((x : A) → g x ≡ h x) → and_then t g ≡ and_then t h
same_next t g h e = ap (λ k. and_then t k) (fun_ext e)

-- one after another, up to a refusal, in either grouping
pub assoc_ok : {A B C : Type 0} (t : Interaction (Result A Status)) (g : A → Interaction (Result B Status)) (h : B → Interaction (Result C Status))
    → and_then_ok (and_then_ok t g) h ≡ and_then_ok t (λ x. and_then_ok (g x) h)
assoc_ok {A} {B} {C} t g h = and_then-assoc t (go_on_if_ok g) (go_on_if_ok h) ∙ same_next t (λ r. and_then (go_on_if_ok g r) (go_on_if_ok h)) (go_on_if_ok (λ x. and_then_ok (g x) h)) each
  where
    each : (r : Result A Status) → and_then (go_on_if_ok g r) (go_on_if_ok h) ≡ go_on_if_ok (λ x. and_then_ok (g x) h) r
    each (Ok x) = refl
    each (Err status) = refl

-- a value changed after what may be refused
pub map_ok : {A B C : Type 0} (t : Interaction (Result A Status)) (g : A → Interaction (Result B Status)) (change : Result B Status → Result C Status)
    → ((status : Status) → change (Err status) ≡ Err status)
    → map_value change (and_then_ok t g) ≡ and_then_ok t (λ x. map_value change (g x))
map_ok {A} {B} {C} t g change keeps =
    and_then-assoc t (go_on_if_ok g) (λ r. ret (change r)) ∙ same_next t (λ r. map_value change (go_on_if_ok g r)) (go_on_if_ok (λ x. map_value change (g x))) each
  where
    each : (r : Result A Status) → map_value change (go_on_if_ok g r) ≡ go_on_if_ok (λ x. map_value change (g x)) r
    each (Ok x) = refl
    each (Err status) = ap (λ y. ret y) (keeps status)

-- the same behaviour up to a refusal, gone on with in the same way
pub same_next_ok : {A B : Type 0} (t : Interaction (Result A Status)) (g h : A → Interaction (Result B Status)) → ((x : A) → g x ≡ h x) → and_then_ok t g ≡ and_then_ok t h
same_next_ok t g h e = ap (λ k. and_then_ok t k) (fun_ext e)

-- nothing more is done
pub ok-ret : {A : Type 0} (t : Interaction (Result A Status)) → and_then_ok t (λ x. ret (Ok x)) ≡ t
ok-ret {A} t = same_next t (go_on_if_ok (λ x. ret (Ok x))) (λ r. ret r) each ∙ and_then-ret t
  where
    each : (r : Result A Status) → go_on_if_ok (λ x. ret (Ok x)) r ≡ ret r
    each (Ok x) = refl
    each (Err status) = refl

-- what follows loads need agree on lists of their length alone
pub same_after_loads : {B : Type 0} (address n : ℕ) (g h : List ℕ → Interaction B) → ((bytes : List ℕ) → length bytes ≡ n → g bytes ≡ h bytes)
    → and_then (loads Enclave address n) g ≡ and_then (loads Enclave address n) h
same_after_loads address zero g h e = e [] refl
same_after_loads address (suc n) g h e = ap (λ k. ask (load_of Enclave (word_at address)) k) (fun_ext (λ b.
    and_then-assoc (loads Enclave (address + 1) n) (λ bytes. ret (b ∷ bytes)) g
    ∙ same_after_loads (address + 1) n (λ bytes. g (b ∷ bytes)) (λ bytes. h (b ∷ bytes)) (λ bytes w. e (b ∷ bytes) (ap (λ k. suc k) w))
    ∙ sym (and_then-assoc (loads Enclave (address + 1) n) (λ bytes. ret (b ∷ bytes)) h)))
