-- What holds of each value that a behaviour may end with holds of the value of each of its runs.
use Rattle.std.proofs.Common.{ℕ, List, [], ◌∷◌, map, subst}
use Rattle.word_port.specs.Events.{Event, made, ticked, placed}
use Rattle.word_port.specs.Interaction.{Interaction, ret, ask, here, tick, and_then, IsAfter}
use Rattle.word_port.specs.Port.{PortState}
use Rattle.word_port.specs.Runs.{Makes}
use Rattle.word_port.proofs.OneRun.{ret-injective, not_ended}

-- whatever the answers, each value that it may end with has this property
abbrev pub AllResults : {A : Type 0} → (A → Type 0) → Interaction A → Type 0
AllResults P (ret x) = P x
AllResults P (ask q next) = (n : ℕ) → AllResults P (next n)
AllResults P (here next) = (n : ℕ) → AllResults P (next n)
AllResults P (tick k next) = AllResults P next

-- one after another
pub results_then : {A B : Type 0} (P : A → Type 0) (Q : B → Type 0) (t : Interaction A) (f : A → Interaction B)
    → AllResults P t → ((x : A) → P x → AllResults Q (f x)) → AllResults Q (and_then t f)
results_then P Q (ret x) f p q = q x p
results_then P Q (ask r next) f p q = λ n. results_then P Q (next n) f (p n) q
results_then P Q (here next) f p q = λ n. results_then P Q (next n) f (p n) q
results_then P Q (tick k next) f p q = results_then P Q next f p q

-- whatever the first ends with
pub results_after : {A B : Type 0} (Q : B → Type 0) (t : Interaction A) (f : A → Interaction B) → ((x : A) → AllResults Q (f x)) → AllResults Q (and_then t f)
results_after Q (ret x) f q = q x
results_after Q (ask r next) f q = λ n. results_after Q (next n) f q
results_after Q (here next) f q = λ n. results_after Q (next n) f q
results_after Q (tick k next) f q = results_after Q next f q

pub result_of_run : {A : Type 0} (P : A → Type 0) (t : Interaction A) (events : List Event) (x : A) → AllResults P t → IsAfter t events (ret x) → P x
result_of_run P (ret y) [] x p h = subst P (ret-injective y x h) p
result_of_run P (ret y) (e ∷ es) x p h = absurd h
result_of_run P (ask r next) [] x p h = absurd (not_ended (ask r next) x h)
result_of_run P (ask r next) (made s ∷ es) x p h = result_of_run P (next s.answer) es x (p s.answer) h.1
result_of_run P (ask r next) (ticked k ∷ es) x p h = absurd h
result_of_run P (ask r next) (placed n ∷ es) x p h = absurd h
result_of_run P (here next) [] x p h = absurd (not_ended (here next) x h)
result_of_run P (here next) (made s ∷ es) x p h = absurd h
result_of_run P (here next) (ticked k ∷ es) x p h = absurd h
result_of_run P (here next) (placed n ∷ es) x p h = result_of_run P (next n) es x (p n) h
result_of_run P (tick k next) [] x p h = absurd (not_ended (tick k next) x h)
result_of_run P (tick k next) (made s ∷ es) x p h = absurd h
result_of_run P (tick k next) (ticked j ∷ es) x p h = result_of_run P next es x p h.1
result_of_run P (tick k next) (placed n ∷ es) x p h = absurd h

-- the value of the steps that a port has made
pub result_made : {A : Type 0} (P : A → Type 0) (t : Interaction A) (old new : PortState) (x : A) → AllResults P t → Makes t old new x → P x
result_made P t old new x p m = result_of_run P t (map made m.steps) x p m.after
