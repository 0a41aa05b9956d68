-- What single actions do is what the execution does at them.
use Rattle.std.proofs.Common.{ℕ, zero, ◌≡◌, ◌==◌, if◌then◌else◌, false, List, ◌∷◌, drop, Some, None, refl, ap}
use Rattle.body_vm.specs.declared.Operand.{Operand}
use Rattle.body_vm.specs.declared.Action.{Action}
use Rattle.body_vm.specs.declared.Action.TheVariants.{Set, Add, Sub, Mul, And, Or, Xor, Len, Sum, Get, Put, Fill, Copy, Temp, Cload, Cswap, Cadd, Ccas, Ocall, Skipz, Skipnz, Return}
use Rattle.body_vm.specs.State.{State, with_register, register}
use Rattle.body_vm.specs.Execution.{execution_from}
use Rattle.body_vm.specs.Steps.{computed, changed, skipped, is_asking}
use Rattle.body_vm.proofs.SkipLaws.{skip_is_drop}

-- an action that changes no block
pub not_changed : (s : State) (action : Action) → ((b : ℕ) (v w : Operand) → action ≡ Put b v w → ⊥) → ((b : ℕ) (v : Operand) → action ≡ Fill b v → ⊥) → ((b c : ℕ) → action ≡ Copy b c → ⊥)
    → ((b n : ℕ) → action ≡ Temp b n → ⊥) → changed s action ≡ s
not_changed s (Set r v) p f c t = refl
not_changed s (Add r v) p f c t = refl
not_changed s (Sub r v) p f c t = refl
not_changed s (Mul r v) p f c t = refl
not_changed s (And r v) p f c t = refl
not_changed s (Or r v) p f c t = refl
not_changed s (Xor r v) p f c t = refl
not_changed s (Len r b) p f c t = refl
not_changed s (Sum r b) p f c t = refl
not_changed s (Get r b v) p f c t = refl
not_changed s (Put b v w) p f c t = absurd (p b v w refl)
not_changed s (Fill b v) p f c t = absurd (f b v refl)
not_changed s (Copy b d) p f c t = absurd (c b d refl)
not_changed s (Temp b n) p f c t = absurd (t b n refl)
not_changed s (Cload r cell) p f c t = refl
not_changed s (Cswap r cell v) p f c t = refl
not_changed s (Cadd r cell v) p f c t = refl
not_changed s (Ccas r cell v w) p f c t = refl
not_changed s (Ocall ret status ordinal args) p f c t = refl
not_changed s (Skipz r n) p f c t = refl
not_changed s (Skipnz r n) p f c t = refl
not_changed s (Return v) p f c t = refl

-- what is there is one thing
pub some_is : {X : Type 0} (x y : X) → Some x ≡ Some y → x ≡ y
some_is x y e = cc

-- an action that sets a register by itself
pub computed_step : (s : State) (action : Action) (rest : List Action) (p : ℕ × ℕ) → computed s action ≡ Some p → execution_from s zero (action ∷ rest) ≡ execution_from (with_register s p.0 p.1) zero rest
computed_step s (Set r v) rest p e = ap (λ (q : ℕ × ℕ). execution_from (with_register s q.0 q.1) zero rest) (some_is _ p e)
computed_step s (Add r v) rest p e = ap (λ (q : ℕ × ℕ). execution_from (with_register s q.0 q.1) zero rest) (some_is _ p e)
computed_step s (Sub r v) rest p e = ap (λ (q : ℕ × ℕ). execution_from (with_register s q.0 q.1) zero rest) (some_is _ p e)
computed_step s (Mul r v) rest p e = ap (λ (q : ℕ × ℕ). execution_from (with_register s q.0 q.1) zero rest) (some_is _ p e)
computed_step s (And r v) rest p e = ap (λ (q : ℕ × ℕ). execution_from (with_register s q.0 q.1) zero rest) (some_is _ p e)
computed_step s (Or r v) rest p e = ap (λ (q : ℕ × ℕ). execution_from (with_register s q.0 q.1) zero rest) (some_is _ p e)
computed_step s (Xor r v) rest p e = ap (λ (q : ℕ × ℕ). execution_from (with_register s q.0 q.1) zero rest) (some_is _ p e)
computed_step s (Len r b) rest p e = ap (λ (q : ℕ × ℕ). execution_from (with_register s q.0 q.1) zero rest) (some_is _ p e)
computed_step s (Sum r b) rest p e = ap (λ (q : ℕ × ℕ). execution_from (with_register s q.0 q.1) zero rest) (some_is _ p e)
computed_step s (Get r b v) rest p e = ap (λ (q : ℕ × ℕ). execution_from (with_register s q.0 q.1) zero rest) (some_is _ p e)
computed_step s (Put b v w) rest p e = absurd (cc)
computed_step s (Fill b v) rest p e = absurd (cc)
computed_step s (Copy b d) rest p e = absurd (cc)
computed_step s (Temp b n) rest p e = absurd (cc)
computed_step s (Cload r cell) rest p e = absurd (cc)
computed_step s (Cswap r cell v) rest p e = absurd (cc)
computed_step s (Cadd r cell v) rest p e = absurd (cc)
computed_step s (Ccas r cell v w) rest p e = absurd (cc)
computed_step s (Ocall ret status ordinal args) rest p e = absurd (cc)
computed_step s (Skipz r n) rest p e = absurd (cc)
computed_step s (Skipnz r n) rest p e = absurd (cc)
computed_step s (Return v) rest p e = absurd (cc)

-- an action that changes blocks or passes over actions
pub changed_step : (s : State) (action : Action) (rest : List Action) → computed s action ≡ None → is_asking action ≡ false
    → execution_from s zero (action ∷ rest) ≡ execution_from (changed s action) zero (drop (skipped s action) rest)
changed_step s (Set r v) rest e a = absurd (cc)
changed_step s (Add r v) rest e a = absurd (cc)
changed_step s (Sub r v) rest e a = absurd (cc)
changed_step s (Mul r v) rest e a = absurd (cc)
changed_step s (And r v) rest e a = absurd (cc)
changed_step s (Or r v) rest e a = absurd (cc)
changed_step s (Xor r v) rest e a = absurd (cc)
changed_step s (Len r b) rest e a = absurd (cc)
changed_step s (Sum r b) rest e a = absurd (cc)
changed_step s (Get r b v) rest e a = absurd (cc)
changed_step s (Put b v w) rest e a = refl
changed_step s (Fill b v) rest e a = refl
changed_step s (Copy b d) rest e a = refl
changed_step s (Temp b n) rest e a = refl
changed_step s (Cload r cell) rest e a = absurd (cc)
changed_step s (Cswap r cell v) rest e a = absurd (cc)
changed_step s (Cadd r cell v) rest e a = absurd (cc)
changed_step s (Ccas r cell v w) rest e a = absurd (cc)
changed_step s (Ocall ret status ordinal args) rest e a = absurd (cc)
changed_step s (Skipz r n) rest e a = skip_is_drop s (if register s r == 0 then n else 0) rest
changed_step s (Skipnz r n) rest e a = skip_is_drop s (if register s r == 0 then 0 else n) rest
changed_step s (Return v) rest e a = absurd (cc)
