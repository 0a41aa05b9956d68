-- How much more may come, one line later.
use Rattle.std.proofs.Common.{arith, ℕ, ◌≡◌, ◌+◌, ◌-◌, ◌^◌, ◌<◌, Bool, List, [], ◌∷◌, ◌++◌}
use Rattle.std.specs.Prelude.{◌==◌, min, cond, nat_le, nat_lt, count_by, sum_by}
use Rattle.std.proofs.lemmas.List.Sums.{sum_by-append}
use Rattle.call_script.specs.Line.{Line}
use Rattle.script_faults.specs.Room.{left}

sum-one : (f : Line → ℕ) (ls : List Line) (l : Line) → sum_by f (ls ++ l ∷ []) ≡ sum_by f ls + f l
sum-one f ls l = omega (arith, sum_by-append f ls (l ∷ []))

pub count-behind : (kind : Line → Bool) (ls : List Line) (l : Line)
    → count_by kind (ls ++ l ∷ []) ≡ count_by kind ls + cond (kind l) 1 0
count-behind kind ls l = sum-one (λ x. cond (kind x) 1 0) ls l

pub left-behind : (most : ℕ) (kind : Line → Bool) (ls : List Line) (l : Line) (old new : ℕ) → old ≡ left most kind ls
    → new ≡ old - cond (kind l) 1 0 → new ≡ left most kind (ls ++ l ∷ [])
left-behind most kind ls l old new h e = omega (arith, count-behind kind ls l)

pub none_left : (most count left : ℕ) → left ≡ most - count → (left == 0) ≡ nat_le most count
none_left most count left e = grind arith

pub sum-behind : (f : Line → ℕ) (ls : List Line) (l : Line) (old new : ℕ) → old ≡ min (sum_by f ls) (2 ^ 64 - 1)
    → new ≡ min (old + f l) (2 ^ 64 - 1) → new ≡ min (sum_by f (ls ++ l ∷ [])) (2 ^ 64 - 1)
sum-behind f ls l old new h e = omega (arith, sum-one f ls l)

pub sum-above : (sum more old limit : ℕ) → limit < 2 ^ 64 - 1 → old ≡ min sum (2 ^ 64 - 1)
    → nat_lt limit (min (old + more) (2 ^ 64 - 1)) ≡ nat_lt limit (sum + more)
sum-above sum more old limit l e = grind arith
