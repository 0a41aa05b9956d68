-- The number of calls in progress, counted from either end of the stack.
use Rattle.std.proofs.Common.{ℕ, ◌+◌, ◌≡◌, List, [], ◌∷◌, reverse, sum_by, fold, is_some, if◌then◌else◌, arith}
use Rattle.std.proofs.lemmas.List.Sums.{sum_by-cons}
use Rattle.bridge_program.specs.Entry.{Entered, calls_in_progress}

sum_by-onto : {A : Type 0} (f : A → ℕ) (onto xs : List A) → sum_by f (fold (λ r x. x ∷ r) onto xs) ≡ sum_by f onto + sum_by f xs
sum_by-onto f onto [] = omega arith
sum_by-onto f onto (x ∷ xs) =
    let moved : sum_by f (fold (λ r y. y ∷ r) (x ∷ onto) xs) ≡ sum_by f (x ∷ onto) + sum_by f xs = sum_by-onto f (x ∷ onto) xs in
    let here : sum_by f (x ∷ onto) ≡ f x + sum_by f onto = sum_by-cons f x onto in
    let there : sum_by f (x ∷ xs) ≡ f x + sum_by f xs = sum_by-cons f x xs in
    omega (arith, moved, here, there)

sum_by-reverse : {A : Type 0} (f : A → ℕ) (xs : List A) → sum_by f (reverse xs) ≡ sum_by f xs
sum_by-reverse f xs = let moved : sum_by f (reverse xs) ≡ 0 + sum_by f xs = sum_by-onto f [] xs in omega (arith, moved)

pub calls-reverse : (stack : List Entered) → calls_in_progress (reverse stack) ≡ calls_in_progress stack
calls-reverse stack = sum_by-reverse (λ (e : Entered). if is_some e.ocall then 2 else 1) stack
