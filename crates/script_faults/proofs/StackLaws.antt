-- Stacks of so many threads and workers, against the size of host memory.
use Rattle.std.proofs.Common.{arith, ℕ, ◌≡◌, ◌+◌, ◌-◌, ◌*◌, ◌^◌, ◌≤◌, ◌<◌, ◌∙◌, ap}
use Rattle.std.specs.Prelude.{min, nat_lt}

-- a number that is cut off far above
above : (host product : ℕ) → host < 2 ^ 64 → nat_lt host (min product (2 ^ 128 - 1)) ≡ nat_lt host product
above host product h = grind arith

pub stacks_above : (count left threads workers stack host : ℕ) → count ≤ 8 → left ≡ 8 - count → threads ≡ 8 - left
    → host < 2 ^ 64
    → nat_lt host (min ((threads + workers) * stack) (2 ^ 128 - 1)) ≡ nat_lt host ((count + workers) * stack)
stacks_above count left threads workers stack host few e f h =
    let same : threads ≡ count = omega arith in
    above host ((threads + workers) * stack) h ∙ ap (λ n. nat_lt host ((n + workers) * stack)) same
