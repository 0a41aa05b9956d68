-- Laws of the arguments that are handed over.
use Rattle.std.proofs.Common.{ℕ, zero, suc, ◌+◌, ◌<◌, ◌≤◌, ◌≡◌, List, [], ◌∷◌, ◌++◌, length, map, take, get_or, refl, ap, sym, ◌∙◌, arith}
use Rattle.body_vm.specs.declared.Pass.{Pass}
use Rattle.body_vm.specs.Range.{IsPassable, ArePassable}

pub passable_at : (values blocks : ℕ) (passes : List Pass) (i : ℕ) (d : Pass) → ArePassable values blocks passes → i < length passes → IsPassable values blocks (get_or passes i d)
passable_at values blocks [] i d a h = absurd (omega (arith, h))
passable_at values blocks (p ∷ passes) zero d a h = a.0
passable_at values blocks (p ∷ passes) (suc i) d a h = passable_at values blocks passes i d a.1 (omega (arith, h))

pub map_more : {X Y : Type 0} (f : X → Y) (xs : List X) (i : ℕ) (d : X) → i < length xs → map f (take i xs) ++ f (get_or xs i d) ∷ [] ≡ map f (take (i + 1) xs)
map_more f [] i d h = absurd (omega (arith, h))
map_more f (x ∷ xs) zero d h = refl
map_more f (x ∷ xs) (suc i) d h =
    let e : suc i + 1 ≡ suc (i + 1) = omega arith in
    ap (λ ys. f x ∷ ys) (map_more f xs i d (omega (arith, h))) ∙ ap (λ n. map f (take n (x ∷ xs))) (sym e)

pub take_whole : {X : Type 0} (xs : List X) (i : ℕ) → length xs ≤ i → take i xs ≡ xs
take_whole [] zero h = refl
take_whole [] (suc i) h = refl
take_whole (x ∷ xs) zero h = absurd (omega (arith, h))
take_whole (x ∷ xs) (suc i) h = ap (λ ys. x ∷ ys) (take_whole xs i (omega (arith, h)))

pub map_twice : {X Y Z : Type 0} (f : X → Y) (g : Y → Z) (xs : List X) → map g (map f xs) ≡ map (λ x. g (f x)) xs
map_twice f g [] = refl
map_twice f g (x ∷ xs) = ap (λ ys. g (f x) ∷ ys) (map_twice f g xs)
