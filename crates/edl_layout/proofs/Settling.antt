-- What is known from some depth on, put together.
use Rattle.std.proofs.Common.{ℕ, ◌+◌, ◌≡◌, List, [], ◌∷◌, ◌++◌, Option, Some, None, option_map, refl, ◌∙◌, ap, subst, arith}
use Rattle.edl_layout.specs.Shape.{Shape, all_known}
use Rattle.edl_layout.specs.Settled.{IsUnknownOr, IsSettled, Settles}

-- both values, where both are known
abbrev pub both : {A B C : Type 0} → (A → B → C) → Option A → Option B → Option C
both f None b = None
both f (Some a) b = option_map (f a) b

both-none : {A B C : Type 0} (f : A → B → C) (o : Option A) → both f o None ≡ None
both-none f None = refl
both-none f (Some a) = refl

only_both : {A B C : Type 0} (f : A → B → C) (a : A) (b : B) (x : Option A) (y : Option B) → IsUnknownOr a x → IsUnknownOr b y → IsUnknownOr (f a b) (both f x y)
only_both f a b None y h k = tt
only_both f a b (Some c) None h k = tt
only_both f a b (Some c) (Some d) h k = ap (λ e. f e d) h ∙ ap (f a) k

pub settles_both : {A B C : Type 0} (f : A → B → C) (x : ℕ → Option A) (y : ℕ → Option B) (a : Option A) (b : Option B) → Settles x a → Settles y b → Settles (λ n. both f (x n) (y n)) (both f a b)
settles_both f x y None b h k = λ n. ap (λ o. both f o (y n)) (h n)
settles_both f x y (Some a) None h k = λ n. ap (both f (x n)) (k n) ∙ both-none f (x n)
settles_both f x y (Some a) (Some b) h k = record {
  from = h.from + k.from;
  deep = λ n le. ap (λ o. both f o (y n)) (h.deep n (omega arith)) ∙ ap (option_map (f a)) (k.deep n (omega arith));
  only = λ n. only_both f a b (x n) (y n) (h.only n) (k.only n);
}

pub settles_along : {A : Type 0} (x y : ℕ → Option A) (a : Option A) → ((n : ℕ) → x n ≡ y n) → Settles x a → Settles y a
settles_along {A} x y a e h = subst (λ (z : ℕ → Option A). Settles z a) (λ i n. e n i) h

-- what is always known
pub settled_always : {A : Type 0} (a : A) → IsSettled (λ n. Some a) a
settled_always a = record { from = 0; deep = λ n le. refl; only = λ n. refl }

-- ---- lists of shapes

cons_both : (s : Shape) (a b : Option (List Shape)) → option_map (◌∷◌ s) (both (◌++◌) a b) ≡ both (◌++◌) (option_map (◌∷◌ s) a) b
cons_both s None b = refl
cons_both s (Some ss) None = refl
cons_both s (Some ss) (Some ts) = refl

nil_both : (o : Option (List Shape)) → o ≡ both (◌++◌) (Some []) o
nil_both None = refl
nil_both (Some ss) = refl

pub all_known-append : (xs ys : List (Option Shape)) → all_known (xs ++ ys) ≡ both (◌++◌) (all_known xs) (all_known ys)
all_known-append [] ys = nil_both (all_known ys)
all_known-append (None ∷ xs) ys = refl
all_known-append (Some s ∷ xs) ys = ap (option_map (◌∷◌ s)) (all_known-append xs ys) ∙ cons_both s (all_known xs) (all_known ys)

only_one : (s : Shape) (x : Option Shape) → IsUnknownOr s x → IsUnknownOr (s ∷ []) (all_known (x ∷ []))
only_one s None h = tt
only_one s (Some t) h = ap (λ r. r ∷ []) h

pub settles_one : (x : ℕ → Option Shape) (s : Option Shape) → Settles x s → Settles (λ n. all_known (x n ∷ [])) (option_map (λ s. s ∷ []) s)
settles_one x None h = λ n. ap (λ o. all_known (o ∷ [])) (h n)
settles_one x (Some s) h = record {
  from = h.from;
  deep = λ n le. ap (λ o. all_known (o ∷ [])) (h.deep n le);
  only = λ n. only_one s (x n) (h.only n);
}
