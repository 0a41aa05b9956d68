-- Types from which walks over by-value members are short.
use Rattle.std.proofs.Common.{◌≡◌, ◌+◌, ℕ, zero, suc, List, [], ◌∷◌, refl, sym, ◌∙◌, ap, subst, Option, Some, None, zero-add, suc-add, add_comm, arith}
use Rattle.std.specs.Prelude.{filter_map, Contains}
use Rattle.std.specs.List.{cons_option}
use Rattle.std.proofs.lemmas.Option.{none-some, same_Some}
use Rattle.edl_grammar.specs.declared.Gathered.{Gathered}
use Rattle.edl_grammar.specs.declared.Declared.{Declared}
use Rattle.edl_grammar.specs.Files.{TypeIn}
use Rattle.edl_layout.specs.declared.ForeignTypes.{ForeignTypes}
use Rattle.edl_layout.specs.Meaning.{meaning, held_by, members_of, Holds, HoldsItself}
use Rattle.edl_layout.specs.Sizes.{Has, holds_of, IsShort, AreDone}

-- an item of a filtered list comes from an item of the list
pub from_filtered : {X Y : Type 0} (h : X → Option Y) (xs : List X) (y : Y) → Contains (filter_map h xs) y → (x : X) × Has xs x × (h x ≡ Some y)
from_filtered h [] y (k, low, e) = absurd (omega (arith, low))
from_filtered {X} {Y} h (x ∷ xs) y c = by (h x) refl c (from_filtered h xs y)
  where
    by : (o : Option Y) → h x ≡ o → Contains (cons_option o (filter_map h xs)) y → (Contains (filter_map h xs) y → (x' : X) × Has xs x' × (h x' ≡ Some y)) → (x' : X) × Has (x ∷ xs) x' × (h x' ≡ Some y)
    by None is d rest = let p = rest d in (p.0, (suc p.1.0, p.1.1), p.2)
    by (Some z) is (zero, low, e) rest = (x, (zero, refl), is ∙ ap Some e)
    by (Some z) is (suc k, low, e) rest = let p = rest (k, omega arith, e) in (p.0, (suc p.1.0, p.1.1), p.2)

-- and the other way round
pub into_filtered : {X Y : Type 0} (h : X → Option Y) (xs : List X) (x : X) (y : Y) → Has xs x → h x ≡ Some y → Contains (filter_map h xs) y
into_filtered h [] x y (k, e) is = absurd (none-some x e)
into_filtered {X} {Y} h (z ∷ xs) x y (zero, e) is = rw (ap h (same_Some z x e) ∙ is) (zero, omega arith, refl)
into_filtered {X} {Y} h (z ∷ xs) x y (suc k, e) is = by (h z) (into_filtered h xs x y (k, e) is)
  where
    by : (o : Option Y) → Contains (filter_map h xs) y → Contains (cons_option o (filter_map h xs)) y
    by None c = c
    by (Some w) (n, low, d) = (suc n, omega arith, d)

module _ (g : Gathered) (foreign : ForeignTypes) where
  -- the first steps of a walk are a walk
  pub walk_front : (n k : ℕ) (a b : TypeIn) → Holds g foreign (n + k) a b → (c : TypeIn) × Holds g foreign n a c
  walk_front zero k a b h = (a, refl)
  walk_front (suc n) k a b h =
      let s = (rw suc-add at h) in
      let p = walk_front n k s.0 b s.2 in
      (p.0, (s.0, s.1, p.1))

  pub walk_join : (n k : ℕ) (a b c : TypeIn) → Holds g foreign n a b → Holds g foreign k b c → Holds g foreign (n + k) a c
  walk_join zero k a b c h i = rw (zero-add k) (let P : TypeIn → Type 0 = λ t. Holds g foreign k t c in subst P (sym h) i)
  walk_join (suc n) k a b c h i = rw (suc-add n k) (h.0, h.1, walk_join n k h.0 b c h.2 i)

  -- a type that holds itself has walks of any length
  pub goes_round : (n k : ℕ) (t : TypeIn) → Holds g foreign (suc n) t t → (j : ℕ) × Holds g foreign (k + j) t t
  goes_round n zero t h = (zero, refl)
  goes_round n (suc k) t h =
      let p = goes_round n k t h in
      (n + p.0, (let e : suc n + (k + p.0) ≡ suc k + (n + p.0) = omega arith in let P : ℕ → Type 0 = λ m. Holds g foreign m t t in subst P e (walk_join (suc n) (k + p.0) t t t h p.1)))

  pub apart : (t : TypeIn) → IsShort g foreign t → HoldsItself g foreign t → ⊥
  apart t short (n, h) =
      let p = goes_round n short.steps t h in
      let q = walk_front short.steps p.0 t t p.1 in
      short.none q.0 q.1

  -- no walk of so many steps from what these members hold
  abbrev NoneFrom : ℕ → List Declared → Type 0
  NoneFrom n ms = (m : Declared) (t b : TypeIn) → Has ms m → holds_of g foreign m.written ≡ Some t → Holds g foreign n t b → ⊥

  longer : (n k : ℕ) (t : TypeIn) → ((b : TypeIn) → Holds g foreign n t b → ⊥) → (b : TypeIn) → Holds g foreign (n + k) t b → ⊥
  longer n k t never b h = let p = walk_front n k t b h in never p.0 p.1

  all_short : (ms : List Declared) → AreDone g foreign ms → (n : ℕ) × NoneFrom n ms
  all_short [] done = (zero, λ m t b (k, e) _ _. absurd (none-some m e))
  all_short (m ∷ ms) done = by (holds_of g foreign m.written) refl (all_short ms (λ x (k, e). done x (suc k, e)))
    where
      by : (o : Option TypeIn) → holds_of g foreign m.written ≡ o → (n : ℕ) × NoneFrom n ms → (n : ℕ) × NoneFrom n (m ∷ ms)
      by None is rest = (rest.0, go)
        where
          go : NoneFrom rest.0 (m ∷ ms)
          go x t b (zero, e) holds h = absurd (none-some t (sym is ∙ ap (λ (d : Declared). holds_of g foreign d.written) (same_Some m x e) ∙ holds))
          go x t b (suc k, e) holds h = rest.1 x t b (k, e) holds h
      by (Some s) is rest = (rest.0 + (done m (zero, refl) s is).steps, go)
        where
          short : IsShort g foreign s
          short = done m (zero, refl) s is

          go : NoneFrom (rest.0 + (done m (zero, refl) s is).steps) (m ∷ ms)
          go x t b (zero, e) holds h =
              let same : s ≡ t = same_Some s t (sym is ∙ ap (λ (d : Declared). holds_of g foreign d.written) (same_Some m x e) ∙ holds) in
              longer short.steps rest.0 s short.none b (subst (λ (n : ℕ). Holds g foreign n s b) (add_comm rest.0 short.steps) (subst (λ (u : TypeIn). Holds g foreign (rest.0 + short.steps) u b) (sym same) h))
          go x t b (suc k, e) holds h = longer rest.0 (done m (zero, refl) s is).steps t (λ c. rest.1 x t c (k, e) holds) b h

  -- a type is done where its members are
  pub short_by_members : (t : TypeIn) → AreDone g foreign (members_of t.decl) → IsShort g foreign t
  short_by_members t done =
      let p = all_short (members_of t.decl) done in
      record {
        steps = suc p.0;
        none = λ b h. let q = from_filtered (λ m. held_by (meaning g foreign m.written.base) m.written.stars) (members_of t.decl) h.0 h.1 in p.1 q.0 h.0 b q.1 q.2 h.2;
      }
