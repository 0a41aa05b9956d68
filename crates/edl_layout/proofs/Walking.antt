-- Walks over the types that types hold.
use Rattle.std.proofs.Common.{◌≡◌, ◌<◌, ◌+◌, ◌⊎◌, inl, inr, ℕ, zero, suc, Bool, true, false, not, List, [], ◌∷◌, ◌++◌, length, replicate, take, get_or, refl, sym, ◌∙◌, ap, subst, Some, None, arith}
use Rattle.std.specs.Prelude.{slice_get}
use Rattle.std.proofs.Common.{set}
use Rattle.std.proofs.lemmas.Option.{none-some, same_Some, slice_get_within}
use Rattle.std.proofs.lemmas.List.{length-set, length-append}
use Rattle.edl_grammar.specs.declared.Gathered.{Gathered}
use Rattle.edl_grammar.specs.declared.Declared.{Declared}
use Rattle.edl_grammar.specs.Files.{TypeIn, types_of}
use Rattle.edl_layout.specs.declared.ForeignTypes.{ForeignTypes}
use Rattle.edl_layout.specs.declared.cycles.Walk.{Walk}
use Rattle.edl_layout.specs.Meaning.{meaning, held_by, Holds, HoldsItself, members_of}
use Rattle.edl_layout.specs.Targets.{IsNumber}
use Rattle.edl_layout.specs.Sizes.{Has, count_of, holds_of}
use Rattle.edl_layout.specs.Walks.{IsMarked, IsReached, AreReached, IsHeldBy, HasGone, IsFrom, IsWalk, IsItself}
use Rattle.edl_layout.proofs.Doneness.{from_filtered, into_filtered, walk_join}
use Rattle.edl_layout.proofs.Together.{has_front, has_last, take_next}
use Rattle.edl_layout.proofs.Sweeping.{get_set_same, get_set_other, same_or_not, count_set}

pub has_append_left : {X : Type 0} (xs ys : List X) (x : X) → Has xs x → Has (xs ++ ys) x
has_append_left [] ys x (k, e) = absurd (none-some x e)
has_append_left (z ∷ xs) ys x (zero, e) = (zero, e)
has_append_left (z ∷ xs) ys x (suc k, e) = let p = has_append_left xs ys x (k, e) in (suc p.0, p.1)

pub has_append_right : {X : Type 0} (xs ys : List X) (x : X) → Has ys x → Has (xs ++ ys) x
has_append_right [] ys x h = h
has_append_right (z ∷ xs) ys x h = let p = has_append_right xs ys x h in (suc p.0, p.1)

pub has_append : {X : Type 0} (xs ys : List X) (x : X) → Has (xs ++ ys) x → Has xs x ⊎ Has ys x
has_append [] ys x h = inr h
has_append (z ∷ xs) ys x (zero, e) = inl (zero, e)
has_append {X} (z ∷ xs) ys x (suc k, e) = by (has_append xs ys x (k, e))
  where
    by : Has xs x ⊎ Has ys x → Has (z ∷ xs) x ⊎ Has ys x
    by (inl (j, d)) = inl (suc j, d)
    by (inr h) = inr h

module _ (g : Gathered) (foreign : ForeignTypes) where
  pub still_reached : (a b : List Bool) → ((k : ℕ) → IsMarked a k → IsMarked b k) → (ms : List Declared) → AreReached g foreign a ms → AreReached g foreign b ms
  still_reached a b grows ms all m t among holds = let p = all m t among holds in record { number = p.number; first = p.first; mark = grows p.number p.mark }

  more_held : (xs ys : List Declared) (k : ℕ) → IsHeldBy g foreign xs k → IsHeldBy g foreign (xs ++ ys) k
  more_held xs ys k h = record { member = h.member; type = h.type; among = has_append_left xs ys h.member h.among; held = h.held; first = h.first }

  more_held_right : (xs ys : List Declared) (k : ℕ) → IsHeldBy g foreign ys k → IsHeldBy g foreign (xs ++ ys) k
  more_held_right xs ys k h = record { member = h.member; type = h.type; among = has_append_right xs ys h.member h.among; held = h.held; first = h.first }

  -- nothing is gone to yet
  pub gone_nowhere : (w : Walk) → HasGone g foreign [] w w
  gone_nowhere w = record {
    count = refl;
    grows = λ k h. h;
    rest = refl;
    all = λ m t (k, e) _. absurd (none-some m e);
    only = λ k h. inl h;
    kept = λ k h. h;
    more = λ k h. inl h;
  }

  one_member : (m x : Declared) → Has (m ∷ []) x → m ≡ x
  one_member m x (zero, e) = same_Some m x e
  one_member m x (suc k, e) = absurd (none-some x e)

  -- the member holds nothing
  pub gone_none : (w : Walk) (m : Declared) → holds_of g foreign m.written ≡ None → HasGone g foreign (m ∷ []) w w
  gone_none w m is = record {
    count = refl;
    grows = λ k h. h;
    rest = refl;
    all = λ x t among holds. absurd (none-some t (sym is ∙ ap (λ (d : Declared). holds_of g foreign d.written) (one_member m x among) ∙ holds));
    only = λ k h. inl h;
    kept = λ k h. h;
    more = λ k h. inl h;
  }

  -- what the member holds is reached already
  pub gone_marked : (w : Walk) (m : Declared) (t : TypeIn) (i : ℕ) → holds_of g foreign m.written ≡ Some t → IsNumber (types_of g) t i → IsMarked w.reached i → HasGone g foreign (m ∷ []) w w
  gone_marked w m t i is first mark = record {
    count = refl;
    grows = λ k h. h;
    rest = refl;
    all = λ x u among holds. subst (λ (v : TypeIn). IsReached g foreign w.reached v) (same_Some t u (sym is ∙ ap (λ (d : Declared). holds_of g foreign d.written) (one_member m x among) ∙ holds)) (record { number = i; first = first; mark = mark });
    only = λ k h. inl h;
    kept = λ k h. h;
    more = λ k h. inl h;
  }

  -- what the member holds is reached now
  pub gone_new : (w v : Walk) (m : Declared) (t : TypeIn) (i : ℕ) → holds_of g foreign m.written ≡ Some t → IsNumber (types_of g) t i → slice_get w.reached i ≡ Some false
      → v.reached ≡ set w.reached i true → v.work ≡ w.work ++ i ∷ [] → HasGone g foreign (m ∷ []) w v
  gone_new w v m t i is first free reached work = record {
    count = ap length reached ∙ length-set w.reached i true;
    grows = λ k h. ap (λ (r : List Bool). slice_get r k) reached ∙ by_grow k h (same_or_not k i);
    rest =
        let a : count_of not (set w.reached i true) + 1 ≡ count_of not w.reached = count_set not w.reached i false true free refl refl in
        let b : length (w.work ++ i ∷ []) ≡ length w.work + 1 = length-append w.work (i ∷ []) in
        ap (λ (r : List Bool). count_of not r + length v.work) reached ∙ ap (λ (x : List ℕ). count_of not (set w.reached i true) + length x) work ∙ omega arith;
    all = λ x u among holds. subst (λ (y : TypeIn). IsReached g foreign v.reached y) (same_Some t u (sym is ∙ ap (λ (d : Declared). holds_of g foreign d.written) (one_member m x among) ∙ holds)) (record { number = i; first = first; mark = here });
    only = λ k h. by_only k (sym (ap (λ (r : List Bool). slice_get r k) reached) ∙ h) (same_or_not k i);
    kept = λ k h. subst (λ (x : List ℕ). Has x k) (sym work) (has_front w.work i k h);
    more = λ k h. by_more k (has_append w.work (i ∷ []) k (subst (λ (x : List ℕ). Has x k) work h));
  }
    where
      low : i < length w.reached
      low = slice_get_within w.reached i false free

      here : IsMarked v.reached i
      here = ap (λ (r : List Bool). slice_get r i) reached ∙ get_set_same w.reached i true low

      by_grow : (k : ℕ) → IsMarked w.reached k → (k ≡ i) ⊎ (k ≡ i → ⊥) → slice_get (set w.reached i true) k ≡ Some true
      by_grow k h (inl e) = ap (slice_get (set w.reached i true)) e ∙ get_set_same w.reached i true low
      by_grow k h (inr apart) = get_set_other w.reached i k true apart ∙ h

      by_only : (k : ℕ) → slice_get (set w.reached i true) k ≡ Some true → (k ≡ i) ⊎ (k ≡ i → ⊥) → IsMarked w.reached k ⊎ (Has v.work k × IsHeldBy g foreign (m ∷ []) k)
      by_only k h (inl e) =
          inr (
            subst (λ (x : List ℕ). Has x k) (sym work) (subst (λ (n : ℕ). Has (w.work ++ i ∷ []) n) (sym e) (has_last w.work i)),
            record { member = m; type = t; among = (zero, refl); held = is; first = subst (λ (n : ℕ). IsNumber (types_of g) t n) (sym e) first },
          )
      by_only k h (inr apart) = inl (sym (get_set_other w.reached i k true apart) ∙ h)

      by_more : (k : ℕ) → Has w.work k ⊎ Has (i ∷ []) k → Has w.work k ⊎ IsMarked v.reached k
      by_more k (inl h) = inl h
      by_more k (inr (zero, e)) = inr (subst (λ (n : ℕ). IsMarked v.reached n) (same_Some i k e) here)
      by_more k (inr (suc j, e)) = absurd (none-some k e)

  -- first to some, then to others
  pub gone_on : (xs ys : List Declared) (a b c : Walk) → HasGone g foreign xs a b → HasGone g foreign ys b c → HasGone g foreign (xs ++ ys) a c
  gone_on xs ys a b c h i = record {
    count = i.count ∙ h.count;
    grows = λ k e. i.grows k (h.grows k e);
    rest = i.rest ∙ h.rest;
    all = all;
    only = only;
    kept = λ k e. i.kept k (h.kept k e);
    more = more;
  }
    where
      all : AreReached g foreign c.reached (xs ++ ys)
      all m t among holds = by (has_append xs ys m among)
        where
          by : Has xs m ⊎ Has ys m → IsReached g foreign c.reached t
          by (inl x) = still_reached b.reached c.reached i.grows xs h.all m t x holds
          by (inr y) = i.all m t y holds

      only : (k : ℕ) → IsMarked c.reached k → IsMarked a.reached k ⊎ (Has c.work k × IsHeldBy g foreign (xs ++ ys) k)
      only k e = by (i.only k e)
        where
          again : IsMarked a.reached k ⊎ (Has b.work k × IsHeldBy g foreign xs k) → IsMarked a.reached k ⊎ (Has c.work k × IsHeldBy g foreign (xs ++ ys) k)
          again (inl d) = inl d
          again (inr p) = inr (i.kept k p.0, more_held xs ys k p.1)

          by : IsMarked b.reached k ⊎ (Has c.work k × IsHeldBy g foreign ys k) → IsMarked a.reached k ⊎ (Has c.work k × IsHeldBy g foreign (xs ++ ys) k)
          by (inl d) = again (h.only k d)
          by (inr p) = inr (p.0, more_held_right xs ys k p.1)

      more : (k : ℕ) → Has c.work k → Has a.work k ⊎ IsMarked c.reached k
      more k e = by (i.more k e)
        where
          again : Has a.work k ⊎ IsMarked b.reached k → Has a.work k ⊎ IsMarked c.reached k
          again (inl d) = inl d
          again (inr d) = inr (i.grows k d)

          by : Has b.work k ⊎ IsMarked c.reached k → Has a.work k ⊎ IsMarked c.reached k
          by (inl d) = again (h.more k d)
          by (inr d) = inr d

  pub gone_next : (ms : List Declared) (i : ℕ) (d : Declared) (a b c : Walk) → i < length ms → HasGone g foreign (take i ms) a b → HasGone g foreign (get_or ms i d ∷ []) b c → HasGone g foreign (take (i + 1) ms) a c
  gone_next ms i d a b c low h e = subst (λ (xs : List Declared). HasGone g foreign xs a c) (sym (take_next ms i d low)) (gone_on (take i ms) (get_or ms i d ∷ []) a b c h e)

  -- ---- the whole walk

  from_number : (ms : List Declared) (k : ℕ) (t : TypeIn) → slice_get (types_of g) k ≡ Some t → IsHeldBy g foreign ms k → (m : Declared) × Has ms m × (holds_of g foreign m.written ≡ Some t)
  from_number ms k t place h = (h.member, h.among, h.held ∙ sym h.first.0 ∙ place)

  pub walk_begins : (ms : List Declared) (a b : Walk) → length a.reached ≡ length (types_of g) → ((k : ℕ) → IsMarked a.reached k → ⊥) → ((k : ℕ) → Has a.work k → ⊥) → HasGone g foreign ms a b → IsWalk g foreign ms b
  walk_begins ms a b count fresh idle h = record {
    count = h.count ∙ count;
    sound = sound;
    marked = marked;
    closed = closed;
    start = h.all;
  }
    where
      sound : (k : ℕ) (t : TypeIn) → slice_get (types_of g) k ≡ Some t → IsMarked b.reached k → IsFrom g foreign ms t
      sound k t place mark = by (h.only k mark)
        where
          by : IsMarked a.reached k ⊎ (Has b.work k × IsHeldBy g foreign ms k) → IsFrom g foreign ms t
          by (inl e) = absurd (fresh k e)
          by (inr p) = let q = from_number ms k t place p.1 in record { member = q.0; type = t; steps = zero; among = q.1; held = q.2; way = refl }

      marked : (k : ℕ) → Has b.work k → IsMarked b.reached k
      marked k e = by (h.more k e)
        where
          by : Has a.work k ⊎ IsMarked b.reached k → IsMarked b.reached k
          by (inl d) = absurd (idle k d)
          by (inr d) = d

      closed : (k : ℕ) (t : TypeIn) → slice_get (types_of g) k ≡ Some t → IsMarked b.reached k → Has b.work k ⊎ AreReached g foreign b.reached (members_of t.decl)
      closed k t place mark = by (h.only k mark)
        where
          by : IsMarked a.reached k ⊎ (Has b.work k × IsHeldBy g foreign ms k) → Has b.work k ⊎ AreReached g foreign b.reached (members_of t.decl)
          by (inl e) = absurd (fresh k e)
          by (inr p) = inl p.0

  -- one step more from a type that a walk leads to
  further : (ms : List Declared) (t u : TypeIn) → IsFrom g foreign ms t → (m : Declared) → Has (members_of t.decl) m → holds_of g foreign m.written ≡ Some u → IsFrom g foreign ms u
  further ms t u from m among holds = record {
    member = from.member;
    type = from.type;
    steps = from.steps + 1;
    among = from.among;
    held = from.held;
    way = walk_join g foreign from.steps 1 from.type t u from.way (u, into_filtered (λ x. holds_of g foreign x.written) (members_of t.decl) m u among holds, refl);
  }

  -- the walk goes on from the last type that it has still to look at
  pub walk_goes : (ms : List Declared) (w a b : Walk) (next : ℕ) (t : TypeIn) → IsWalk g foreign ms w → a.reached ≡ w.reached → w.work ≡ a.work ++ next ∷ []
      → slice_get (types_of g) next ≡ Some t → HasGone g foreign (members_of t.decl) a b → IsWalk g foreign ms b
  walk_goes ms w a b next t walk same popped place h = record {
    count = h.count ∙ ap length same ∙ walk.count;
    sound = sound;
    marked = marked;
    closed = closed;
    start = still_reached w.reached b.reached grows ms walk.start;
  }
    where
      back : (k : ℕ) → IsMarked a.reached k → IsMarked w.reached k
      back k e = ap (λ r. slice_get r k) (sym same) ∙ e

      grows : (k : ℕ) → IsMarked w.reached k → IsMarked b.reached k
      grows k e = h.grows k (ap (λ r. slice_get r k) same ∙ e)

      next_from : IsFrom g foreign ms t
      next_from = walk.sound next t place (walk.marked next (subst (λ (xs : List ℕ). Has xs next) (sym popped) (has_last a.work next)))

      sound : (k : ℕ) (u : TypeIn) → slice_get (types_of g) k ≡ Some u → IsMarked b.reached k → IsFrom g foreign ms u
      sound k u at mark = by (h.only k mark)
        where
          by : IsMarked a.reached k ⊎ (Has b.work k × IsHeldBy g foreign (members_of t.decl) k) → IsFrom g foreign ms u
          by (inl e) = walk.sound k u at (back k e)
          by (inr p) = let q = from_number (members_of t.decl) k u at p.1 in further ms t u next_from q.0 q.1 q.2

      marked : (k : ℕ) → Has b.work k → IsMarked b.reached k
      marked k e = by (h.more k e)
        where
          by : Has a.work k ⊎ IsMarked b.reached k → IsMarked b.reached k
          by (inl d) = grows k (walk.marked k (subst (λ (xs : List ℕ). Has xs k) (sym popped) (has_front a.work next k d)))
          by (inr d) = d

      closed : (k : ℕ) (u : TypeIn) → slice_get (types_of g) k ≡ Some u → IsMarked b.reached k → Has b.work k ⊎ AreReached g foreign b.reached (members_of u.decl)
      closed k u at mark = by (h.only k mark)
        where
          there : k ≡ next → AreReached g foreign b.reached (members_of u.decl)
          there e = subst (λ (x : TypeIn). AreReached g foreign b.reached (members_of x.decl)) (same_Some t u (sym place ∙ ap (slice_get (types_of g)) (sym e) ∙ at)) h.all

          in_work : Has a.work k ⊎ Has (next ∷ []) k → Has b.work k ⊎ AreReached g foreign b.reached (members_of u.decl)
          in_work (inl d) = inl (h.kept k d)
          in_work (inr (zero, e)) = inr (there (sym (same_Some next k e)))
          in_work (inr (suc j, e)) = absurd (none-some k e)

          again : Has w.work k ⊎ AreReached g foreign w.reached (members_of u.decl) → Has b.work k ⊎ AreReached g foreign b.reached (members_of u.decl)
          again (inl e) = in_work (has_append a.work (next ∷ []) k (subst (λ (xs : List ℕ). Has xs k) popped e))
          again (inr all) = inr (still_reached w.reached b.reached grows (members_of u.decl) all)

          by : IsMarked a.reached k ⊎ (Has b.work k × IsHeldBy g foreign (members_of t.decl) k) → Has b.work k ⊎ AreReached g foreign b.reached (members_of u.decl)
          by (inl e) = again (walk.closed k u at (back k e))
          by (inr p) = inl p.0

  pub next_within : (ms : List Declared) (w : Walk) (rest : List ℕ) (next : ℕ) → IsWalk g foreign ms w → w.work ≡ rest ++ next ∷ [] → next < length (types_of g)
  next_within ms w rest next walk popped =
      let mark : IsMarked w.reached next = walk.marked next (subst (λ (xs : List ℕ). Has xs next) (sym popped) (has_last rest next)) in
      let low : next < length w.reached = slice_get_within w.reached next true mark in
      let count : length w.reached ≡ length (types_of g) = walk.count in
      omega arith

  -- ---- what the end of the walk tells

  reached_along : (r : List Bool) → ((k : ℕ) (t : TypeIn) → slice_get (types_of g) k ≡ Some t → IsMarked r k → AreReached g foreign r (members_of t.decl))
      → (n : ℕ) (a b : TypeIn) → IsReached g foreign r a → Holds g foreign n a b → IsReached g foreign r b
  reached_along r closed zero a b here e = subst (λ (t : TypeIn). IsReached g foreign r t) e here
  reached_along r closed (suc n) a b here h =
      let p = from_filtered (λ m. held_by (meaning g foreign m.written.base) m.written.stars) (members_of a.decl) h.0 h.1 in
      reached_along r closed n h.0 b (closed here.number a here.first.0 here.mark p.0 h.0 p.1 p.2) h.2

  pub walk_ends : (w : Walk) (number : ℕ) (t : TypeIn) (r : Bool) → slice_get (types_of g) number ≡ Some t → IsWalk g foreign (members_of t.decl) w → w.work ≡ [] → slice_get w.reached number ≡ Some r → IsItself g foreign number r
  walk_ends w number t true place walk idle mark = itself
    where
      itself : (u : TypeIn) → slice_get (types_of g) number ≡ Some u → HoldsItself g foreign u
      itself u at =
          let from = walk.sound number t place mark in
          subst (λ (x : TypeIn). HoldsItself g foreign x) (same_Some t u (sym place ∙ at))
          (from.steps, (from.type, into_filtered (λ x. holds_of g foreign x.written) (members_of t.decl) from.member from.type from.among from.held, from.way))
  walk_ends w number t false place walk idle mark = earlier
    where
      closed : (k : ℕ) (x : TypeIn) → slice_get (types_of g) k ≡ Some x → IsMarked w.reached k → AreReached g foreign w.reached (members_of x.decl)
      closed k x here e = by (walk.closed k x here e)
        where
          by : Has w.work k ⊎ AreReached g foreign w.reached (members_of x.decl) → AreReached g foreign w.reached (members_of x.decl)
          by (inl d) = let p = subst (λ (xs : List ℕ). Has xs k) idle d in absurd (none-some k p.1)
          by (inr all) = all

      earlier : (u : TypeIn) → slice_get (types_of g) number ≡ Some u → HoldsItself g foreign u → (k : ℕ) × (k < number) × (slice_get (types_of g) k ≡ Some u)
      earlier u at h = (found.number, below, found.first.0)
        where
          found : IsReached g foreign w.reached u
          found =
              let p = from_filtered (λ m. held_by (meaning g foreign m.written.base) m.written.stars) (members_of u.decl) h.1.0 h.1.1 in
              reached_along w.reached closed h.0 h.1.0 u (walk.start p.0 h.1.0 (subst (λ (x : TypeIn). Has (members_of x.decl) p.0) (sym (same_Some t u (sym place ∙ at))) p.1) p.2) h.1.2

          below : found.number < number
          below =
              let low = found.first.1 number at in
              let apart : found.number ≡ number → ⊥ = λ e. true-false (same_Some true false (sym found.mark ∙ ap (slice_get w.reached) e ∙ mark)) in
              omega arith
            where
              true-false : true ≡ false → ⊥
              true-false e = cc

  -- the marks of a fresh walk
  pub none_marked : (n k : ℕ) → IsMarked (replicate n false) k → ⊥
  none_marked zero k e = none-some true e
  none_marked (suc n) zero e = absurd (cc (same_Some false true e))
  none_marked (suc n) (suc k) e = none_marked n k e

  pub none_to_do : (k : ℕ) → Has {X = ℕ} [] k → ⊥
  none_to_do k (j, e) = none-some k e
