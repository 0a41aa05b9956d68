-- One step on a slot.
use Rattle.std.proofs.Common.{ℕ, ◌+◌, ◌%◌, ◌≡◌, ◌≢◌, ◌==◌, ◌⊎◌, inl, inr, IsTrue, Bool, true, false, ◌&&◌, if◌then◌else◌, refl, ap, sym, ◌∙◌, subst, arith}
use Rattle.std.proofs.lemmas.Bool.{eqb-true, eq-eqb}
use Rattle.std.proofs.lemmas.Bool.Decides.{eqb_tells}
use Rattle.word_port.specs.declared.Step.{Step}
use Rattle.word_port.specs.History.{word_after}
use Rattle.switchless.specs.Slots.{is_offered, is_done, done_word}
use Rattle.switchless_laws.specs.Phases.{Phase, idle, holds, seen, serves, FromIdle, FromHolding, FromSeen, FromServing, IsMoveAt, IsSettled, free, offered, accepted, held, noticed}
use Rattle.switchless_laws.specs.Tallies.{one_if, is_finish, is_collect, done_in}
use Rattle.switchless_laws.proofs.Words.{offered_tag, accepted_tag, done_tag, is_done-tag, nothing_done, one_done}

-- what a step does to the slot: the phase and the word before, those after, and how much was served and taken
data Effect (test : ℕ → Bool) (p : Phase) (v : ℕ) (m : Phase) (v2 served taken : ℕ) : Type 0 where
  changes_nothing : v2 ≡ v → m ≡ p → served ≡ 0 → taken ≡ 0 → Effect test p v m v2 served taken
  offers : (w : ℕ) → IsTrue (is_offered w) → p ≡ idle → v ≡ 0 → v2 ≡ w → m ≡ holds w → served ≡ 0 → taken ≡ 0 → Effect test p v m v2 served taken
  withdraws : (w : ℕ) → p ≡ holds w → v ≡ w → v2 ≡ 0 → m ≡ idle → served ≡ 0 → taken ≡ 0 → Effect test p v m v2 served taken
  accepts : (w : ℕ) → IsTrue (is_offered w) → p ≡ idle → v ≡ w → v2 ≡ w + 1 → m ≡ serves w → served ≡ 0 → taken ≡ 0 → Effect test p v m v2 served taken
  notices : (w : ℕ) → p ≡ holds w → is_done v ≡ true → v2 ≡ v → m ≡ seen w → served ≡ 0 → taken ≡ 0 → Effect test p v m v2 served taken
  finishes : (w status : ℕ) → p ≡ serves w → v2 ≡ done_word w status → m ≡ idle → served ≡ done_in test v2 → taken ≡ 0 → Effect test p v m v2 served taken
  collects : (w : ℕ) → p ≡ seen w → v2 ≡ 0 → m ≡ idle → served ≡ 0 → taken ≡ one_if (test v) → Effect test p v m v2 served taken

module _ (test : ℕ → Bool) (slot : ℕ) where
  abbrev EffectOf : Phase → Phase → Step → Type 0
  EffectOf p m s = Effect test p s.answer m (word_after s.kind s.first s.second s.answer) (one_if (is_finish test slot s)) (one_if (is_collect test slot s))

  try_offer : (w a : ℕ) (m : Phase) → IsTrue (is_offered w) → (b : Bool) → (a == 0) ≡ b → m ≡ (if b then holds w else idle) → Effect test idle a m (if b then w else a) 0 0
  try_offer w a m o true h n = offers w o refl (eqb-true a 0 h) refl n refl refl
  try_offer w a m o false h n = changes_nothing refl n refl refl

  try_accept : (w a : ℕ) (m : Phase) → IsTrue (is_offered w) → (b : Bool) → (a == w) ≡ b → m ≡ (if b then serves w else idle) → Effect test idle a m (if b then w + 1 else a) 0 0
  try_accept w a m o true h n = accepts w o refl (eqb-true a w h) refl n refl refl
  try_accept w a m o false h n = changes_nothing refl n refl refl

  try_look : (w a : ℕ) (m : Phase) → (b : Bool) → is_done a ≡ b → m ≡ (if b then seen w else holds w) → Effect test (holds w) a m a 0 0
  try_look w a m true h n = notices w refl h refl n refl refl
  try_look w a m false h n = changes_nothing refl n refl refl

  try_withdraw : (w a : ℕ) (m : Phase) → (b : Bool) → (a == w) ≡ b → m ≡ (if b then idle else holds w) → Effect test (holds w) a m (if b then 0 else a) 0 0
  try_withdraw w a m true h n = withdraws w refl (eqb-true a w h) refl n refl refl
  try_withdraw w a m false h n = changes_nothing refl n refl refl

  from_idle : (s : Step) (m : Phase) → FromIdle slot s m → EffectOf idle m s
  from_idle s m (FromIdle.looked e n) = subst (λ t. EffectOf idle m t) (sym e) (changes_nothing refl n refl refl)
  from_idle s m (FromIdle.offered w o e n) = subst (λ t. EffectOf idle m t) (sym e) (try_offer w s.answer m o (s.answer == 0) refl n)
  from_idle s m (FromIdle.accepted w o e n) = subst (λ t. EffectOf idle m t) (sym e) (try_accept w s.answer m o (s.answer == w) refl n)

  from_holding : (w : ℕ) (s : Step) (m : Phase) → FromHolding slot w s m → EffectOf (holds w) m s
  from_holding w s m (FromHolding.looked e n) = subst (λ t. EffectOf (holds w) m t) (sym e) (try_look w s.answer m (is_done s.answer) refl n)
  from_holding w s m (FromHolding.withdrew e n) = subst (λ t. EffectOf (holds w) m t) (sym e) (try_withdraw w s.answer m (s.answer == w) refl n)

  same_slot : (slot == slot) ≡ true
  same_slot = eq-eqb slot slot refl

  from_seen : (w : ℕ) (s : Step) (m : Phase) → FromSeen slot s m → EffectOf (seen w) m s
  from_seen w s m h = subst (λ t. EffectOf (seen w) m t) (sym h.collected)
      (collects w refl refl h.is_idle (ap (λ b. one_if (b && false)) same_slot) (ap (λ b. one_if (b && test s.answer)) same_slot))

  -- a finished word is not 0
  finish_tally : (n : ℕ) → one_if ((slot == slot) && (is_done n && test n)) ≡ done_in test n
  finish_tally n = ap (λ b. one_if (b && (is_done n && test n))) same_slot

  collect_tally : (w status a : ℕ) → one_if ((slot == slot) && ((done_word w status == 0) && test a)) ≡ 0
  collect_tally w status a = ap (λ b. one_if (b && ((done_word w status == 0) && test a))) same_slot ∙ ap (λ b. one_if (b && test a)) (not_empty (done_word w status == 0) refl)
    where
      not_empty : (b : Bool) → (done_word w status == 0) ≡ b → (done_word w status == 0) ≡ false
      not_empty true h = let e : done_word w status ≡ 0 = eqb-true _ 0 h in absurd (omega arith)
      not_empty false h = h

  from_serving : (w : ℕ) (s : Step) (m : Phase) → FromServing slot w s m → EffectOf (serves w) m s
  from_serving w s m h = subst (λ t. EffectOf (serves w) m t) (sym h.finished)
      (finishes w h.status refl refl h.is_idle (finish_tally (done_word w h.status)) (collect_tally w h.status s.answer))

  effect_of : (p : Phase) (s : Step) (m : Phase) → IsMoveAt slot p s m → EffectOf p m s
  effect_of idle s m h = from_idle s m h
  effect_of (holds w) s m h = from_holding w s m h
  effect_of (seen w) s m h = from_seen w s m h
  effect_of (serves w) s m h = from_serving w s m h

-- the word that a phase is about
word_of : Phase → ℕ
word_of idle = 0
word_of (holds w) = w
word_of (seen w) = w
word_of (serves w) = w

same_word_held : (w u : ℕ) → holds w ≡ holds u → w ≡ u
unfolding word_of
same_word_held w u e = ap word_of e

same_word_seen : (w u : ℕ) → seen w ≡ seen u → w ≡ u
unfolding word_of
same_word_seen w u e = ap word_of e

same_word_served : (w u : ℕ) → serves w ≡ serves u → w ≡ u
unfolding word_of
same_word_served w u e = ap word_of e

tags_differ : (n a b : ℕ) → n % 4 ≡ a → n % 4 ≡ b → a ≢ b → ⊥
tags_differ n a b p q d = d (sym p ∙ q)

zero_tag : (n : ℕ) → n ≡ 0 → n % 4 ≡ 0
zero_tag n e = omega arith

same_tag : (n w t : ℕ) → n ≡ w → w % 4 ≡ t → n % 4 ≡ t
same_tag n w t e h = ap (λ k. k % 4) e ∙ h

module _ (phases later : ℕ → Phase) (i : ℕ) (others : (k : ℕ) → k ≢ i → later k ≡ phases k) where
  -- the slot is settled still where no phase changed
  all_same : later i ≡ phases i → (k : ℕ) → later k ≡ phases k
  all_same e k = by_place (eqb_tells k i)
    where
      by_place : ((k == i) ≡ true) × (k ≡ i) ⊎ ((k == i) ≡ false) × (k ≢ i) → later k ≡ phases k
      by_place (inl h) = ap later h.1 ∙ e ∙ ap phases (sym h.1)
      by_place (inr h) = others k h.1

  module _ (same : (k : ℕ) → later k ≡ phases k) (v v2 : ℕ) (e : v2 ≡ v) where
    stays : IsSettled v phases → IsSettled v2 later
    stays (free z f) = free (e ∙ z) (λ k. same k ∙ f k)
    stays (offered w c o z hc f) = offered w c o (e ∙ z) (same c ∙ hc) (λ k n. same k ∙ f k n)
    stays (accepted w c d o z hc hd f) = accepted w c d o (e ∙ z) (same c ∙ hc) (same d ∙ hd) (λ k n m. same k ∙ f k n m)
    stays (held w st c o z hc f) = held w st c o (e ∙ z) (same c ∙ hc) (λ k n. same k ∙ f k n)
    stays (noticed w st c o z hc f) = noticed w st c o (e ∙ z) (same c ∙ hc) (λ k n. same k ∙ f k n)

  -- one with a phase that is not idle is the one that is not idle
  is_caller : (c : ℕ) (p : Phase) → (p ≡ idle → ⊥) → phases i ≡ p → ((k : ℕ) → k ≢ c → phases k ≡ idle) → i ≡ c
  is_caller c p busy h f = by_place (eqb_tells i c)
    where
      by_place : ((i == c) ≡ true) × (i ≡ c) ⊎ ((i == c) ≡ false) × (i ≢ c) → i ≡ c
      by_place (inl e) = e.1
      by_place (inr e) = absurd (busy (sym h ∙ f i e.1))

  -- all are idle, once the only one that was not is
  all_idle : (c : ℕ) → i ≡ c → later i ≡ idle → ((k : ℕ) → k ≢ c → phases k ≡ idle) → (k : ℕ) → later k ≡ idle
  all_idle c e n f k = by_place (eqb_tells k i)
    where
      by_place : ((k == i) ≡ true) × (k ≡ i) ⊎ ((k == i) ≡ false) × (k ≢ i) → later k ≡ idle
      by_place (inl h) = ap later h.1 ∙ n
      by_place (inr h) = others k h.1 ∙ f k (λ q. h.1 (q ∙ sym e))

  not_idle_held : (w : ℕ) → holds w ≡ idle → ⊥
  not_idle_held w e = cc

  not_idle_seen : (w : ℕ) → seen w ≡ idle → ⊥
  not_idle_seen w e = cc

  not_idle_serving : (w : ℕ) → serves w ≡ idle → ⊥
  not_idle_serving w e = cc

  -- who is idle is not the caller
  not_caller : (c : ℕ) (p : Phase) → (p ≡ idle → ⊥) → phases i ≡ idle → phases c ≡ p → c ≢ i
  not_caller c p busy h hc e = busy (sym hc ∙ ap phases e ∙ h)

  module _ (test : ℕ → Bool) (v v2 : ℕ) where
    abbrev Tallies : ℕ → ℕ → Type 0
    Tallies served taken = served + done_in test v ≡ taken + done_in test v2

    no_tally : (a b : ℕ) → v % 4 ≡ a → v2 % 4 ≡ b → a ≢ 3 → b ≢ 3 → (served taken : ℕ) → served ≡ 0 → taken ≡ 0 → Tallies served taken
    no_tally a b p q m n served taken s t =
        let x : done_in test v ≡ 0 = nothing_done test v (λ e. m (sym p ∙ e)) in
        let y : done_in test v2 ≡ 0 = nothing_done test v2 (λ e. n (sym q ∙ e)) in
        omega (arith, x, y)

    module _ (served taken : ℕ) where
      abbrev Kept : Type 0
      Kept = IsSettled v2 later × Tallies served taken

      on_nothing : v2 ≡ v → later i ≡ phases i → served ≡ 0 → taken ≡ 0 → IsSettled v phases → Kept
      on_nothing e m s t h =
          let x : done_in test v2 ≡ done_in test v = ap (done_in test) e in
          (stays (all_same m) v v2 e h, omega (arith, x))

      on_offer : (w : ℕ) → IsTrue (is_offered w) → phases i ≡ idle → v ≡ 0 → v2 ≡ w → later i ≡ holds w → served ≡ 0 → taken ≡ 0 → IsSettled v phases → Kept
      on_offer w o p z e m s t (free y f) =
          (offered w i o e m (λ k n. others k n ∙ f k), no_tally 0 1 (zero_tag v z) (same_tag v2 w 1 e (offered_tag w o)) (λ q. omega arith) (λ q. omega arith) served taken s t)
      on_offer w o p z e m s t (offered u c ou y hc f) = absurd (tags_differ v 0 1 (zero_tag v z) (same_tag v u 1 y (offered_tag u ou)) (λ q. omega arith))
      on_offer w o p z e m s t (accepted u c d ou y hc hd f) = absurd (tags_differ v 0 2 (zero_tag v z) (same_tag v (u + 1) 2 y (accepted_tag u (offered_tag u ou))) (λ q. omega arith))
      on_offer w o p z e m s t (held u st c ou y hc f) = absurd (tags_differ v 0 3 (zero_tag v z) (same_tag v (done_word u st) 3 y (done_tag u st (offered_tag u ou))) (λ q. omega arith))
      on_offer w o p z e m s t (noticed u st c ou y hc f) = absurd (tags_differ v 0 3 (zero_tag v z) (same_tag v (done_word u st) 3 y (done_tag u st (offered_tag u ou))) (λ q. omega arith))

      on_withdrawal : (w : ℕ) → phases i ≡ holds w → v ≡ w → v2 ≡ 0 → later i ≡ idle → served ≡ 0 → taken ≡ 0 → IsSettled v phases → Kept
      on_withdrawal w p z e m s t (free y f) = let a : phases i ≡ idle = f i in absurd (not_idle_held w (sym p ∙ a))
      on_withdrawal w p z e m s t (offered u c ou y hc f) =
          (free e (all_idle c (is_caller c (holds w) (not_idle_held w) p f) m f), no_tally 1 0 (same_tag v u 1 y (offered_tag u ou)) (zero_tag v2 e) (λ q. omega arith) (λ q. omega arith) served taken s t)
      on_withdrawal w p z e m s t (accepted u c d ou y hc hd f) = by_place (eqb_tells i c) (eqb_tells i d)
        where
          by_place : ((i == c) ≡ true) × (i ≡ c) ⊎ ((i == c) ≡ false) × (i ≢ c) → ((i == d) ≡ true) × (i ≡ d) ⊎ ((i == d) ≡ false) × (i ≢ d) → Kept
          by_place (inl q) b = let same : w ≡ u = same_word_held w u (sym p ∙ ap phases q.1 ∙ hc) in let tag : u % 4 ≡ 1 = offered_tag u ou in absurd (omega arith)
          by_place (inr q) (inl r) = let a : phases i ≡ serves u = ap phases r.1 ∙ hd in cc
          by_place (inr q) (inr r) = absurd (not_idle_held w (sym p ∙ f i q.1 r.1))
      on_withdrawal w p z e m s t (held u st c ou y hc f) =
          let same : w ≡ u = same_word_held w u (sym p ∙ ap phases (is_caller c (holds w) (not_idle_held w) p f) ∙ hc) in
          let tag : u % 4 ≡ 1 = offered_tag u ou in
          let tags : v % 4 ≡ 3 = same_tag v (done_word u st) 3 y (done_tag u st tag) in
          absurd (omega (arith, same, tag, tags, z))
      on_withdrawal w p z e m s t (noticed u st c ou y hc f) =
          let a : phases i ≡ seen u = ap phases (is_caller c (holds w) (not_idle_held w) p f) ∙ hc in cc

      on_acceptance : (w : ℕ) → IsTrue (is_offered w) → phases i ≡ idle → v ≡ w → v2 ≡ w + 1 → later i ≡ serves w → served ≡ 0 → taken ≡ 0 → IsSettled v phases → Kept
      on_acceptance w o p z e m s t (free y f) = absurd (tags_differ v 0 1 (zero_tag v y) (same_tag v w 1 z (offered_tag w o)) (λ q. omega arith))
      on_acceptance w o p z e m s t (offered u c ou y hc f) =
          let same : u ≡ w = sym y ∙ z in
          let apart : c ≢ i = not_caller c (holds u) (not_idle_held u) p hc in (
            accepted w c i o e (others c apart ∙ hc ∙ ap holds same) m (λ k n l. others k l ∙ f k n),
            no_tally 1 2 (same_tag v w 1 z (offered_tag w o)) (same_tag v2 (w + 1) 2 e (accepted_tag w (offered_tag w o))) (λ q. omega arith) (λ q. omega arith) served taken s t,
          )
      on_acceptance w o p z e m s t (accepted u c d ou y hc hd f) = absurd (tags_differ v 1 2 (same_tag v w 1 z (offered_tag w o)) (same_tag v (u + 1) 2 y (accepted_tag u (offered_tag u ou))) (λ q. omega arith))
      on_acceptance w o p z e m s t (held u st c ou y hc f) = absurd (tags_differ v 1 3 (same_tag v w 1 z (offered_tag w o)) (same_tag v (done_word u st) 3 y (done_tag u st (offered_tag u ou))) (λ q. omega arith))
      on_acceptance w o p z e m s t (noticed u st c ou y hc f) = absurd (tags_differ v 1 3 (same_tag v w 1 z (offered_tag w o)) (same_tag v (done_word u st) 3 y (done_tag u st (offered_tag u ou))) (λ q. omega arith))

      on_notice : (w : ℕ) → phases i ≡ holds w → is_done v ≡ true → v2 ≡ v → later i ≡ seen w → served ≡ 0 → taken ≡ 0 → IsSettled v phases → Kept
      on_notice w p z e m s t (free y f) = absurd (not_idle_held w (sym p ∙ f i))
      on_notice w p z e m s t (offered u c ou y hc f) = absurd (tags_differ v 3 1 (is_done-tag v z) (same_tag v u 1 y (offered_tag u ou)) (λ q. omega arith))
      on_notice w p z e m s t (accepted u c d ou y hc hd f) = absurd (tags_differ v 3 2 (is_done-tag v z) (same_tag v (u + 1) 2 y (accepted_tag u (offered_tag u ou))) (λ q. omega arith))
      on_notice w p z e m s t (held u st c ou y hc f) =
          let at : i ≡ c = is_caller c (holds w) (not_idle_held w) p f in
          let same : w ≡ u = same_word_held w u (sym p ∙ ap phases at ∙ hc) in
          let x : done_in test v2 ≡ done_in test v = ap (done_in test) e in
          (noticed u st c ou (e ∙ y) (ap later (sym at) ∙ m ∙ ap seen same) (λ k n. others k (λ q. n (q ∙ at)) ∙ f k n), omega (arith, x))
      on_notice w p z e m s t (noticed u st c ou y hc f) =
          let a : phases i ≡ seen u = ap phases (is_caller c (holds w) (not_idle_held w) p f) ∙ hc in cc

      on_finish : (w status : ℕ) → phases i ≡ serves w → v2 ≡ done_word w status → later i ≡ idle → served ≡ done_in test v2 → taken ≡ 0 → IsSettled v phases → Kept
      on_finish w status p e m s t (free y f) = absurd (not_idle_serving w (sym p ∙ f i))
      on_finish w status p e m s t (offered u c ou y hc f) =
          let a : phases i ≡ holds u = ap phases (is_caller c (serves w) (not_idle_serving w) p f) ∙ hc in cc
      on_finish w status p e m s t (accepted u c d ou y hc hd f) = by_place (eqb_tells i c) (eqb_tells i d)
        where
          by_place : ((i == c) ≡ true) × (i ≡ c) ⊎ ((i == c) ≡ false) × (i ≢ c) → ((i == d) ≡ true) × (i ≡ d) ⊎ ((i == d) ≡ false) × (i ≢ d) → Kept
          by_place (inl q) b = let a : phases i ≡ holds u = ap phases q.1 ∙ hc in cc
          by_place (inr q) (inl r) =
              let same : w ≡ u = same_word_served w u (sym p ∙ ap phases r.1 ∙ hd) in
              let x : done_in test v ≡ 0 = nothing_done test v (λ g. tags_differ v 2 3 (same_tag v (u + 1) 2 y (accepted_tag u (offered_tag u ou))) g (λ l. omega arith)) in
              (held u status c ou (e ∙ ap (λ n. done_word n status) same) (others c (λ n. q.1 (sym n)) ∙ hc) (λ k n. by_worker k n (eqb_tells k i)), omega (arith, x))
            where
              by_worker : (k : ℕ) → k ≢ c → ((k == i) ≡ true) × (k ≡ i) ⊎ ((k == i) ≡ false) × (k ≢ i) → later k ≡ idle
              by_worker k n (inl g) = ap later g.1 ∙ m
              by_worker k n (inr g) = others k g.1 ∙ f k n (λ l. g.1 (l ∙ sym r.1))
          by_place (inr q) (inr r) = absurd (not_idle_serving w (sym p ∙ f i q.1 r.1))
      on_finish w status p e m s t (held u st c ou y hc f) =
          let a : phases i ≡ holds u = ap phases (is_caller c (serves w) (not_idle_serving w) p f) ∙ hc in cc
      on_finish w status p e m s t (noticed u st c ou y hc f) =
          let a : phases i ≡ seen u = ap phases (is_caller c (serves w) (not_idle_serving w) p f) ∙ hc in cc

      on_collection : (w : ℕ) → phases i ≡ seen w → v2 ≡ 0 → later i ≡ idle → served ≡ 0 → taken ≡ one_if (test v) → IsSettled v phases → Kept
      on_collection w p e m s t (free y f) = absurd (not_idle_seen w (sym p ∙ f i))
      on_collection w p e m s t (offered u c ou y hc f) =
          let a : phases i ≡ holds u = ap phases (is_caller c (seen w) (not_idle_seen w) p f) ∙ hc in cc
      on_collection w p e m s t (accepted u c d ou y hc hd f) = by_place (eqb_tells i c) (eqb_tells i d)
        where
          by_place : ((i == c) ≡ true) × (i ≡ c) ⊎ ((i == c) ≡ false) × (i ≢ c) → ((i == d) ≡ true) × (i ≡ d) ⊎ ((i == d) ≡ false) × (i ≢ d) → Kept
          by_place (inl q) b = let a : phases i ≡ holds u = ap phases q.1 ∙ hc in cc
          by_place (inr q) (inl r) = let a : phases i ≡ serves u = ap phases r.1 ∙ hd in cc
          by_place (inr q) (inr r) = absurd (not_idle_seen w (sym p ∙ f i q.1 r.1))
      on_collection w p e m s t (held u st c ou y hc f) =
          let a : phases i ≡ holds u = ap phases (is_caller c (seen w) (not_idle_seen w) p f) ∙ hc in cc
      on_collection w p e m s t (noticed u st c ou y hc f) =
          let x : done_in test v ≡ one_if (test v) = one_done test v (same_tag v (done_word u st) 3 y (done_tag u st (offered_tag u ou))) in
          let z : done_in test v2 ≡ 0 = nothing_done test v2 (λ g. tags_differ v2 0 3 (zero_tag v2 e) g (λ l. omega arith)) in
          (free e (all_idle c (is_caller c (seen w) (not_idle_seen w) p f) m f), omega (arith, x, z))

      -- any effect keeps the slot settled, and the tallies
      keeps_effect : Effect test (phases i) v (later i) v2 served taken → IsSettled v phases → Kept
      keeps_effect (changes_nothing e m s t) h = on_nothing e m s t h
      keeps_effect (offers w o p z e m s t) h = on_offer w o p z e m s t h
      keeps_effect (withdraws w p z e m s t) h = on_withdrawal w p z e m s t h
      keeps_effect (accepts w o p z e m s t) h = on_acceptance w o p z e m s t h
      keeps_effect (notices w p z e m s t) h = on_notice w p z e m s t h
      keeps_effect (finishes w status p e m s t) h = on_finish w status p e m s t h
      keeps_effect (collects w p e m s t) h = on_collection w p e m s t h

-- a step of one participant on the slot
pub step_there : (test : ℕ → Bool) (slot : ℕ) (phases later : ℕ → Phase) (i : ℕ) → ((k : ℕ) → k ≢ i → later k ≡ phases k)
    → (s : Step) → IsMoveAt slot (phases i) s (later i) → IsSettled s.answer phases
    → IsSettled (word_after s.kind s.first s.second s.answer) later
    × (one_if (is_finish test slot s) + done_in test s.answer ≡ one_if (is_collect test slot s) + done_in test (word_after s.kind s.first s.second s.answer))
step_there test slot phases later i others s move h =
    keeps_effect phases later i others test s.answer (word_after s.kind s.first s.second s.answer) (one_if (is_finish test slot s)) (one_if (is_collect test slot s))
    (effect_of test slot (phases i) s (later i) move) h

-- a step of one participant elsewhere
pub step_elsewhere : (phases later : ℕ → Phase) (i : ℕ) → ((k : ℕ) → k ≢ i → later k ≡ phases k) → later i ≡ phases i
    → (v : ℕ) → IsSettled v phases → IsSettled v later
step_elsewhere phases later i others e v h = stays phases later i others (all_same phases later i others e) v v refl h
